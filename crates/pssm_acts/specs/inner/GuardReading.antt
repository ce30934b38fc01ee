-- What one token makes of a guard that has been read in part, and what a whole text is read as: the tree, or its first fault (this profile's choice).
use Rattle.std.specs.Prelude.{◌+◌, ◌-◌, ℕ, suc, zero, List, [], ◌∷◌, length, Option, Some, None, Result, Ok, Err, nat_lt, if◌then◌else◌}
use Rattle.pssm_acts.specs.declared.act_fault.ActFault.{ActFault}
use Rattle.pssm_acts.specs.declared.act_fault.ActFault.TheVariants.{Syntax, TooLong}
use Rattle.pssm_semantics.specs.declared.setting.Names.{Names}
use Rattle.pssm_acts.specs.declared.token.Kind.{Kind}
use Rattle.pssm_acts.specs.declared.token.Kind.TheVariants as kinds
use Rattle.pssm_semantics.specs.declared.tree.Cond.{Cond}
use Rattle.pssm_semantics.specs.declared.tree.Cond.TheVariants.{True, False, Compare}
use Rattle.pssm_semantics.specs.declared.tree.Cond.TheViews as guards
use Rattle.pssm_acts.specs.declared.expr_reader.ExprReader.{ExprReader}
use Rattle.pssm_acts.specs.declared.guard_reader.Before.{Before}
use Rattle.pssm_acts.specs.declared.guard_reader.Bracket.{Bracket}
use Rattle.pssm_acts.specs.declared.guard_reader.Half.{Half}
use Rattle.pssm_acts.specs.declared.guard_reader.Stage.{Stage}
use Rattle.pssm_acts.specs.declared.guard_reader.Stage.TheVariants.{Wants, First, Second, Has}
use Rattle.pssm_acts.specs.declared.guard_reader.GuardReader.{GuardReader}
use Rattle.pssm_acts.specs.inner.ExprReading.{and_then, expr_step, expr_value, fresh_expr}
use Rattle.pssm_acts.specs.inner.Readers.{read_through}
use Rattle.pssm_acts.specs.Tokens.{Token, tokens_of}

-- nothing stands before a unit
abbrev pub nothing_before : Before
nothing_before = record { both = None; nots = 0 }

-- a guard of which nothing has been read
abbrev pub fresh_guard : GuardReader
fresh_guard = record { outer = []; either = None; stage = Wants nothing_before }

-- so many `!` and a guard behind them
abbrev pub nots_of : ℕ → Cond → Cond
nots_of zero c = c
nots_of (suc n) c = guards.Not (nots_of n c)

-- a guard and `&&`, where there is one, and a guard behind it
abbrev pub conjunction_of : Option Cond → Cond → Cond
conjunction_of None c = c
conjunction_of (Some both) c = guards.And both c

-- a guard and `||`, where there is one, and a guard behind it
abbrev pub disjunction_of : Option Cond → Cond → Cond
disjunction_of None c = c
disjunction_of (Some either) c = guards.Or either c

-- a unit with what stands before it
abbrev pub unit_of : Before → Cond → Cond
unit_of before c = conjunction_of before.both (nots_of before.nots c)

-- a bracket opens, where there is room for its level
unfoldable pub bracket_opened : ℕ → List Bracket → Bracket → ℕ → Result GuardReader ActFault
bracket_opened room outer bracket at =
    if nat_lt (length outer) room then Ok (record { outer = bracket ∷ outer; either = None; stage = Wants nothing_before }) else Err (TooLong at)

-- units joined by `&&` have been read
abbrev pub with_unit : List Bracket → Option Cond → Cond → GuardReader
with_unit outer either c = record { outer = outer; either = either; stage = Has c }

-- the first token of a comparison
unfoldable pub side_begun : Names → ℕ → List Bracket → Option Cond → Before → Token → Result GuardReader ActFault
side_begun names room outer either before t =
    and_then (expr_step names (room - length outer) fresh_expr t) (λ side. Ok (record { outer = outer; either = either; stage = First before side }))

-- a token where a unit may stand
abbrev pub unit_wanted_by : Kind → Names → ℕ → List Bracket → Option Cond → Before → Token → Result GuardReader ActFault
unit_wanted_by kinds.OpenBracket names room outer either before t = bracket_opened room outer (record { either = either; before = before }) t.at
unit_wanted_by kinds.Not names room outer either before t = Ok (record { outer = outer; either = either; stage = Wants (record { both = before.both; nots = before.nots + 1 }) })
unit_wanted_by kinds.True names room outer either before t = Ok (with_unit outer either (unit_of before True))
unit_wanted_by kinds.False names room outer either before t = Ok (with_unit outer either (unit_of before False))
unit_wanted_by kind names room outer either before t = side_begun names room outer either before t

unfoldable pub unit_wanted : Names → ℕ → List Bracket → Option Cond → Before → Token → Result GuardReader ActFault
unit_wanted names room outer either before t = unit_wanted_by t.kind names room outer either before t

-- a token in the left side of a comparison; so many levels of parentheses may be open
abbrev pub in_first_by : Kind → Names → ℕ → Before → ExprReader → Token → Result Stage ActFault
in_first_by (kinds.Relation rel) names room before side t = and_then (expr_value side t.at) (λ left. Ok (Second (record { before = before; rel = rel; left = left; side = fresh_expr })))
in_first_by kind names room before side t = and_then (expr_step names room side t) (λ more. Ok (First before more))

unfoldable pub in_first : Names → ℕ → Before → ExprReader → Token → Result Stage ActFault
in_first names room before side t = in_first_by t.kind names room before side t

-- a comparison with what stands before it, where its right side may end at this byte
unfoldable pub compared : Half → ℕ → Result Cond ActFault
compared half at = and_then (expr_value half.side at) (λ right. Ok (unit_of half.before (Compare half.rel half.left right)))

-- a closing bracket behind units that are joined by `&&`
unfoldable pub bracket_closed : List Bracket → Option Cond → Cond → ℕ → Result GuardReader ActFault
bracket_closed [] either c at = Err (Syntax at)
bracket_closed (bracket ∷ outer) either c at = Ok (with_unit outer bracket.either (unit_of bracket.before (disjunction_of either c)))

-- a token behind units that are joined by `&&`
abbrev pub after_unit_by : Kind → List Bracket → Option Cond → Cond → ℕ → Result GuardReader ActFault
after_unit_by kinds.And outer either c at = Ok (record { outer = outer; either = either; stage = Wants (record { both = Some c; nots = 0 }) })
after_unit_by kinds.Or outer either c at = Ok (record { outer = outer; either = Some (disjunction_of either c); stage = Wants nothing_before })
after_unit_by kinds.CloseBracket outer either c at = bracket_closed outer either c at
after_unit_by kind outer either c at = Err (Syntax at)

unfoldable pub after_unit : List Bracket → Option Cond → Cond → Token → Result GuardReader ActFault
after_unit outer either c t = after_unit_by t.kind outer either c t.at

-- The token ends a comparison: `&&`, `||` or `]`.
abbrev pub in_second_by : Kind → Names → ℕ → List Bracket → Option Cond → Half → Token → Result GuardReader ActFault
in_second_by kinds.And names room outer either half t = and_then (compared half t.at) (λ c. after_unit outer either c t)
in_second_by kinds.Or names room outer either half t = and_then (compared half t.at) (λ c. after_unit outer either c t)
in_second_by kinds.CloseBracket names room outer either half t = and_then (compared half t.at) (λ c. after_unit outer either c t)
in_second_by kind names room outer either half t =
    and_then (expr_step names (room - length outer) half.side t) (λ more. Ok (record { outer = outer; either = either; stage = Second (record { before = half.before; rel = half.rel; left = half.left; side = more }) }))

-- a token in the right side of a comparison
unfoldable pub in_second : Names → ℕ → List Bracket → Option Cond → Half → Token → Result GuardReader ActFault
in_second names room outer either half t = in_second_by t.kind names room outer either half t

-- the same brackets round another stage
abbrev pub at_stage : List Bracket → Option Cond → Stage → GuardReader
at_stage outer either stage = record { outer = outer; either = either; stage = stage }

-- the next token of a guard; so many levels of brackets and parentheses may be open
abbrev pub guard_step_at : Stage → Names → ℕ → List Bracket → Option Cond → Token → Result GuardReader ActFault
guard_step_at (Wants before) names room outer either t = unit_wanted names room outer either before t
guard_step_at (First before side) names room outer either t = and_then (in_first names (room - length outer) before side t) (λ stage. Ok (at_stage outer either stage))
guard_step_at (Second half) names room outer either t = in_second names room outer either half t
guard_step_at (Has c) names room outer either t = after_unit outer either c t

unfoldable pub guard_step : Names → ℕ → GuardReader → Token → Result GuardReader ActFault
guard_step names room reader t = guard_step_at reader.stage names room reader.outer reader.either t

-- how many `!` wait for a unit
abbrev pub nots_at : Stage → ℕ
nots_at (Wants before) = before.nots
nots_at stage = 0

abbrev pub nots_waiting : GuardReader → ℕ
nots_waiting reader = nots_at reader.stage

-- the guard that has been read, where no bracket is open
abbrev pub whole_guard : List Bracket → Option Cond → Cond → ℕ → Result Cond ActFault
whole_guard [] either c at = Ok (disjunction_of either c)
whole_guard (bracket ∷ outer) either c at = Err (Syntax at)

abbrev pub guard_value_at : Stage → List Bracket → Option Cond → ℕ → Result Cond ActFault
guard_value_at (Second half) outer either at = and_then (compared half at) (λ c. whole_guard outer either c at)
guard_value_at (Has c) outer either at = whole_guard outer either c at
guard_value_at stage outer either at = Err (Syntax at)

-- the guard that has been read, where it may end at this byte
unfoldable pub guard_value : GuardReader → ℕ → Result Cond ActFault
guard_value reader at = guard_value_at reader.stage reader.outer reader.either at

-- token after token to the end of the text, which is at this byte
abbrev pub guard_read : Names → ℕ → GuardReader → List Token → Result Cond ActFault
guard_read names end reader ts = read_through (guard_step names 16) (λ r. guard_value r end) reader ts

-- the tokens of a text from the first on
abbrev pub text_reading : Names → List ℕ → Result Cond ActFault
text_reading names text = guard_read names (length text) fresh_guard (tokens_of text)

-- a whole text, of at most 4,096 bytes
unfoldable pub cond_reading : Names → List ℕ → Result Cond ActFault
cond_reading names text = if nat_lt 4096 (length text) then Err (TooLong 0) else text_reading names text
