-- Each token adds at most one `!` to those that wait for a unit.
use Rattle.std.proofs.Common.{◌≡◌, ◌≤◌, ◌+◌, ◌-◌, ℕ, ltb, List, [], ◌∷◌, length, Option, Some, None, Result, Ok, Err, refl, subst, arith}
use Rattle.pssm_acts.specs.declared.act_fault.ActFault.{ActFault}
use Rattle.pssm_acts.specs.declared.act_fault.ActFault.TheVariants.{Syntax, TooLong}
use Rattle.pssm_semantics.specs.declared.setting.Names.{Names}
use Rattle.pssm_acts.specs.declared.token.Kind.{Kind}
use Rattle.pssm_acts.specs.declared.token.Kind.TheVariants as kinds
use Rattle.pssm_semantics.specs.declared.tree.Expr.{Expr}
use Rattle.pssm_semantics.specs.declared.tree.Rel.{Rel}
use Rattle.pssm_semantics.specs.declared.tree.Cond.{Cond}
use Rattle.pssm_semantics.specs.declared.tree.Cond.TheVariants.{True, False}
use Rattle.pssm_acts.specs.declared.expr_reader.ExprReader.{ExprReader}
use Rattle.pssm_acts.specs.declared.guard_reader.Before.{Before}
use Rattle.pssm_acts.specs.declared.guard_reader.Bracket.{Bracket}
use Rattle.pssm_acts.specs.declared.guard_reader.Half.{Half}
use Rattle.pssm_acts.specs.declared.guard_reader.Stage.{Stage}
use Rattle.pssm_acts.specs.declared.guard_reader.Stage.TheVariants.{Wants, First, Second, Has}
use Rattle.pssm_acts.specs.declared.guard_reader.GuardReader.{GuardReader}
use Rattle.pssm_acts.specs.Tokens.{Token}
use Rattle.pssm_acts.specs.inner.ExprReading.{and_then, expr_step, expr_value, fresh_expr}
use Rattle.pssm_acts.specs.inner.GuardReading.{nothing_before, disjunction_of, unit_of, bracket_opened, side_begun, unit_wanted, in_first, compared, bracket_closed, after_unit, in_second, guard_step, nots_waiting}
use Rattle.pssm_acts.proofs.AnswerLaws.{read, never_read, read_same, passed, room_for}

abbrev token_as : ℕ → Kind → List ℕ → Token
token_as at kind word = record { at = at; kind = kind; word = word }

abbrev guard_at : List Bracket → Option Cond → Stage → GuardReader
guard_at outer waiting stage = record { outer = outer; either = waiting; stage = stage }

-- A reader that has been read as one where no `!` waits.
no_nots : (m n : GuardReader) → nots_waiting m ≡ 0 → read m ≡ read n → nots_waiting n ≡ 0
no_nots m n none step = subst (λ x. nots_waiting x ≡ 0) (read_same m n step) none

after_nots : (outer : List Bracket) (waiting : Option Cond) (c : Cond) (n : GuardReader) (kind : Kind) (at : ℕ) (word : List ℕ) → after_unit outer waiting c (token_as at kind word) ≡ Ok n → nots_waiting n ≡ 0
unfolding after_unit bracket_closed
after_nots outer waiting c n kinds.And at word step = no_nots (guard_at outer waiting (Wants (record { both = Some c; nots = 0 }))) n refl step
after_nots outer waiting c n kinds.Or at word step = no_nots (guard_at outer (Some (disjunction_of waiting c)) (Wants nothing_before)) n refl step
after_nots [] waiting c n kinds.CloseBracket at word step = absurd (never_read (Syntax at) n step)
after_nots (bracket ∷ outer) waiting c n kinds.CloseBracket at word step = no_nots (guard_at outer bracket.either (Has (unit_of bracket.before (disjunction_of waiting c)))) n refl step
after_nots outer waiting c n kind at word step = absurd (never_read (Syntax at) n step)

compared_nots : (outer : List Bracket) (waiting : Option Cond) (half : Half) (n : GuardReader) (kind : Kind) (at : ℕ) (word : List ℕ) → and_then (compared half at) (λ c. after_unit outer waiting c (token_as at kind word)) ≡ Ok n → nots_waiting n ≡ 0
compared_nots outer waiting half n kind at word step = let it = passed (compared half at) _ n step in after_nots outer waiting it.0 n kind at word it.2

side_nots : (outer : List Bracket) (waiting : Option Cond) (half : Half) (n : GuardReader) (r : Result ExprReader ActFault)
    → and_then r (λ more. Ok (guard_at outer waiting (Second (record { before = half.before; rel = half.rel; left = half.left; side = more })))) ≡ Ok n → nots_waiting n ≡ 0
side_nots outer waiting half n (Ok more) is = no_nots (guard_at outer waiting (Second (record { before = half.before; rel = half.rel; left = half.left; side = more }))) n refl is
side_nots outer waiting half n (Err fault) is = absurd (never_read fault n is)

second_nots : (names : Names) (room : ℕ) (outer : List Bracket) (waiting : Option Cond) (half : Half) (n : GuardReader) (kind : Kind) (at : ℕ) (word : List ℕ) → in_second names room outer waiting half (token_as at kind word) ≡ Ok n → nots_waiting n ≡ 0
unfolding in_second
second_nots names room outer waiting half n kinds.And at word step = compared_nots outer waiting half n kinds.And at word step
second_nots names room outer waiting half n kinds.Or at word step = compared_nots outer waiting half n kinds.Or at word step
second_nots names room outer waiting half n kinds.CloseBracket at word step = compared_nots outer waiting half n kinds.CloseBracket at word step
second_nots names room outer waiting half n kind at word step = side_nots outer waiting half n (expr_step names (room - length outer) half.side (token_as at kind word)) step

ended_nots : (outer : List Bracket) (waiting : Option Cond) (before : Before) (rel : Rel) (n : GuardReader) (r : Result Expr ActFault)
    → and_then (and_then r (λ left. Ok (Second (record { before = before; rel = rel; left = left; side = fresh_expr })))) (λ stage. Ok (guard_at outer waiting stage)) ≡ Ok n → nots_waiting n ≡ 0
ended_nots outer waiting before rel n (Ok a) is = no_nots (guard_at outer waiting (Second (record { before = before; rel = rel; left = a; side = fresh_expr }))) n refl is
ended_nots outer waiting before rel n (Err fault) is = absurd (never_read fault n is)

longer_nots : (outer : List Bracket) (waiting : Option Cond) (before : Before) (n : GuardReader) (r : Result ExprReader ActFault)
    → and_then (and_then r (λ more. Ok (First before more))) (λ stage. Ok (guard_at outer waiting stage)) ≡ Ok n → nots_waiting n ≡ 0
longer_nots outer waiting before n (Ok more) is = no_nots (guard_at outer waiting (First before more)) n refl is
longer_nots outer waiting before n (Err fault) is = absurd (never_read fault n is)

first_nots : (names : Names) (room : ℕ) (outer : List Bracket) (waiting : Option Cond) (before : Before) (side : ExprReader) (n : GuardReader) (kind : Kind) (at : ℕ) (word : List ℕ)
    → and_then (in_first names (room - length outer) before side (token_as at kind word)) (λ stage. Ok (guard_at outer waiting stage)) ≡ Ok n → nots_waiting n ≡ 0
unfolding in_first
first_nots names room outer waiting before side n (kinds.Relation rel) at word step = ended_nots outer waiting before rel n (expr_value side at) step
first_nots names room outer waiting before side n kind at word step = longer_nots outer waiting before n (expr_step names (room - length outer) side (token_as at kind word)) step

opened_nots : (room : ℕ) (outer : List Bracket) (bracket : Bracket) (n : GuardReader) (at : ℕ) → bracket_opened room outer bracket at ≡ Ok n → nots_waiting n ≡ 0
unfolding bracket_opened
opened_nots room outer bracket n at step =
    let opened = guard_at (bracket ∷ outer) None (Wants nothing_before) in
    let it = room_for (ltb (length outer) room) (Ok opened) (TooLong at) n step in
    no_nots opened n refl it.1

begun_nots : (names : Names) (room : ℕ) (outer : List Bracket) (waiting : Option Cond) (before : Before) (n : GuardReader) (t : Token) → side_begun names room outer waiting before t ≡ Ok n → nots_waiting n ≡ 0
unfolding side_begun
begun_nots names room outer waiting before n t step =
    let it = passed (expr_step names (room - length outer) fresh_expr t) _ n step in
    no_nots (guard_at outer waiting (First before it.0)) n refl it.2

none_more : (m k : ℕ) → m ≡ 0 → m ≤ k + 1
none_more m k is = omega arith

wants_nots : (names : Names) (room : ℕ) (outer : List Bracket) (waiting : Option Cond) (before : Before) (n : GuardReader) (kind : Kind) (at : ℕ) (word : List ℕ)
    → unit_wanted names room outer waiting before (token_as at kind word) ≡ Ok n → nots_waiting n ≤ before.nots + 1
unfolding unit_wanted
wants_nots names room outer waiting before n kinds.OpenBracket at word step = none_more (nots_waiting n) before.nots (opened_nots room outer (record { either = waiting; before = before }) n at step)
wants_nots names room outer waiting before n kinds.Not at word step =
    let same = read_same (guard_at outer waiting (Wants (record { both = before.both; nots = before.nots + 1 }))) n step in subst (λ x. nots_waiting x ≤ before.nots + 1) same (omega arith)
wants_nots names room outer waiting before n kinds.True at word step = none_more (nots_waiting n) before.nots (no_nots (guard_at outer waiting (Has (unit_of before True))) n refl step)
wants_nots names room outer waiting before n kinds.False at word step = none_more (nots_waiting n) before.nots (no_nots (guard_at outer waiting (Has (unit_of before False))) n refl step)
wants_nots names room outer waiting before n kind at word step = none_more (nots_waiting n) before.nots (begun_nots names room outer waiting before n (token_as at kind word) step)

nots_by : (names : Names) (room : ℕ) (outer : List Bracket) (waiting : Option Cond) (stage : Stage) (n : GuardReader) (t : Token) → guard_step names room (guard_at outer waiting stage) t ≡ Ok n → nots_waiting n ≤ nots_waiting (guard_at outer waiting stage) + 1
unfolding guard_step
nots_by names room outer waiting (Wants before) n t step = wants_nots names room outer waiting before n t.kind t.at t.word step
nots_by names room outer waiting (First before side) n t step = none_more (nots_waiting n) 0 (first_nots names room outer waiting before side n t.kind t.at t.word step)
nots_by names room outer waiting (Second half) n t step = none_more (nots_waiting n) 0 (second_nots names room outer waiting half n t.kind t.at t.word step)
nots_by names room outer waiting (Has c) n t step = none_more (nots_waiting n) 0 (after_nots outer waiting c n t.kind t.at t.word step)

pub nots_more : (names : Names) (room : ℕ) (r n : GuardReader) (t : Token) → guard_step names room r t ≡ Ok n → nots_waiting n ≤ nots_waiting r + 1
nots_more names room r n t step = nots_by names room r.outer r.either r.stage n t step
