-- What a step of an expression or a guard says of its token.
use Rattle.std.proofs.Common.{◌≡◌, ◌-◌, ℕ, ℤ, Bool, true, false, ltb, List, [], ◌∷◌, length, Option, Some, None, Result, Ok, Err, refl, sym, arith, position, bytes_eq, if◌then◌else◌}
use Rattle.std.proofs.lemmas.Bool.{ltb-true, ltb-false}
use Rattle.pssm_acts.specs.declared.act_fault.ActFault.{ActFault}
use Rattle.pssm_acts.specs.declared.act_fault.ActFault.TheVariants.{TooLong}
use Rattle.pssm_semantics.specs.declared.setting.Names.{Names}
use Rattle.pssm_acts.specs.declared.token.Kind.{Kind}
use Rattle.pssm_acts.specs.declared.token.Kind.TheVariants as kinds
use Rattle.pssm_semantics.specs.declared.tree.Expr.{Expr}
use Rattle.pssm_semantics.specs.declared.tree.Expr.TheVariants.{Num}
use Rattle.pssm_semantics.specs.declared.tree.Cond.{Cond}
use Rattle.pssm_semantics.specs.declared.tree.Cond.TheVariants.{Compare}
use Rattle.pssm_acts.specs.declared.expr_reader.Left.{Left}
use Rattle.pssm_acts.specs.declared.expr_reader.Left.TheVariants.{Nothing}
use Rattle.pssm_acts.specs.declared.expr_reader.Level.{Level}
use Rattle.pssm_acts.specs.declared.expr_reader.Place.TheVariants as places
use Rattle.pssm_acts.specs.declared.expr_reader.Place.{Place}
use Rattle.pssm_acts.specs.declared.expr_reader.ExprReader.{ExprReader}
use Rattle.pssm_acts.specs.declared.guard_reader.Before.{Before}
use Rattle.pssm_acts.specs.declared.guard_reader.Bracket.{Bracket}
use Rattle.pssm_acts.specs.declared.guard_reader.Half.{Half}
use Rattle.pssm_acts.specs.declared.guard_reader.Stage.{Stage}
use Rattle.pssm_acts.specs.declared.guard_reader.Stage.TheVariants.{Wants, First, Second, Has}
use Rattle.pssm_acts.specs.declared.guard_reader.GuardReader.{GuardReader}
use Rattle.pssm_acts.specs.inner.ExprReading.{and_then, product_of, variable_read, at_atom, atom_of, level_opened, closed, after_atom, expr_step, expr_value_at, expr_value}
use Rattle.pssm_acts.specs.inner.GuardReading.{unit_of, bracket_opened, side_begun, unit_wanted_by, unit_wanted, in_first_by, in_first, compared, bracket_closed, after_unit, in_second_by, in_second, guard_step, whole_guard, guard_value_at, guard_value}
use Rattle.pssm_acts.specs.inner.NumberReading.{number_read}
use Rattle.pssm_acts.specs.Tokens.{Token}
use Rattle.pssm_acts.proofs.ExprRead.{reader_at}
use Rattle.pssm_acts.proofs.ExprHeld.{token_as}
use Rattle.pssm_acts.proofs.GuardRead.{guard_at}
use Rattle.pssm_acts.proofs.NumberSpelled.{number_spelled, spelled_number}
use Rattle.pssm_acts.proofs.NumberFaults.{NumberFault, unwritten, too_wide, number_fault}
use Rattle.pssm_acts.proofs.Tallies.{Tally, over, over_is, operand, Taken, level, IsFaultOf, KnownSignals, told_then, told_if}

-- ---- expressions

wide_told : (Wrong : Type 0) (names : Names) (c : Tally) (at : ℕ) (word : List ℕ) {fault : ActFault} → number_read at word ≡ Err fault → NumberFault at word fault → IsFaultOf fault Wrong names (token_as at kinds.Number word) c
wide_told Wrong names c at word read (unwritten none) = refl
wide_told Wrong names c at word read (too_wide written) = (refl, refl, λ n spells. let is = number_spelled at word n spells in absurd cc)

module _ (Wrong : Type 0) (names : Names) (room base b s : ℕ) (rest : room ≡ 16 - base) (outer : List Level) (left : Left) where
  pub expr_told : (place : Place) (kind : Kind) (at : ℕ) (word : List ℕ)
      → KnownSignals (λ (n : ExprReader). Taken kind names word (over outer base) (over n.outer base)) Wrong names (token_as at kind word) (operand (over outer base) b s) (expr_step names room (reader_at outer left place) (token_as at kind word))
  unfolding expr_step at_atom atom_of after_atom level_opened closed
  expr_told (places.Wants factor) kinds.Open at word = go (ltb (length outer) room) refl where
    go : (q : Bool) → ltb (length outer) room ≡ q
        → KnownSignals (λ (n : ExprReader). Taken kinds.Open names word (over outer base) (over n.outer base)) Wrong names (token_as at kinds.Open word) (operand (over outer base) b s)
        (and_then (if q then Ok (record { left = left; factor = factor } ∷ outer) else Err (TooLong at)) (λ levels. Ok (reader_at levels Nothing (places.Wants None))))
    go true e = (refl, omega (arith, rest, over_is outer base, ltb-true (length outer) room e))
    go false e = (refl, level tt (omega (arith, rest, over_is outer base, ltb-false (length outer) room e)))
  expr_told (places.Wants factor) kinds.Number at word = go (number_read at word) refl where
    go : (r : Result ℤ ActFault) → number_read at word ≡ r
        → KnownSignals (λ (n : ExprReader). Taken kinds.Number names word (over outer base) (over n.outer base)) Wrong names (token_as at kinds.Number word) (operand (over outer base) b s)
        (and_then (and_then r (λ v. Ok (Num v))) (λ atom. Ok (reader_at outer left (places.Has (product_of factor atom)))))
    go (Ok v) e = (refl, (v, spelled_number at word v e))
    go (Err fault) e = wide_told Wrong names (operand (over outer base) b s) at word e (number_fault at word fault e)
  expr_told (places.Wants factor) kinds.Name at word = go (position (λ n. bytes_eq n word) names.vars) refl where
    go : (found : Option ℕ) → position (λ n. bytes_eq n word) names.vars ≡ found
        → KnownSignals (λ (n : ExprReader). Taken kinds.Name names word (over outer base) (over n.outer base)) Wrong names (token_as at kinds.Name word) (operand (over outer base) b s)
        (and_then (variable_read at found) (λ atom. Ok (reader_at outer left (places.Has (product_of factor atom)))))
    go (Some x) e = (refl, λ none. absurd cc)
    go None e = (refl, refl, e)
  expr_told (places.Wants factor) (kinds.Param k) at word = refl
  expr_told (places.Wants factor) kind at word = refl
  expr_told (places.Has term) kinds.Times at word = refl
  expr_told (places.Has term) kinds.Plus at word = refl
  expr_told (places.Has term) kinds.Minus at word = refl
  expr_told (places.Has term) kinds.Close at word = go outer where
    go : (levels : List Level)
        → KnownSignals (λ (n : ExprReader). Taken kinds.Close names word (over levels base) (over n.outer base)) Wrong names (token_as at kinds.Close word) (operand (over levels base) b s) (closed levels left term at)
    go [] = refl
    go (first ∷ levels) = omega arith
  expr_told (places.Has term) kind at word = refl

-- An expression that may end has no level open.
pub ends_told : (Wrong : Type 0) (names : Names) (t : Token) (c : Tally) (side : ExprReader) → KnownSignals (λ (e : Expr). (base : ℕ) → over side.outer base ≡ base) Wrong names t c (expr_value side t.at)
unfolding expr_value
ends_told Wrong names t c side = go side.outer side.place where
  go : (outer : List Level) (place : Place) → KnownSignals (λ (e : Expr). (base : ℕ) → over outer base ≡ base) Wrong names t c (expr_value_at outer side.left place t.at)
  go [] (places.Has term) = λ base. refl
  go [] (places.Wants factor) = refl
  go (first ∷ outer) (places.Has term) = refl
  go (first ∷ outer) (places.Wants factor) = refl

-- ---- guards

-- the same with the parentheses of a comparison
abbrev pub side_levels : Stage → ℕ → ℕ
side_levels (Wants before) base = base
side_levels (First before side) base = over side.outer base
side_levels (Second half) base = over half.side.outer base
side_levels (Has c) base = base

-- how many levels are open, where so many are open round the guard
abbrev pub guard_levels : GuardReader → ℕ → ℕ
guard_levels guard base = side_levels guard.stage (over guard.outer base)

compared_told : (Wrong : Type 0) (names : Names) (t : Token) (c : Tally) (half : Half) → KnownSignals (λ (d : Cond). (base : ℕ) → over half.side.outer base ≡ base) Wrong names t c (compared half t.at)
unfolding compared
compared_told Wrong names t c half = told_then Wrong names t c _ _ (expr_value half.side t.at) (λ right. Ok (unit_of half.before (Compare half.rel half.left right))) (ends_told Wrong names t c half.side) (λ e h. h)

module _ (Wrong : Type 0) (names : Names) (room base b s : ℕ) (rest : room ≡ 16 - base) (outer : List Bracket) (either : Option Cond) where
  behind_told : (c : Tally) (l : ℕ) → l ≡ over outer base → (cond : Cond) (kind : Kind) (at : ℕ) (word : List ℕ)
      → KnownSignals (λ n. Taken kind names word l (guard_levels n base)) Wrong names (token_as at kind word) c (after_unit outer either cond (token_as at kind word))
  unfolding after_unit bracket_closed
  behind_told c l is cond kinds.And at word = sym is
  behind_told c l is cond kinds.Or at word = sym is
  behind_told c l is cond kinds.CloseBracket at word = go outer is where
    go : (brackets : List Bracket) → l ≡ over brackets base → KnownSignals (λ n. Taken kinds.CloseBracket names word l (guard_levels n base)) Wrong names (token_as at kinds.CloseBracket word) c (bracket_closed brackets either cond at)
    go [] e = refl
    go (first ∷ brackets) e = omega (arith, e)
  behind_told c l is cond kind at word = refl

  unit_told : (before : Before) (kind : Kind) (at : ℕ) (word : List ℕ)
      → KnownSignals (λ n. Taken kind names word (over outer base) (guard_levels n base)) Wrong names (token_as at kind word) (operand (over outer base) b s) (unit_wanted_by kind names room outer either before (token_as at kind word))
  unfolding bracket_opened side_begun
  unit_told before kinds.OpenBracket at word =
      told_if Wrong names (token_as at kinds.OpenBracket word) (operand (over outer base) b s) _ (ltb (length outer) room) _ _
      (λ e. (refl, omega (arith, rest, over_is outer base, ltb-true (length outer) room e)))
      (λ e. (refl, level tt (omega (arith, rest, over_is outer base, ltb-false (length outer) room e))))
  unit_told before kinds.Not at word = refl
  unit_told before kinds.True at word = refl
  unit_told before kinds.False at word = refl
  unit_told before kind at word =
      told_then Wrong names (token_as at kind word) (operand (over outer base) b s) _ _ (expr_step names (room - length outer) (reader_at [] Nothing (places.Wants None)) (token_as at kind word)) _
      (expr_told Wrong names (room - length outer) (over outer base) b s (omega (arith, rest, over_is outer base)) [] Nothing (places.Wants None) kind at word) (λ side h. h)

  first_told : (before : Before) (side : ExprReader) (kind : Kind) (at : ℕ) (word : List ℕ)
      → KnownSignals (λ stage. Taken kind names word (over side.outer (over outer base)) (side_levels stage (over outer base))) Wrong names (token_as at kind word) (operand (over side.outer (over outer base)) b s)
      (in_first_by kind names (room - length outer) before side (token_as at kind word))
  first_told before side (kinds.Relation rel) at word =
      told_then Wrong names (token_as at (kinds.Relation rel) word) (operand (over side.outer (over outer base)) b s) _ _ (expr_value side at) _
      (ends_told Wrong names (token_as at (kinds.Relation rel) word) (operand (over side.outer (over outer base)) b s) side) (λ e h. sym (h (over outer base)))
  first_told before side kind at word =
      told_then Wrong names (token_as at kind word) (operand (over side.outer (over outer base)) b s) _ _ (expr_step names (room - length outer) side (token_as at kind word)) _
      (expr_told Wrong names (room - length outer) (over outer base) b s (omega (arith, rest, over_is outer base)) side.outer side.left side.place kind at word) (λ more h. h)

  joined_told : (half : Half) (kind : Kind) (at : ℕ) (word : List ℕ)
      → KnownSignals (λ n. Taken kind names word (over half.side.outer (over outer base)) (guard_levels n base)) Wrong names (token_as at kind word) (operand (over half.side.outer (over outer base)) b s)
      (and_then (compared half at) (λ c. after_unit outer either c (token_as at kind word)))
  joined_told half kind at word =
      told_then Wrong names (token_as at kind word) (operand (over half.side.outer (over outer base)) b s) _ _ (compared half at) _
      (compared_told Wrong names (token_as at kind word) (operand (over half.side.outer (over outer base)) b s) half)
      (λ c h. behind_told (operand (over half.side.outer (over outer base)) b s) (over half.side.outer (over outer base)) (h (over outer base)) c kind at word)

  second_told : (half : Half) (kind : Kind) (at : ℕ) (word : List ℕ)
      → KnownSignals (λ n. Taken kind names word (over half.side.outer (over outer base)) (guard_levels n base)) Wrong names (token_as at kind word) (operand (over half.side.outer (over outer base)) b s)
      (in_second_by kind names room outer either half (token_as at kind word))
  second_told half kinds.And at word = joined_told half kinds.And at word
  second_told half kinds.Or at word = joined_told half kinds.Or at word
  second_told half kinds.CloseBracket at word = joined_told half kinds.CloseBracket at word
  second_told half kind at word =
      told_then Wrong names (token_as at kind word) (operand (over half.side.outer (over outer base)) b s) _ _ (expr_step names (room - length outer) half.side (token_as at kind word)) _
      (expr_told Wrong names (room - length outer) (over outer base) b s (omega (arith, rest, over_is outer base)) half.side.outer half.side.left half.side.place kind at word) (λ more h. h)

  stage_told : (stage : Stage) (kind : Kind) (at : ℕ) (word : List ℕ)
      → KnownSignals (λ n. Taken kind names word (side_levels stage (over outer base)) (guard_levels n base)) Wrong names (token_as at kind word) (operand (side_levels stage (over outer base)) b s)
      (guard_step names room (guard_at outer either stage) (token_as at kind word))
  unfolding guard_step unit_wanted in_first in_second
  stage_told (Wants before) kind at word = unit_told before kind at word
  stage_told (First before side) kind at word =
      told_then Wrong names (token_as at kind word) (operand (over side.outer (over outer base)) b s) _ _ (in_first_by kind names (room - length outer) before side (token_as at kind word)) _ (first_told before side kind at word) (λ stage h. h)
  stage_told (Second half) kind at word = second_told half kind at word
  stage_told (Has c) kind at word = behind_told (operand (over outer base) b s) (over outer base) refl c kind at word

-- What a step of a guard says, where so many levels are open round it.
pub guard_told : (Wrong : Type 0) (names : Names) (room base b s : ℕ) → room ≡ 16 - base → (guard : GuardReader) (kind : Kind) (at : ℕ) (word : List ℕ)
    → KnownSignals (λ n. Taken kind names word (guard_levels guard base) (guard_levels n base)) Wrong names (token_as at kind word) (operand (guard_levels guard base) b s) (guard_step names room guard (token_as at kind word))
guard_told Wrong names room base b s rest guard kind at word = stage_told Wrong names room base b s rest guard.outer guard.either guard.stage kind at word

-- A guard that may end has no level open.
pub guard_ends_told : (Wrong : Type 0) (names : Names) (t : Token) (c : Tally) (guard : GuardReader) → KnownSignals (λ (d : Cond). (base : ℕ) → guard_levels guard base ≡ base) Wrong names t c (guard_value guard t.at)
unfolding guard_value
guard_ends_told Wrong names t c guard = go guard.stage where
  whole : (stage : Stage) (outer : List Bracket) (cond : Cond) → ((base : ℕ) → side_levels stage base ≡ base) → KnownSignals (λ (d : Cond). (base : ℕ) → side_levels stage (over outer base) ≡ base) Wrong names t c (whole_guard outer guard.either cond t.at)
  whole stage [] cond none = none
  whole stage (first ∷ outer) cond none = refl

  go : (stage : Stage) → KnownSignals (λ (d : Cond). (base : ℕ) → side_levels stage (over guard.outer base) ≡ base) Wrong names t c (guard_value_at stage guard.outer guard.either t.at)
  go (Wants before) = refl
  go (First before side) = refl
  go (Second half) = told_then Wrong names t c _ _ (compared half t.at) (λ cond. whole_guard guard.outer guard.either cond t.at) (compared_told Wrong names t c half) (λ cond none. whole (Second half) guard.outer cond none)
  go (Has cond) = whole (Has cond) guard.outer cond (λ base. refl)
