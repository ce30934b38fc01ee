-- Whether an expression or a guard may end does not hang on where it ends.
use Rattle.std.proofs.Common.{◌≡◌, ◌⊎◌, inl, inr, ℕ, List, [], ◌∷◌, Ok, Err, refl, ap, ◌∙◌}
use Rattle.pssm_acts.specs.declared.act_fault.ActFault.TheVariants.{Syntax}
use Rattle.pssm_semantics.specs.declared.tree.Expr.{Expr}
use Rattle.pssm_semantics.specs.declared.tree.Cond.{Cond}
use Rattle.pssm_semantics.specs.declared.tree.Cond.TheVariants.{Compare}
use Rattle.pssm_acts.specs.declared.expr_reader.Level.{Level}
use Rattle.pssm_acts.specs.declared.expr_reader.Place.{Place}
use Rattle.pssm_acts.specs.declared.expr_reader.Place.TheVariants as places
use Rattle.pssm_acts.specs.declared.expr_reader.ExprReader.{ExprReader}
use Rattle.pssm_acts.specs.declared.guard_reader.Bracket.{Bracket}
use Rattle.pssm_acts.specs.declared.guard_reader.Half.{Half}
use Rattle.pssm_acts.specs.declared.guard_reader.Stage.{Stage}
use Rattle.pssm_acts.specs.declared.guard_reader.Stage.TheVariants.{Wants, First, Second, Has}
use Rattle.pssm_acts.specs.declared.guard_reader.GuardReader.{GuardReader}
use Rattle.pssm_acts.specs.inner.ExprReading.{and_then, sum_of, expr_value}
use Rattle.pssm_acts.specs.inner.GuardReading.{disjunction_of, unit_of, compared, whole_guard, guard_value}
use Rattle.pssm_acts.proofs.ExprRead.{reader_at}
use Rattle.pssm_acts.proofs.GuardRead.{guard_at}

-- Whether an expression may end does not hang on where it ends.
pub expr_ends : (side : ExprReader) → ((e : Expr) × ((at : ℕ) → expr_value side at ≡ Ok e)) ⊎ ((at : ℕ) → expr_value side at ≡ Err (Syntax at))
unfolding expr_value
expr_ends side = go side.outer side.place where
  go : (outer : List Level) (place : Place) → ((e : Expr) × ((at : ℕ) → expr_value (reader_at outer side.left place) at ≡ Ok e)) ⊎ ((at : ℕ) → expr_value (reader_at outer side.left place) at ≡ Err (Syntax at))
  go [] (places.Has term) = inl (sum_of side.left term, λ at. refl)
  go [] (places.Wants factor) = inr (λ at. refl)
  go (level ∷ outer) (places.Has term) = inr (λ at. refl)
  go (level ∷ outer) (places.Wants factor) = inr (λ at. refl)

compared_ends : (half : Half) → ((c : Cond) × ((at : ℕ) → compared half at ≡ Ok c)) ⊎ ((at : ℕ) → compared half at ≡ Err (Syntax at))
unfolding compared
compared_ends half = go (expr_ends half.side) where
  go : (((e : Expr) × ((at : ℕ) → expr_value half.side at ≡ Ok e)) ⊎ ((at : ℕ) → expr_value half.side at ≡ Err (Syntax at))) → ((c : Cond) × ((at : ℕ) → compared half at ≡ Ok c)) ⊎ ((at : ℕ) → compared half at ≡ Err (Syntax at))
  go (inl ends) = inl (unit_of half.before (Compare half.rel half.left ends.0), λ at. ap (λ x. and_then x (λ right. Ok (unit_of half.before (Compare half.rel half.left right)))) (ends.1 at))
  go (inr fails) = inr (λ at. ap (λ x. and_then x (λ right. Ok (unit_of half.before (Compare half.rel half.left right)))) (fails at))

-- Whether a guard may end does not hang on where it ends.
pub guard_ends : (reader : GuardReader) → ((c : Cond) × ((at : ℕ) → guard_value reader at ≡ Ok c)) ⊎ ((at : ℕ) → guard_value reader at ≡ Err (Syntax at))
unfolding guard_value
guard_ends reader = go reader.stage where
  whole : (outer : List Bracket) (c : Cond) → ((d : Cond) × ((at : ℕ) → whole_guard outer reader.either c at ≡ Ok d)) ⊎ ((at : ℕ) → whole_guard outer reader.either c at ≡ Err (Syntax at))
  whole [] c = inl (disjunction_of reader.either c, λ at. refl)
  whole (bracket ∷ outer) c = inr (λ at. refl)

  second : (half : Half) → (((c : Cond) × ((at : ℕ) → compared half at ≡ Ok c)) ⊎ ((at : ℕ) → compared half at ≡ Err (Syntax at)))
      → ((d : Cond) × ((at : ℕ) → guard_value (guard_at reader.outer reader.either (Second half)) at ≡ Ok d)) ⊎ ((at : ℕ) → guard_value (guard_at reader.outer reader.either (Second half)) at ≡ Err (Syntax at))
  second half (inr fails) = inr (λ at. ap (λ x. and_then x (λ c. whole_guard reader.outer reader.either c at)) (fails at))
  second half (inl ends) = behind (whole reader.outer ends.0) where
    behind : (((d : Cond) × ((at : ℕ) → whole_guard reader.outer reader.either ends.0 at ≡ Ok d)) ⊎ ((at : ℕ) → whole_guard reader.outer reader.either ends.0 at ≡ Err (Syntax at)))
        → ((d : Cond) × ((at : ℕ) → guard_value (guard_at reader.outer reader.either (Second half)) at ≡ Ok d)) ⊎ ((at : ℕ) → guard_value (guard_at reader.outer reader.either (Second half)) at ≡ Err (Syntax at))
    behind (inl d) = inl (d.0, λ at. ap (λ x. and_then x (λ c. whole_guard reader.outer reader.either c at)) (ends.1 at) ∙ d.1 at)
    behind (inr fails) = inr (λ at. ap (λ x. and_then x (λ c. whole_guard reader.outer reader.either c at)) (ends.1 at) ∙ fails at)

  go : (stage : Stage) → ((d : Cond) × ((at : ℕ) → guard_value (guard_at reader.outer reader.either stage) at ≡ Ok d)) ⊎ ((at : ℕ) → guard_value (guard_at reader.outer reader.either stage) at ≡ Err (Syntax at))
  go (Wants before) = inr (λ at. refl)
  go (First before side) = inr (λ at. refl)
  go (Second half) = second half (compared_ends half)
  go (Has c) = whole reader.outer c
