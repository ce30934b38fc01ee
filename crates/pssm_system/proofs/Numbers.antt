-- The signal with a number among those that wait.
use Rattle.std.proofs.Common.{◌≡◌, ◌≢◌, ◌==◌, ℕ, zero, suc, List, [], ◌∷◌, take, Bool, true, false, Some, None, slice_get, refl, sym, ap, ◌∙◌, ⊎_elim, arith, eq-eqb}
use Rattle.std.proofs.lemmas.Bool.Decides.{eqb_tells}
use Rattle.std.proofs.lemmas.Option.{slice_get_within}
use Rattle.std.specs.List.{remove}
use Rattle.pssm_pool.specs.declared.pools.Waiting.{Waiting}
use Rattle.pssm_pool.specs.Telling.{IsFirstNot}
use Rattle.pssm_system.proofs.Places.{all-before}
use Rattle.pssm_system.specs.inner.Pooling.{with_number, without_number, HasNoNumber, HaveOwnNumbers, IsPlaceOf}

-- two numbers that differ
pub differ : (n k : ℕ) → n ≢ k → (n == k) ≡ false
differ n k apart = ⊎_elim (λ same. absurd (apart same.1)) (λ other. other.0) (eqb_tells n k)

module _ (n : ℕ) where
  pub with-here : (w : Waiting) (rest : List Waiting) → w.number ≡ n → with_number n (w ∷ rest) ≡ Some w
  with-here w rest same = rw (eq-eqb w.number n same) refl

  pub with-later : (w : Waiting) (rest : List Waiting) → w.number ≢ n → with_number n (w ∷ rest) ≡ with_number n rest
  with-later w rest apart = rw (differ w.number n apart) refl

  pub without-here : (w : Waiting) (rest : List Waiting) → w.number ≡ n → without_number n (w ∷ rest) ≡ rest
  without-here w rest same = rw (eq-eqb w.number n same) refl

  pub without-later : (w : Waiting) (rest : List Waiting) → w.number ≢ n → without_number n (w ∷ rest) ≡ w ∷ without_number n rest
  without-later w rest apart = rw (differ w.number n apart) refl

  -- where none has the number, there is no such signal, and all stay
  pub with-none : (waiting : List Waiting) → HasNoNumber n waiting → with_number n waiting ≡ None
  with-none [] none = refl
  with-none (w ∷ rest) none = with-later w rest none.0 ∙ with-none rest none.1

  pub without-none : (waiting : List Waiting) → HasNoNumber n waiting → without_number n waiting ≡ waiting
  without-none [] none = refl
  without-none (w ∷ rest) none = without-later w rest none.0 ∙ ap (λ ws. w ∷ ws) (without-none rest none.1)

  -- the first that has it
  first-with : (waiting : List Waiting) (k : ℕ) (w : Waiting) → slice_get waiting k ≡ Some w → w.number ≡ n → HasNoNumber n (take k waiting)
      → with_number n waiting ≡ Some w
  first-with [] k w at same before = let clash : None ≡ Some w = at in absurd (cc)
  first-with (v ∷ rest) zero w at same before =
      let one : v ≡ w = cc in with-here v rest (ap (λ (y : Waiting). y.number) one ∙ same) ∙ at
  first-with (v ∷ rest) (suc k) w at same before = with-later v rest before.0 ∙ first-with rest k w at same before.1

  first-without : (waiting : List Waiting) (k : ℕ) (w : Waiting) → slice_get waiting k ≡ Some w → w.number ≡ n → HasNoNumber n (take k waiting)
      → without_number n waiting ≡ remove waiting k
  first-without [] k w at same before = let clash : None ≡ Some w = at in absurd (cc)
  first-without (v ∷ rest) zero w at same before = let one : v ≡ w = cc in without-here v rest (ap (λ (y : Waiting). y.number) one ∙ same)
  first-without (v ∷ rest) (suc k) w at same before =
      without-later v rest before.0 ∙ ap (λ ws. v ∷ ws) (first-without rest k w at same before.1)

  pub place-found : (waiting : List Waiting) (k : ℕ) (w : Waiting) → slice_get waiting k ≡ Some w → w.number ≡ n → HasNoNumber n (take k waiting)
      → IsPlaceOf n waiting k
  place-found waiting k w at same before = record {
    there = slice_get_within waiting k w at;
    signal = first-with waiting k w at same before ∙ sym at;
    others = first-without waiting k w at same before;
  }

  -- the first for which it is not answered that it has another number
  pub first-numbered : (waiting : List Waiting) (k : ℕ) (Answers : Waiting → Bool → Type 0) → IsFirstNot Answers waiting k
      → ((w : Waiting) → Answers w true → w.number ≢ n) → ((w : Waiting) → Answers w false → w.number ≡ n) → IsPlaceOf n waiting k
  first-numbered waiting k Answers first others one =
      place-found waiting k first.here.0 first.here.1 (one first.here.0 first.here.2)
      (all-before (λ (v : Waiting). v.number ≢ n) waiting k (λ j w lt at. others w (first.before j w lt at)))

  -- one that has it, where no two have the same
  pub own-numbered : (waiting : List Waiting) (k : ℕ) (w : Waiting) → slice_get waiting k ≡ Some w → w.number ≡ n → HaveOwnNumbers waiting → IsPlaceOf n waiting k
  own-numbered waiting k w at same own =
      place-found waiting k w at same
      (all-before (λ (v : Waiting). v.number ≢ n) waiting k
      (λ j v lt there. λ also. let one = own j k v w there at (also ∙ sym same) in absurd (omega (arith, one, lt))))
