-- A list whose elements have different numbers below a bound is no longer than that.
use Rattle.std.proofs.Common.{◌≡◌, ◌≢◌, ◌<◌, ◌≤◌, ℕ, suc, List, [], ◌∷◌, length, eqb, false, Some, slice_get, Contains, refl, sym, ap, subst, ⊎_elim, arith}
use Rattle.std.specs.List.{IsDistinct, AllByRecursion}
use Rattle.std.proofs.lemmas.Bool.{cases_Bool, eqb-true}
use Rattle.std.proofs.lemmas.Map.Keys.{IsDistinct-cons}
use Rattle.std.proofs.lemmas.Map.Steps.{length-le_from_distinct_below}
use Rattle.std.proofs.lemmas.Map.Views.{Contains-from_any}
use Rattle.pssm_model.proofs.ElementLaws.{nothing_in_nil}
use Rattle.pssm_legs.proofs.PathRegions.{head_or_tail}

-- the numbers of the elements
abbrev number_list : {X : Type 0} → (X → ℕ) → List X → List ℕ
number_list f [] = []
number_list f (x ∷ xs) = f x ∷ number_list f xs

-- Elements at different places have different numbers.
abbrev pub AreNumbered : {X : Type 0} → (X → ℕ) → List X → Type 0
AreNumbered {X} f xs = (i j : ℕ) (x y : X) → slice_get xs i ≡ Some x → slice_get xs j ≡ Some y → f x ≡ f y → i ≡ j

not_equal : (a b : ℕ) → a ≢ b → eqb a b ≡ false
not_equal a b apart = ⊎_elim (λ same. absurd (apart (eqb-true a b same))) (λ no. no) (cases_Bool (eqb a b))

module _ {X : Type 0} (f : X → ℕ) where
  as_many : (xs : List X) → length (number_list f xs) ≡ length xs
  as_many [] = refl
  as_many (x ∷ xs) = ap suc (as_many xs)

  named : (xs : List X) (n : ℕ) → Contains (number_list f xs) n → (j : ℕ) × (y : X) × (slice_get xs j ≡ Some y) × (f y ≡ n)
  named [] n h = absurd (nothing_in_nil n h)
  named (x ∷ xs) n h =
      ⊎_elim
      (λ first. (0, x, refl, sym first))
      (λ later. let at = named xs n later in (suc at.0, at.1, at.2, at.3))
      (head_or_tail (f x) n (number_list f xs) h)

  all_apart : (n : ℕ) (xs : List X) → ((j : ℕ) (y : X) → slice_get xs j ≡ Some y → n ≢ f y) → AllByRecursion (λ k. eqb n k ≡ false) (number_list f xs)
  all_apart n [] apart = tt
  all_apart n (x ∷ xs) apart = (not_equal n (f x) (apart 0 x refl), all_apart n xs (λ j y e. apart (suc j) y e))

  distinct : (xs : List X) → AreNumbered f xs → IsDistinct eqb (number_list f xs)
  unfolding IsDistinct
  distinct [] h = tt
  distinct (x ∷ xs) h =
      IsDistinct-cons eqb (f x) (number_list f xs)
      (all_apart (f x) xs (λ j y e same. (let wrong : 0 ≡ suc j = h 0 (suc j) x y refl e same in absurd (omega (arith, wrong)))))
      (distinct xs (λ i j y z e g same. (let next : suc i ≡ suc j = h (suc i) (suc j) y z e g same in omega (arith, next))))

  pub few_numbered : (xs : List X) (n : ℕ) → AreNumbered f xs → ((i : ℕ) (x : X) → slice_get xs i ≡ Some x → f x < n) → length xs ≤ n
  few_numbered xs n h below =
      let most = length-le_from_distinct_below (number_list f xs) n (distinct xs h)
      (λ k found.
      let at = named xs k (Contains-from_any eqb-true k (number_list f xs) found) in
      subst (λ b. b < n) at.3 (below at.0 at.1 at.2)) in
      subst (λ k. k ≤ n) (as_many xs) most
