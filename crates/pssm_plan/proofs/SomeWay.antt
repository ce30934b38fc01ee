-- A search through a list for an element of which something holds.
use Rattle.std.proofs.Common.{◌≡◌, ◌+◌, ◌<◌, ◌≤◌, ℕ, List, Some, length, take, get_or, slice_get, Contains, arith, sym, subst, ap, ⊎_elim, ◌∙◌}
use Rattle.std.proofs.lemmas.List.{get_or_default}
use Rattle.std.proofs.lemmas.Option.{get_or_from_slice_get}
use Rattle.pssm_plan.proofs.Growing.{lower_or_same}
use Rattle.pssm_plan.proofs.Taken.{taken_cases}

module _ {X : Type 0} (xs : List X) (i : ℕ) (x : X) (lt : i < length xs) (is : x ≡ get_or xs i x) where
  pub is_there : Contains xs x
  is_there = (i, lt, sym is)

  -- it holds of none of the elements so far, nor of this one
  pub none_more : (Q : X → Type 0) → (Q x → ⊥) → ((y : X) × Contains (take i xs) y × Q y → ⊥) → (y : X) × Contains (take (i + 1) xs) y × Q y → ⊥
  none_more Q not none h =
      ⊎_elim
      (λ was. none (h.0, was, h.2))
      (λ now. not (subst Q (sym (is ∙ now)) h.2))
      (taken_cases xs i x h.0 lt h.1)

  -- it holds of none of the elements from a place on so far, nor of this one
  not_here : (Q : X → Type 0) → (Q x → ⊥) → (j : ℕ) (y : X) → j ≡ i → slice_get xs j ≡ Some y → Q y → ⊥
  not_here Q not j y same at q =
      let place : get_or xs i x ≡ get_or xs j x = ap (λ (n : ℕ). get_or xs n x) (sym same) in
      not (subst Q (sym (is ∙ place ∙ get_or_from_slice_get xs j y x at)) q)

  pub none_before_more : (Q : X → Type 0) → (Q x → ⊥) → ((j : ℕ) (y : X) → j < i → slice_get xs j ≡ Some y → Q y → ⊥)
      → (j : ℕ) (y : X) → j < i + 1 → slice_get xs j ≡ Some y → Q y → ⊥
  none_before_more Q not none j y low at q =
      ⊎_elim (λ less. none j y less at q) (λ same. not_here Q not j y same at q) (lower_or_same j i low)

  pub none_from_more : (Q : X → Type 0) (from : ℕ) → (Q x → ⊥) → ((j : ℕ) (y : X) → from ≤ j → j < i → slice_get xs j ≡ Some y → Q y → ⊥)
      → (j : ℕ) (y : X) → from ≤ j → j < i + 1 → slice_get xs j ≡ Some y → Q y → ⊥
  none_from_more Q from not none j y above low at q =
      ⊎_elim (λ less. none j y above less at q) (λ same. not_here Q not j y same at q) (lower_or_same j i low)

-- the element of a list of one
pub only_one : {X : Type 0} (xs : List X) (x : X) → length xs ≡ 1 → x ≡ get_or xs 0 x → (y : X) → Contains xs y → x ≡ y
only_one {X} xs x one is y h =
    let low = h.1 in
    let zero : h.0 ≡ 0 = omega (arith, one, low) in
    let some : 0 < length xs = omega (arith, one) in
    is ∙ get_or_default xs 0 x y some ∙ ap (λ (n : ℕ). get_or xs n y) (sym zero) ∙ h.2

-- of the first few elements of a list, it holds of none from a place on
pub record NoneFrom {X : Type 0} (Q : X → Type 0) (xs : List X) (from k : ℕ) : Type 0 where
  pub within : from ≤ k
  pub none : (j : ℕ) (y : X) → from ≤ j → j < k → slice_get xs j ≡ Some y → Q y → ⊥

pub none_from_here : {X : Type 0} (Q : X → Type 0) (xs : List X) (k : ℕ) → NoneFrom Q xs k k
none_from_here {X} Q xs k = record { within = omega arith; none = λ j y above low. absurd (omega arith) }

pub none_from_next : {X : Type 0} (xs : List X) (i : ℕ) (x : X) → i < length xs → x ≡ get_or xs i x → (Q : X → Type 0) (from : ℕ) → (Q x → ⊥)
    → from ≤ i → ((j : ℕ) (y : X) → from ≤ j → j < i → slice_get xs j ≡ Some y → Q y → ⊥) → NoneFrom Q xs from (i + 1)
none_from_next {X} xs i x lt is Q from not within none = record {
  within = omega (arith, within);
  none = none_from_more xs i x lt is Q from not none;
}
