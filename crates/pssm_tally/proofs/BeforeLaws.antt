-- What stands before an element.
use Rattle.std.proofs.Common.{◌≡◌, ◌⊎◌, ◌<◌, ◌≤◌, ◌+◌, ◌-◌, ℕ, zero, suc, Bool, true, false, ◌||◌, List, [], ◌∷◌, ◌++◌, length, map, refl, sym, ap, subst, ◌∙◌, arith, length-append, inl, inr, eq-or-lt_of_le}
use Rattle.std.proofs.lemmas.List.{map-append}
use Rattle.std.proofs.lemmas.List.Folds.{list_any-append}
use Rattle.std.proofs.lemmas.Slice.Eq.{bytes_eq-Decides}
use Rattle.std.proofs.Math.Bool.{or-true}
use Rattle.std.specs.Prelude.{bytes_eq}
use Rattle.std.specs.List.{list_any}
use Rattle.pssm_profile.specs.Kinds.{AreBefore, StandBefore}
use Rattle.pssm_profile.specs.Kinds.AreBefore.{none, one_more, other}

bytes_same : (xs ys : List ℕ) → bytes_eq xs ys ≡ true → xs ≡ ys
bytes_same xs ys so = (bytes_eq-Decides xs ys).0 so

same_bytes : (xs ys : List ℕ) → xs ≡ ys → bytes_eq xs ys ≡ true
same_bytes xs ys so = (bytes_eq-Decides xs ys).1 so

or-false : (b : Bool) → (b || false) ≡ b
or-false true = refl
or-false false = refl

le_of_less : (m n : ℕ) → m < suc n → m ≤ n
le_of_less m n less = omega (arith, less)

module _ (Is : ℕ → Type 0) where
  pub same_before : {n : ℕ} {xs ys : List ℕ} → AreBefore Is n xs → AreBefore Is n ys → xs ≡ ys
  same_before none none = refl
  same_before (one_more {n = n} before is) (one_more over more_is) = ap (λ (l : List ℕ). l ++ n ∷ []) (same_before before over)
  same_before (one_more before is) (other over free) = absurd (free is)
  same_before (other before not) (one_more over more_is) = absurd (not more_is)
  same_before (other before not) (other over free) = same_before before over

  pub same_count : (n a b : ℕ) → StandBefore Is n a → StandBefore Is n b → a ≡ b
  same_count n a b one two = sym one.counted ∙ ap length (same_before one.all two.all) ∙ two.counted

  -- Where none of the kind stands in between, the same stand before the later element.
  gap_of : (more low high : ℕ) (xs : List ℕ) → high ≡ low + more → AreBefore Is low xs → ((m : ℕ) → low ≤ m → m < high → Is m → ⊥) → AreBefore Is high xs
  gap_of zero low high xs far before free = subst (λ (k : ℕ). AreBefore Is k xs) (omega (arith, far)) before
  gap_of (suc more) low high xs far before free =
      gap_of more (suc low) high xs (omega (arith, far)) (other before (λ is. free low (omega arith) (omega (arith, far)) is))
      (λ m least less is. free m (omega (arith, least)) less is)

  pub gap : (low high count : ℕ) → low ≤ high → StandBefore Is low count → ((m : ℕ) → low ≤ m → m < high → Is m → ⊥) → StandBefore Is high count
  gap low high count far before free = record {
    numbers = before.numbers;
    all = gap_of (high - low) low high before.numbers (omega (arith, far)) before.all free;
    counted = before.counted;
  }

  pub one_behind : (n count : ℕ) → StandBefore Is n count → Is n → StandBefore Is (suc n) (count + 1)
  one_behind n count before is = record {
    numbers = before.numbers ++ n ∷ [];
    all = one_more before.all is;
    counted = let same = before.counted in length-append before.numbers (n ∷ []) ∙ omega (arith, same);
  }

  pub none_behind : (n count : ℕ) → StandBefore Is n count → (Is n → ⊥) → StandBefore Is (suc n) count
  none_behind n count before free = record { numbers = before.numbers; all = other before.all free; counted = before.counted }

  pub none_first : StandBefore Is 0 0
  none_first = record { numbers = []; all = none; counted = refl }

  -- ---- what is said of those that stand before

  module _ (f : ℕ → List ℕ) (name : List ℕ) where
    abbrev named : List ℕ → Bool
    named xs = list_any (bytes_eq name) (map f xs)

    named_behind : (xs : List ℕ) (n : ℕ) → named (xs ++ n ∷ []) ≡ (named xs || bytes_eq name (f n))
    named_behind xs n =
        ap (list_any (bytes_eq name)) (map-append f xs (n ∷ [])) ∙ list_any-append (bytes_eq name) (map f xs) (f n ∷ [])
        ∙ ap (λ (b : Bool). named xs || b) (or-false (bytes_eq name (f n)))

    -- One of them is called so.
    pub found : {n : ℕ} {xs : List ℕ} → AreBefore Is n xs → list_any (bytes_eq name) (map f xs) ≡ true → (m : ℕ) × (m < n) × Is m × (f m ≡ name)
    found none so = absurd cc
    found (other before free) so = let m = found before so in let less = m.1 in (m.0, omega (arith, less), m.2, m.3)
    found (one_more {n = n} {numbers = xs} before is) so =
        by_test (named xs) (bytes_eq name (f n)) refl refl (sym (named_behind xs n) ∙ so) (found before) where
          by_test : (a b : Bool) → named xs ≡ a → bytes_eq name (f n) ≡ b → (a || b) ≡ true → (named xs ≡ true → (m : ℕ) × (m < n) × Is m × (f m ≡ name))
              → (m : ℕ) × (m < suc n) × Is m × (f m ≡ name)
          by_test true b has own either earlier = let m = earlier has in let less = m.1 in (m.0, omega (arith, less), m.2, m.3)
          by_test false true has own either earlier = (n, omega arith, is, sym (bytes_same name (f n) own))
          by_test false false has own either earlier = absurd cc

    pub finds : {n : ℕ} {xs : List ℕ} → AreBefore Is n xs → (m : ℕ) → m < n → Is m → f m ≡ name → list_any (bytes_eq name) (map f xs) ≡ true
    finds none m less is same = absurd (omega (arith, less))
    finds (other {n = n} before free) m less is same = by_place (eq-or-lt_of_le (le_of_less m n less)) (λ earlier. finds before m earlier is same) where
      by_place : {P : Type 0} → (m ≡ n) ⊎ (m < n) → (m < n → P) → P
      by_place (inl last) goes = absurd (free (subst Is last is))
      by_place (inr earlier) goes = goes earlier
    finds (one_more {n = n} {numbers = xs} before more_is) m less is same =
        by_place (eq-or-lt_of_le (le_of_less m n less)) (λ earlier. finds before m earlier is same) where
          by_place : (m ≡ n) ⊎ (m < n) → (m < n → named xs ≡ true) → named (xs ++ n ∷ []) ≡ true
          by_place (inl last) goes = named_behind xs n ∙ ap (λ (b : Bool). named xs || b) (same_bytes name (f n) (sym same ∙ ap f last)) ∙ or-true (named xs)
          by_place (inr earlier) goes = named_behind xs n ∙ ap (λ (b : Bool). b || bytes_eq name (f n)) (goes earlier)
