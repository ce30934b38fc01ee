-- Numbers that stand in a list, and their places.
use Rattle.std.proofs.Common.{◌≡◌, ◌⊎◌, ◌<◌, ◌+◌, ◌==◌, ℕ, zero, suc, Bool, true, false, cond, not, List, [], ◌∷◌, length, map, filter, Option, Some, None, refl, sym, ap, subst, ◌∙◌, inl, inr, ⊎_elim, arith}
use Rattle.std.specs.Prelude.{slice_get, option_map}
use Rattle.std.specs.List.{range_with_len, AllByRecursion}
use Rattle.std.proofs.lemmas.Option.{slice_get-map}
use Rattle.pssm_numbering.specs.Numbering.{place_in, is_number}
use Rattle.pssm_xmi.proofs.Tests.{by_test}

-- The number stands in the list.
abbrev pub StandsIn : ℕ → List ℕ → Type 0
StandsIn n [] = ⊥
StandsIn n (x ∷ xs) = (n ≡ x) ⊎ StandsIn n xs

-- ---- tests

pub that_number : (n : ℕ) (o : Option ℕ) → is_number n o ≡ true → o ≡ Some n
that_number n None is = absurd (cc)
that_number n (Some k) is = let same : k ≡ n = grind (arith, is) in ap (λ (x : ℕ). Some x) same

pub is_that_number : (n : ℕ) (o : Option ℕ) → o ≡ Some n → is_number n o ≡ true
is_that_number n o is = ap (is_number n) is ∙ (let same : (n == n) ≡ true = grind arith in same)

-- ---- places

same_number : (x n : ℕ) → n ≡ x → (x == n) ≡ true
same_number x n same = grind (arith, same)

-- its place is within the list
pub place_within : (n : ℕ) (xs : List ℕ) → StandsIn n xs → place_in xs n < length xs
place_within n [] stands = absurd stands
place_within n (x ∷ xs) (inl same) =
    let at = ap (λ (b : Bool). cond (not b) (1 + place_in xs n) 0) (same_number x n same) in omega (arith, at)
place_within n (x ∷ xs) (inr more) =
    let less = place_within n xs more in
    by_test (x == n)
    (λ e. let at = ap (λ (b : Bool). cond (not b) (1 + place_in xs n) 0) e in omega (arith, at))
    (λ e. let at = ap (λ (b : Bool). cond (not b) (1 + place_in xs n) 0) e in omega (arith, at, less))

-- and there it stands
pub at_place : (n : ℕ) (xs : List ℕ) → StandsIn n xs → slice_get xs (place_in xs n) ≡ Some n
at_place n [] stands = absurd stands
at_place n (x ∷ xs) (inl same) =
    ap (λ (b : Bool). slice_get (x ∷ xs) (cond (not b) (1 + place_in xs n) 0)) (same_number x n same) ∙ ap (λ (k : ℕ). Some k) (sym same)
at_place n (x ∷ xs) (inr more) =
    by_test (x == n)
    (λ e. ap (λ (b : Bool). slice_get (x ∷ xs) (cond (not b) (1 + place_in xs n) 0)) e ∙ (let is : x ≡ n = grind (arith, e) in ap (λ (k : ℕ). Some k) is))
    (λ e. ap (λ (b : Bool). slice_get (x ∷ xs) (cond (not b) (1 + place_in xs n) 0)) e
    ∙ ap (λ (k : ℕ). slice_get (x ∷ xs) k) (let next : 1 + place_in xs n ≡ suc (place_in xs n) = omega arith in next) ∙ at_place n xs more)

-- what stands at a place stands in the list
pub stands_at : (xs : List ℕ) (k n : ℕ) → slice_get xs k ≡ Some n → StandsIn n xs
stands_at [] k n at = absurd (cc)
stands_at (x ∷ xs) zero n at = inl (let same : n ≡ x = cc in same)
stands_at (x ∷ xs) (suc k) n at = inr (stands_at xs k n at)

-- ---- filters

-- What passes stands among what passes.
pub stands_passing : (q : ℕ → Bool) (n : ℕ) (xs : List ℕ) → q n ≡ true → StandsIn n xs → StandsIn n (filter q xs)
stands_passing q n [] passes stands = absurd stands
stands_passing q n (x ∷ xs) passes (inl same) =
    subst (λ (b : Bool). StandsIn n (cond b (x ∷ filter q xs) (filter q xs))) (sym (ap q (sym same) ∙ passes)) (inl same)
stands_passing q n (x ∷ xs) passes (inr more) = either (q x) (stands_passing q n xs passes more) where
  either : (b : Bool) → StandsIn n (filter q xs) → StandsIn n (cond b (x ∷ filter q xs) (filter q xs))
  either true there = inr there
  either false there = there

-- Among what passes stands only what passes and stands there.
pub passing : (q : ℕ → Bool) (n : ℕ) (xs : List ℕ) → StandsIn n (filter q xs) → (q n ≡ true) × StandsIn n xs
passing q n [] stands = absurd stands
passing q n (x ∷ xs) stands = either (q x) refl (passing q n xs) stands where
  more : (StandsIn n (filter q xs) → (q n ≡ true) × StandsIn n xs) → StandsIn n (filter q xs) → (q n ≡ true) × StandsIn n (x ∷ xs)
  more f s = ((f s).0, inr (f s).1)

  either : (b : Bool) → q x ≡ b → (StandsIn n (filter q xs) → (q n ≡ true) × StandsIn n xs) → StandsIn n (cond b (x ∷ filter q xs) (filter q xs))
      → (q n ≡ true) × StandsIn n (x ∷ xs)
  either true e f s = ⊎_elim (λ same. (ap q same ∙ e, inl same)) (more f) s
  either false e f s = more f s

-- ---- the first numbers

in_range : (a len n : ℕ) → n < len → StandsIn (a + n) (range_with_len a len)
in_range a zero n less = absurd (omega (arith, less))
in_range a (suc len) zero less = inl (omega arith)
in_range a (suc len) (suc n) less =
    inr (subst (λ (k : ℕ). StandsIn k (range_with_len (a + 1) len)) (let e : a + 1 + n ≡ a + suc n = omega arith in e) (in_range (a + 1) len n (omega (arith, less))))

pub stands_among : (len n : ℕ) → n < len → StandsIn n (range_with_len 0 len)
stands_among len n less = subst (λ (k : ℕ). StandsIn k (range_with_len 0 len)) (let e : 0 + n ≡ n = omega arith in e) (in_range 0 len n less)

-- ---- what is made of each

pub made_at : {X : Type 0} (f : ℕ → X) (xs : List ℕ) (k n : ℕ) → slice_get xs k ≡ Some n → slice_get (map f xs) k ≡ Some (f n)
made_at f xs k n at = slice_get-map f xs k ∙ ap (option_map f) at

pub all_made : {X : Type 0} (P : X → Type 0) (f : ℕ → X) (xs : List ℕ) → ((n : ℕ) → StandsIn n xs → P (f n)) → AllByRecursion P (map f xs)
all_made P f [] each = tt
all_made P f (x ∷ xs) each = (each x (inl refl), all_made P f xs (λ n stands. each n (inr stands)))
