-- Names are different exactly where, sorted, no two neighbours are equal.
use Rattle.std.proofs.Common.{◌≡◌, ◌≤◌, ℕ, suc, ◌+◌, Bool, true, false, cond, not, ◌||◌, ◌&&◌, List, [], ◌∷◌, map, refl, sym, ◌∙◌, ap, subst, arith, Bor, inl, inr}
use Rattle.std.specs.Prelude.{bytes_eq}
use Rattle.std.specs.List.{list_any, sum_by, AllByRecursion, slice_index_or}
use Rattle.std.specs.List.Sorted.{IsPermutation, IsSorted}
use Rattle.std.specs.Ordering.{is_lt, nat_cmp, ordering_reverse}
use Rattle.std.specs.declared.cmp.Ordering.{Ordering}
use Rattle.std.specs.declared.cmp.Ordering.TheVariants.{Less, Equal, Greater}
use Rattle.std.specs.Cmp.Lexicographic.{slice_cmp}
use Rattle.std.proofs.lemmas.Cmp.{nat_list_cmp_total}
use Rattle.std.proofs.lemmas.Map.Text.{is_eq-slice_cmp}
use Rattle.std.proofs.lemmas.List.Sorted.{sum_by-IsPermutation}
use Rattle.std.proofs.lemmas.List.Sums.{sum_by-cons}
use Rattle.std.proofs.lemmas.Bool.{or_cases, or_from, or_parts, and_parts, and_from, and_cases, not-true, not-false, not_from_false, cond-true, cond-false}
use Rattle.std.proofs.lemmas.Slice.Eq.{bytes_eq-Decides}
use Rattle.pssm_xml.specs.inner.Reading.{all_different}
use Rattle.pssm_xml.specs.inner.Cuts.{lent, repeats}

-- ---- how often a name stands in a list

once : List ℕ → Bor (List ℕ) → ℕ
once x b = cond (bytes_eq x b.now) 1 0

tally : List ℕ → List (Bor (List ℕ)) → ℕ
tally x xs = sum_by (once x) xs

tally_more : (x : List ℕ) (b : Bor (List ℕ)) (xs : List (Bor (List ℕ))) → tally x (b ∷ xs) ≡ once x b + tally x xs
unfolding tally
tally_more x b xs = sum_by-cons (once x) b xs

once_yes : (x : List ℕ) (b : Bor (List ℕ)) → bytes_eq x b.now ≡ true → once x b ≡ 1
unfolding once
once_yes x b e = cond-true (bytes_eq x b.now) 1 0 e

once_no : (x : List ℕ) (b : Bor (List ℕ)) → bytes_eq x b.now ≡ false → once x b ≡ 0
unfolding once
once_no x b e = cond-false (bytes_eq x b.now) 1 0 e

none_of : (x : List ℕ) (xs : List (Bor (List ℕ))) → list_any (bytes_eq x) (map lent xs) ≡ false → tally x xs ≡ 0
unfolding tally
none_of x [] e = refl
none_of x (b ∷ xs) e =
    let both = or_parts (bytes_eq x b.now) (list_any (bytes_eq x) (map lent xs)) e in
    let here = once_no x b both.0 in let later = none_of x xs both.1 in omega (arith, tally_more x b xs, here, later)

some_of : (x : List ℕ) (xs : List (Bor (List ℕ))) → list_any (bytes_eq x) (map lent xs) ≡ true → 1 ≤ tally x xs
some_of x [] e = absurd cc
some_of x (b ∷ xs) e = elim (or_cases (bytes_eq x b.now) (list_any (bytes_eq x) (map lent xs)) e) as (λ _. 1 ≤ tally x (b ∷ xs)) [
  | inl here ↦ omega (arith, tally_more x b xs, once_yes x b here)
  | inr later ↦ let more = some_of x xs later in omega (arith, tally_more x b xs, more)
]

few_of : (xs : List (Bor (List ℕ))) → all_different (map lent xs) ≡ true → (x : List ℕ) → tally x xs ≤ 1
unfolding tally
few_of [] e x = let none : tally x [] ≡ 0 = refl in omega (arith, none)
few_of (b ∷ xs) e x =
    let both = and_parts (not (list_any (bytes_eq b.now) (map lent xs))) (all_different (map lent xs)) e in
    by_test (bytes_eq x b.now) refl (few_of xs both.1 x) (not-true (list_any (bytes_eq b.now) (map lent xs)) both.0) where
      by_test : (t : Bool) → bytes_eq x b.now ≡ t → tally x xs ≤ 1 → list_any (bytes_eq b.now) (map lent xs) ≡ false → tally x (b ∷ xs) ≤ 1
      by_test false other few none =
          omega (arith, tally_more x b xs, once_no x b other, few)
      by_test true same few none =
          let equal : x ≡ b.now = (bytes_eq-Decides x b.now).0 same in
          let zero_later : tally x xs ≡ 0 = ap (λ n. tally n xs) equal ∙ none_of b.now xs none in
          omega (arith, tally_more x b xs, once_yes x b same, zero_later)

twin_of : (xs : List (Bor (List ℕ))) → all_different (map lent xs) ≡ false → (x : List ℕ) × (2 ≤ tally x xs)
twin_of [] e = absurd cc
twin_of (b ∷ xs) e = elim (and_cases (not (list_any (bytes_eq b.now) (map lent xs))) (all_different (map lent xs)) e) [
  | inl twin ↦
      let some = some_of b.now xs (not-false (list_any (bytes_eq b.now) (map lent xs)) twin) in
      let one = once_yes b.now b ((bytes_eq-Decides b.now b.now).1 refl) in
      (b.now, omega (arith, tally_more b.now b xs, one, some))
  | inr later ↦ let more = twin_of xs later in (more.0, let l = more.1 in omega (arith, tally_more more.0 b xs, l))
]

same_tally : (xs ys : List (Bor (List ℕ))) (x : List ℕ) → IsPermutation xs ys → tally x ys ≡ tally x xs
unfolding tally
same_tally xs ys x p = sum_by-IsPermutation (once x) xs ys p

-- The order of names does not matter.
pub different_permuted : (xs ys : List (Bor (List ℕ))) → IsPermutation xs ys → all_different (map lent ys) ≡ all_different (map lent xs)
different_permuted xs ys p = by_tests (all_different (map lent xs)) (all_different (map lent ys)) refl refl where
  by_tests : (s t : Bool) → all_different (map lent xs) ≡ s → all_different (map lent ys) ≡ t → all_different (map lent ys) ≡ all_different (map lent xs)
  by_tests true true a b = b ∙ sym a
  by_tests false false a b = b ∙ sym a
  by_tests true false a b = let twin = twin_of ys b in let l = twin.1 in absurd (omega (arith, l, few_of xs a twin.0, same_tally xs ys twin.0 p))
  by_tests false true a b = let twin = twin_of xs a in let l = twin.1 in absurd (omega (arith, l, few_of ys b twin.0, same_tally xs ys twin.0 p))

-- ---- sorted names

abbrev cmp_names : Bor (List ℕ) → Bor (List ℕ) → Ordering
cmp_names x y = slice_cmp nat_cmp x.now y.now

below : (x y : List ℕ) → is_lt (slice_cmp nat_cmp y x) ≡ false → bytes_eq x y ≡ false → slice_cmp nat_cmp x y ≡ Less
below x y not_less other = by_order (slice_cmp nat_cmp x y) refl where
  by_order : (o : Ordering) → slice_cmp nat_cmp x y ≡ o → slice_cmp nat_cmp x y ≡ Less
  by_order Less e = e
  by_order Equal e = let same : true ≡ bytes_eq x y = rw e at (is_eq-slice_cmp x y) in absurd cc
  by_order Greater e =
      let turned : slice_cmp nat_cmp y x ≡ Less = nat_list_cmp_total.antisymm y x ∙ ap ordering_reverse e in
      let wrong : true ≡ false = rw turned at not_less in absurd cc

-- Each is below all later ones.
abbrev Rises : List (List ℕ) → Type 0
Rises [] = Unit {0}
Rises (x ∷ xs) = AllByRecursion (λ y. slice_cmp nat_cmp x y ≡ Less) xs × Rises xs

all_above : (x y : List ℕ) (ys : List (List ℕ)) → slice_cmp nat_cmp x y ≡ Less → AllByRecursion (λ z. slice_cmp nat_cmp y z ≡ Less) ys → AllByRecursion (λ z. slice_cmp nat_cmp x z ≡ Less) ys
all_above x y [] less all = tt
all_above x y (z ∷ ys) less all = (nat_list_cmp_total.trans x y z less all.0, all_above x y ys less all.1)

rises : (ys : List (Bor (List ℕ))) → IsSorted cmp_names ys → repeats (map lent ys) ≡ false → Rises (map lent ys)
rises [] sorted none = tt
rises (x ∷ []) sorted none = (tt, tt)
rises (x ∷ y ∷ ys) sorted none =
    let both = or_parts (bytes_eq x.now y.now) (repeats (map lent (y ∷ ys))) none in
    let less : slice_cmp nat_cmp x.now y.now ≡ Less = below x.now y.now (sorted 0 x (omega arith) (omega arith)) both.0 in
    let later = rises (y ∷ ys) (λ k d low high.
    let e : suc k + 1 ≡ suc (k + 1) = omega arith in
    subst (λ (n : ℕ). is_lt (cmp_names (slice_index_or (x ∷ y ∷ ys) n d) (slice_index_or (y ∷ ys) k d)) ≡ false) e (sorted (suc k) d (omega arith) (omega arith))) both.1 in
    ((less, all_above x.now y.now (map lent ys) less later.0), later)

no_twin : (x : List ℕ) (ys : List (List ℕ)) → AllByRecursion (λ y. slice_cmp nat_cmp x y ≡ Less) ys → list_any (bytes_eq x) ys ≡ false
no_twin x [] all = refl
no_twin x (y ∷ ys) all =
    let other : false ≡ bytes_eq x y = rw all.0 at (is_eq-slice_cmp x y) in
    or_from (bytes_eq x y) (list_any (bytes_eq x) ys) (sym other) (no_twin x ys all.1)

rising_different : (ys : List (List ℕ)) → Rises ys → all_different ys ≡ true
rising_different [] r = refl
rising_different (y ∷ ys) r =
    and_from (not (list_any (bytes_eq y) ys)) (all_different ys) (not_from_false (list_any (bytes_eq y) ys) (no_twin y ys r.0)) (rising_different ys r.1)

repeated_equal : (ys : List (List ℕ)) → repeats ys ≡ true → all_different ys ≡ false
repeated_equal [] e = absurd cc
repeated_equal (x ∷ []) e = absurd cc
repeated_equal (x ∷ y ∷ ys) e = elim (or_cases (bytes_eq x y) (repeats (y ∷ ys)) e) [
  | inl same ↦
      let any : (bytes_eq x y || list_any (bytes_eq x) ys) ≡ true = ap (λ b. b || list_any (bytes_eq x) ys) same in
      ap (λ b. not b && all_different (y ∷ ys)) any
  | inr later ↦
      let rest = repeated_equal (y ∷ ys) later in
      ap (λ b. not (list_any (bytes_eq x) (y ∷ ys)) && b) rest ∙ and_false (not (list_any (bytes_eq x) (y ∷ ys)))
] where
  and_false : (b : Bool) → (b && false) ≡ false
  and_false true = refl
  and_false false = refl

pub sorted_different : (ys : List (Bor (List ℕ))) → IsSorted cmp_names ys → not (repeats (map lent ys)) ≡ all_different (map lent ys)
sorted_different ys sorted = by_test (repeats (map lent ys)) refl where
  by_test : (b : Bool) → repeats (map lent ys) ≡ b → not (repeats (map lent ys)) ≡ all_different (map lent ys)
  by_test true e = ap not e ∙ sym (repeated_equal (map lent ys) e)
  by_test false e = ap not e ∙ sym (rising_different (map lent ys) (rises ys sorted e))

pub sorted_names : (xs ys : List (Bor (List ℕ))) (names : List (List ℕ)) → map lent xs ≡ names → IsPermutation xs ys → IsSorted cmp_names ys → not (repeats (map lent ys)) ≡ all_different names
sorted_names xs ys names are p sorted = sorted_different ys sorted ∙ different_permuted xs ys p ∙ ap all_different are
