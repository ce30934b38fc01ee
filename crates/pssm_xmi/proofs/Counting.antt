-- At most so many are of a kind, where none has so many before it.
use Rattle.std.proofs.Common.{◌≡◌, ◌≤◌, ◌+◌, ◌&&◌, ℕ, zero, suc, Bool, true, false, cond, List, [], ◌∷◌, ◌++◌, length, filter, refl, sym, ap, subst, ◌∙◌, arith, length-append, append-nil, zero-add}
use Rattle.std.specs.List.{range_with_len}
use Rattle.std.proofs.lemmas.List.{map-id}
use Rattle.std.proofs.lemmas.List.FromFn.{filter_of_map_range_with_len_more}
use Rattle.pssm_profile.specs.Kinds.{AreBefore, StandBefore}
use Rattle.pssm_profile.specs.Kinds.AreBefore.{none, one_more, other}
use Rattle.pssm_xmi.proofs.Tests.{by_test}

-- those of the first numbers that pass
abbrev pub firsts : (ℕ → Bool) → ℕ → List ℕ
firsts q n = filter q (range_with_len 0 n)

next_first : (q : ℕ → Bool) (n : ℕ) → firsts q (suc n) ≡ firsts q n ++ cond (q n) (n ∷ []) []
next_first q n =
    ap (firsts q) (let e : suc n ≡ n + 1 = omega arith in e)
    ∙ ap (filter q) (sym (map-id (range_with_len 0 (n + 1))))
    ∙ filter_of_map_range_with_len_more q (λ (x : ℕ). x) 0 n n (zero-add n)
    ∙ ap (λ xs. filter q xs ++ cond (q n) (n ∷ []) []) (map-id (range_with_len 0 n))

taken : (q : ℕ → Bool) (n : ℕ) → q n ≡ true → firsts q (suc n) ≡ firsts q n ++ n ∷ []
taken q n here = next_first q n ∙ ap (λ (b : Bool). firsts q n ++ cond b (n ∷ []) []) here

passed : (q : ℕ → Bool) (n : ℕ) → q n ≡ false → firsts q (suc n) ≡ firsts q n
passed q n here = next_first q n ∙ ap (λ (b : Bool). firsts q n ++ cond b (n ∷ []) []) here ∙ append-nil (firsts q n)

module _ (Is : ℕ → Type 0) (q : ℕ → Bool) (yes : (n : ℕ) → q n ≡ true → Is n) (no : (n : ℕ) → q n ≡ false → Is n → ⊥) where
  -- The first that pass are those before.
  all_before : (n : ℕ) → AreBefore Is n (firsts q n)
  all_before zero = none
  all_before (suc n) =
      let before = all_before n in
      by_test (q n)
      (λ here. subst (AreBefore Is (suc n)) (sym (taken q n here)) (one_more before (yes n here)))
      (λ here. subst (AreBefore Is (suc n)) (sym (passed q n here)) (other before (no n here)))

  -- There are at most so many.
  pub at_most_so_many : (most len : ℕ) → ((n : ℕ) → Is n → StandBefore Is n most → ⊥) → length (firsts q len) ≤ most
  at_most_so_many most zero few = omega arith
  at_most_so_many most (suc len) few =
      let before = at_most_so_many most len few in
      by_test (q len)
      (λ here. let e = ap length (taken q len here) ∙ length-append (firsts q len) (len ∷ []) in
      let not_full : (length (firsts q len) ≡ most) → ⊥ = λ same. few len (yes len here) (record { numbers = firsts q len; all = all_before len; counted = same }) in
      omega (arith, e, before, not_full))
      (λ here. let e = ap length (passed q len here) in omega (arith, e, before))

-- What passes two tests passes both.
pub filter_both : (p q : ℕ → Bool) (xs : List ℕ) → filter p (filter q xs) ≡ filter (λ n. q n && p n) xs
filter_both p q [] = refl
filter_both p q (x ∷ xs) = by_first (q x) (filter_both p q xs) where
  by_first : (b : Bool) → filter p (filter q xs) ≡ filter (λ n. q n && p n) xs
      → filter p (cond b (x ∷ filter q xs) (filter q xs)) ≡ cond (b && p x) (x ∷ filter (λ n. q n && p n) xs) (filter (λ n. q n && p n) xs)
  by_first true same = ap (λ ys. cond (p x) (x ∷ ys) ys) same
  by_first false same = same

-- No more pass than there are.
pub fewer_pass : (q : ℕ → Bool) (xs : List ℕ) → length (filter q xs) ≤ length xs
fewer_pass q [] = omega arith
fewer_pass q (x ∷ xs) = by_first (q x) (fewer_pass q xs) where
  by_first : (b : Bool) → length (filter q xs) ≤ length xs → length (cond b (x ∷ filter q xs) (filter q xs)) ≤ suc (length xs)
  by_first true le = omega (arith, le)
  by_first false le = omega (arith, le)
