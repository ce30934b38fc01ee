-- How often a number stands in a list, and in several.
use Rattle.std.proofs.Common.{◌≡◌, ◌≢◌, ◌≤◌, ◌<◌, ◌+◌, ◌++◌, ℕ, zero, suc, cond, List, [], ◌∷◌, length, Some, slice_get, refl, sym, ap, ◌∙◌, ⊎_elim, arith}
use Rattle.std.proofs.Math.ListN.{set}
use Rattle.std.specs.List.{remove}
use Rattle.std.proofs.lemmas.Bool.Decides.{eqb_tells}
use Rattle.std.proofs.lemmas.List.{get_or-set_other, length-set}
use Rattle.std.proofs.lemmas.List.Sums.{sum_by-set}
use Rattle.pssm_links.specs.inner.Rings.{count_of, count_in, row_of, less, more}

pub count-here : (k x : ℕ) (xs : List ℕ) → x ≡ k → count_of k (x ∷ xs) ≡ 1 + count_of k xs
count-here k x xs same =
    ⊎_elim (λ yes. ap (λ b. cond b 1 0 + count_of k xs) yes.0) (λ no. absurd (no.1 same)) (eqb_tells x k)

pub count-other : (k x : ℕ) (xs : List ℕ) → x ≢ k → count_of k (x ∷ xs) ≡ count_of k xs
count-other k x xs apart =
    ⊎_elim
    (λ yes. absurd (apart yes.1))
    (λ no.
    let e : count_of k (x ∷ xs) ≡ 0 + count_of k xs = ap (λ b. cond b 1 0 + count_of k xs) no.0 in
    omega (arith, e))
    (eqb_tells x k)

-- what does not stand in a list is not its first, and does not stand in the rest
pub absent-first : (k x : ℕ) (xs : List ℕ) → count_of k (x ∷ xs) ≡ 0 → x ≢ k
absent-first k x xs none same = let here = count-here k x xs same in omega (arith, here, none)

pub absent-rest : (k x : ℕ) (xs : List ℕ) → count_of k (x ∷ xs) ≡ 0 → count_of k xs ≡ 0
absent-rest k x xs none = sym (count-other k x xs (absent-first k x xs none)) ∙ none

pub count-append : (k : ℕ) (xs ys : List ℕ) → count_of k (xs ++ ys) ≡ count_of k xs + count_of k ys
count-append k [] ys = omega arith
count-append k (x ∷ xs) ys = omega (arith, count-append k xs ys)

pub count-at : (k : ℕ) (xs : List ℕ) (i : ℕ) → slice_get xs i ≡ Some k → 1 ≤ count_of k xs
count-at k [] i at = absurd (cc)
count-at k (x ∷ xs) zero at = let here = count-here k x xs (let same : x ≡ k = cc in same) in omega (arith, here)
count-at k (x ∷ xs) (suc i) at = let there = count-at k xs i at in omega (arith, there)

pub count-remove : (k : ℕ) (xs : List ℕ) (i y : ℕ) → slice_get xs i ≡ Some y
    → count_of k (remove xs i) + count_of k (y ∷ []) ≡ count_of k xs
count-remove k [] i y at = absurd (cc)
count-remove k (x ∷ xs) zero y at =
    let same : x ≡ y = cc in
    let e = ap (λ z. count_of k (z ∷ [])) same in
    omega (arith, e)
count-remove k (x ∷ xs) (suc i) y at = let there = count-remove k xs i y at in omega (arith, there)

-- what stands in a list once stands at one place
pub one-place : (k : ℕ) (xs : List ℕ) (i j : ℕ) → count_of k xs ≤ 1 → slice_get xs i ≡ Some k → slice_get xs j ≡ Some k → i ≡ j
one-place k [] i j once one other = absurd (cc)
one-place k (x ∷ xs) zero zero once one other = refl
one-place k (x ∷ xs) zero (suc j) once one other =
    let here = count-here k x xs (let same : x ≡ k = cc in same) in
    let there = count-at k xs j other in
    absurd (omega (arith, here, there, once))
one-place k (x ∷ xs) (suc i) zero once one other =
    let here = count-here k x xs (let same : x ≡ k = cc in same) in
    let there = count-at k xs i one in
    absurd (omega (arith, here, there, once))
one-place k (x ∷ xs) (suc i) (suc j) once one other = ap suc (one-place k xs i j (omega (arith, once)) one other)

-- a row holds no more than all rows together, and two rows neither
pub row-le : (k : ℕ) (rows : List (List ℕ)) (l : ℕ) → l < length rows → count_of k (row_of rows l) ≤ count_in k rows
row-le k rows l lt = let without = sum_by-set (count_of k) rows l [] [] lt in omega (arith, without)

pub two-rows : (k : ℕ) (rows : List (List ℕ)) (l m : ℕ) → l < length rows → m < length rows → m ≢ l
    → count_of k (row_of rows l) + count_of k (row_of rows m) ≤ count_in k rows
two-rows k rows l m one other apart =
    let without = sum_by-set (count_of k) rows l [] [] one in
    let there = row-le k (set rows l []) m (omega (arith, length-set {A = List ℕ})) in
    let same : count_of k (row_of (set rows l []) m) ≡ count_of k (row_of rows m) = ap (count_of k) (get_or-set_other rows l m [] [] apart) in
    omega (arith, without, there, same)

-- what leaves a row at a place of it, and what comes to one
pub count-less : (k : ℕ) (rows : List (List ℕ)) (r i y : ℕ) → r < length rows → slice_get (row_of rows r) i ≡ Some y
    → count_in k (less rows r i) + count_of k (y ∷ []) ≡ count_in k rows
count-less k rows r i y lt at =
    let row = sum_by-set (count_of k) rows r (remove (row_of rows r) i) [] lt in
    let fewer = count-remove k (row_of rows r) i y at in
    omega (arith, row, fewer)

pub count-more : (k : ℕ) (rows : List (List ℕ)) (y to : ℕ) → to < length rows
    → count_in k (more rows y to) ≡ count_in k rows + count_of k (y ∷ [])
count-more k rows y to lt =
    let row = sum_by-set (count_of k) rows to (row_of rows to ++ y ∷ []) [] lt in
    let one = count-append k (row_of rows to) (y ∷ []) in
    omega (arith, row, one)
