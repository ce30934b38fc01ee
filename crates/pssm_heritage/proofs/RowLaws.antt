-- Lists with one item more, and the numbers noted in rows.
use Rattle.std.proofs.Common.{◌≡◌, ◌⊎◌, ◌<◌, ℕ, zero, suc, List, [], ◌∷◌, ◌++◌, length, take, replicate, set, Some, Result, Ok, Err, OnOk, get_or, refl, sym, ap, subst, ◌∙◌, inl, inr, ⊎_elim, arith, slice_get, option_and_then}
use Rattle.std.proofs.lemmas.Bool.{cases_lt, cases_eq}
use Rattle.std.proofs.lemmas.List.{get_or_past, get_or-replicate, length-replicate}
use Rattle.std.proofs.lemmas.Option.{slice_get_within, slice_get-get_or}
use Rattle.pssm_model.specs.declared.draft_setting.ElementRef.{ElementRef}
use Rattle.pssm_heritage.specs.inner.Tables.{look, with_number}
use Rattle.pssm_heritage.proofs.ElementLaws.{both}

-- ---- lists

pub on_ok : {T E P Q : Type 0} (r : Result T E) → (P → Q) → OnOk r P → OnOk r Q
on_ok (Ok x) f h = f h
on_ok (Err e) f h = tt

pub get_set_same : {X : Type 0} (xs : List X) (i : ℕ) (y : X) → i < length xs → slice_get (set xs i y) i ≡ Some y
get_set_same [] i y lt = absurd (omega arith)
get_set_same (x ∷ xs) zero y lt = refl
get_set_same (x ∷ xs) (suc i) y lt = get_set_same xs i y (omega arith)

pub get_set_other : {X : Type 0} (xs : List X) (i j : ℕ) (y : X) → (j ≡ i → ⊥) → slice_get (set xs i y) j ≡ slice_get xs j
get_set_other [] i j y ne = refl
get_set_other (x ∷ xs) zero zero y ne = absurd (ne refl)
get_set_other (x ∷ xs) zero (suc j) y ne = refl
get_set_other (x ∷ xs) (suc i) zero y ne = refl
get_set_other (x ∷ xs) (suc i) (suc j) y ne = get_set_other xs i j y (λ e. ne (ap suc e))

pub get_seam : {X : Type 0} (xs : List X) (x : X) → slice_get (xs ++ x ∷ []) (length xs) ≡ Some x
get_seam [] x = refl
get_seam (y ∷ xs) x = get_seam xs x

-- what stands in a list with one more
pub get_more : {X : Type 0} (xs : List X) (x : X) (j : ℕ) → (j ≡ length xs) ⊎ (slice_get (xs ++ x ∷ []) j ≡ slice_get xs j)
get_more [] x zero = inl refl
get_more [] x (suc j) = inr refl
get_more (y ∷ xs) x zero = inr refl
get_more (y ∷ xs) x (suc j) = ⊎_elim (λ e. inl (ap suc e)) (λ e. inr e) (get_more xs x j)

pub get_kept : {X : Type 0} (xs : List X) (x y : X) (j : ℕ) → slice_get xs j ≡ Some y → slice_get (xs ++ x ∷ []) j ≡ Some y
get_kept [] x y j e = absurd (cc)
get_kept (z ∷ xs) x y zero e = e
get_kept (z ∷ xs) x y (suc j) e = get_kept xs x y j e

pub take_all : {X : Type 0} (xs : List X) → take (length xs) xs ≡ xs
take_all [] = refl
take_all (x ∷ xs) = ap (λ ys. x ∷ ys) (take_all xs)

-- ---- rows

pub look_put : (rows : List (List ℕ)) (m n : ℕ) (e : ElementRef) → m < length rows
    → ((e.machine ≡ m) × (e.element ≡ length (get_or rows m []))) ⊎ (look (with_number rows m n) e ≡ look rows e)
look_put rows m n e lt =
    ⊎_elim
    (λ same. ⊎_elim
    (λ at. inl (same, at))
    (λ kept. inr (
    ap (λ o. option_and_then (λ (row : List ℕ). slice_get row e.element) o)
    (ap (λ j. slice_get (with_number rows m n) j) same ∙ get_set_same rows m (get_or rows m [] ++ n ∷ []) lt)
    ∙ kept
    ∙ sym (ap (λ o. option_and_then (λ (row : List ℕ). slice_get row e.element) o) (ap (λ j. slice_get rows j) same ∙ slice_get-get_or rows m [] lt))))
    (get_more (get_or rows m []) n e.element))
    (λ ne. inr (ap (λ o. option_and_then (λ (row : List ℕ). slice_get row e.element) o) (get_set_other rows m e.machine (get_or rows m [] ++ n ∷ []) ne)))
    (cases_eq e.machine m)

pub look_here : (rows : List (List ℕ)) (m n : ℕ) (e : ElementRef) → m < length rows → e.machine ≡ m → e.element ≡ length (get_or rows m [])
    → look (with_number rows m n) e ≡ Some n
look_here rows m n e lt same at =
    ap (λ o. option_and_then (λ (row : List ℕ). slice_get row e.element) o)
    (ap (λ j. slice_get (with_number rows m n) j) same ∙ get_set_same rows m (get_or rows m [] ++ n ∷ []) lt)
    ∙ ap (λ j. slice_get (get_or rows m [] ++ n ∷ []) j) at
    ∙ get_seam (get_or rows m []) n

pub get_or_set : {X : Type 0} (xs : List X) (i : ℕ) (y d : X) → i < length xs → get_or (set xs i y) i d ≡ y
get_or_set [] i y d lt = absurd (omega arith)
get_or_set (x ∷ xs) zero y d lt = refl
get_or_set (x ∷ xs) (suc i) y d lt = get_or_set xs i y d (omega arith)

pub no_row : (n k : ℕ) → get_or (replicate n (let none : List ℕ = [] in none)) k [] ≡ []
no_row n k =
    ⊎_elim
    (λ lt. get_or-replicate n k [] [] lt)
    (λ ge. get_or_past (replicate n []) k [] (let l = length-replicate {A = List ℕ} n [] in omega arith))
    (cases_lt k n)

pub no_look : (n : ℕ) (e : ElementRef) (x : ℕ) → look (replicate n []) e ≡ Some x → ⊥
no_look n e x h =
    let row = both (λ (row : List ℕ). slice_get row e.element) (slice_get (replicate n []) e.machine) x h in
    let lt = slice_get_within (replicate n []) e.machine row.0 row.1 in
    let some = slice_get-get_or (replicate n []) e.machine [] lt in
    let is : row.0 ≡ [] = let none = no_row n e.machine in cc in
    let at = subst (λ r. slice_get r e.element ≡ Some x) is row.2 in
    cc
