-- What stands at a place of a list once one place of it has been written, and of two lists one after the other.
use Rattle.std.proofs.Common.{◌≡◌, ◌<◌, ◌+◌, ◌++◌, ℕ, zero, suc, List, [], ◌∷◌, length, take, drop, Option, Some, None, IfNone, slice_get, refl, ap, ◌∙◌, arith}
use Rattle.std.specs.List.{AllByRecursion}
use Rattle.std.proofs.Math.ListN.{set}

pub get-set_same : {X : Type 0} (xs : List X) (k : ℕ) (y : X) → k < length xs → slice_get (set xs k y) k ≡ Some y
get-set_same [] k y lt = absurd (omega arith)
get-set_same (x ∷ xs) zero y lt = refl
get-set_same (x ∷ xs) (suc k) y lt = get-set_same xs k y (omega arith)

pub get-set_other : {X : Type 0} (xs : List X) (k j : ℕ) (y : X) → (j ≡ k → ⊥) → slice_get (set xs k y) j ≡ slice_get xs j
get-set_other [] k j y apart = refl
get-set_other (x ∷ xs) zero zero y apart = absurd (apart refl)
get-set_other (x ∷ xs) zero (suc j) y apart = refl
get-set_other (x ∷ xs) (suc k) zero y apart = refl
get-set_other (x ∷ xs) (suc k) (suc j) y apart = get-set_other xs k j y (λ e. apart (omega (arith, e)))

-- what stands in the first of two lists, and in the second
pub get-front : {X : Type 0} (xs ys : List X) (k : ℕ) (x : X) → slice_get xs k ≡ Some x → slice_get (xs ++ ys) k ≡ Some x
get-front [] ys k x e = let none : None ≡ Some x = e in absurd (cc)
get-front (z ∷ xs) ys zero x e = e
get-front (z ∷ xs) ys (suc k) x e = get-front xs ys k x e

pub get-back : {X : Type 0} (xs ys : List X) (k : ℕ) → slice_get (xs ++ ys) (length xs + k) ≡ slice_get ys k
get-back [] ys k = ap (slice_get ys) (let same : 0 + k ≡ k = omega arith in same)
get-back (z ∷ xs) ys k = ap (slice_get (z ∷ xs ++ ys)) (let same : suc (length xs) + k ≡ suc (length xs + k) = omega arith in same) ∙ get-back xs ys k

-- a list is what stands before a place, what stands there, and what stands behind it
pub split-at : {X : Type 0} (xs : List X) (k : ℕ) (x : X) → slice_get xs k ≡ Some x → xs ≡ take k xs ++ x ∷ drop (suc k) xs
split-at [] k x at = let none : None ≡ Some x = at in absurd (cc)
split-at (y ∷ ys) zero x at = let same : y ≡ x = cc in ap (λ z. z ∷ ys) same
split-at (y ∷ ys) (suc k) x at = ap (λ zs. y ∷ zs) (split-at ys k x at)

-- what holds of each element before a place
pub all-before : {X : Type 0} (P : X → Type 0) (xs : List X) (k : ℕ) → ((j : ℕ) (x : X) → j < k → slice_get xs j ≡ Some x → P x)
    → AllByRecursion P (take k xs)
all-before P [] zero each = tt
all-before P [] (suc k) each = tt
all-before P (x ∷ xs) zero each = tt
all-before P (x ∷ xs) (suc k) each =
    (each 0 x (omega arith) refl, all-before P xs k (λ j y lt at. each (suc j) y (omega arith) at))

-- what follows from what holds of each element
pub all-so : {X : Type 0} {P Q : X → Type 0} (xs : List X) → AllByRecursion P xs → ((x : X) → P x → Q x) → AllByRecursion Q xs
all-so [] all so = tt
all-so (x ∷ xs) all so = (so x all.0, all-so xs all.1 so)

-- what holds where there is nothing
pub none_then : {X : Type 0} {P Q : Type 0} (found : Option X) → IfNone found P → (P → Q) → IfNone found Q
none_then None holds so = so holds
none_then (Some x) holds so = tt
