-- Lists with one item more at the end.
use Rattle.std.proofs.Common.{◌≡◌, ◌<◌, ℕ, zero, suc, List, [], ◌∷◌, ◌++◌, length, get_or, slice_get, Some, refl, arith}

-- the item at the end
pub get_pushed : {X : Type 0} (xs : List X) (x d : X) → get_or (xs ++ x ∷ []) (length xs) d ≡ x
get_pushed [] x d = refl
get_pushed (y ∷ xs) x d = get_pushed xs x d

pub slice_pushed : {X : Type 0} (xs : List X) (x : X) → slice_get (xs ++ x ∷ []) (length xs) ≡ Some x
slice_pushed [] x = refl
slice_pushed (y ∷ xs) x = slice_pushed xs x

-- an item before it
pub slice_before : {X : Type 0} (xs : List X) (x : X) (k : ℕ) → k < length xs → slice_get (xs ++ x ∷ []) k ≡ slice_get xs k
slice_before [] x k lt = absurd (omega arith)
slice_before (y ∷ xs) x zero lt = refl
slice_before (y ∷ xs) x (suc k) lt = slice_before xs x k (omega arith)
