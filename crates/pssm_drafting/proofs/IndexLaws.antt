-- What is true of each of a list is true of what stands at a place of an equal list.
use Rattle.std.proofs.Common.{◌≡◌, ◌<◌, ℕ, List, length, slice_index_or, sym, subst}
use Rattle.std.specs.List.{All}

pub all_there : (P : ℕ → Type 0) (xs ys : List ℕ) (i d : ℕ) → All P xs → ys ≡ xs → i < length ys → P (slice_index_or ys i d)
all_there P xs ys i d all same less = subst (λ (zs : List ℕ). All P zs) (sym same) all i d less
