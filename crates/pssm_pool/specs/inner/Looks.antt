-- What a look along a pool has found so far.
use Rattle.std.specs.Prelude.{◌≡◌, ◌<◌, ℕ, List, Bool, true, Some, slice_get}
use Rattle.pssm_pool.specs.declared.pools.Waiting.{Waiting}

-- True may be answered for each signal before the place.
abbrev pub AllBefore : (Waiting → Bool → Type 0) → List Waiting → ℕ → Type 0
AllBefore Answers waiting k = (j : ℕ) (w : Waiting) → j < k → slice_get waiting j ≡ Some w → Answers w true
