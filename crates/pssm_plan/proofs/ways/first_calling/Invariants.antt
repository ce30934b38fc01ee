use Rattle.std.proofs.Common.{◌≡◌, ◌<◌, ℕ, Some, slice_get}
use Rattle.pssm_plan.specs.declared.ways.Way.{Way}
use Rattle.pssm_plan.specs.inner.ByWays.{calls_by}
use Rattle.pssm_plan.proofs.ways.first_calling.Given as goal

-- none of the ways so far calls the item
abbrev pub invariant-loop-k : goal.invariant-loop-k
invariant-loop-k l = (j : ℕ) (way : Way) → j < l.k → slice_get l.ways j ≡ Some way → calls_by l.machine way l.item → ⊥
