use Rattle.pssm_plan.specs.inner.Marks.{IsAlike, ArePairwise}
use Rattle.std.specs.Prelude.{◌≡◌, ◌≤◌, ℕ, slice_index_or}
use Rattle.pssm_plan.specs.declared.roster.Call.{Call}
use Rattle.pssm_plan.specs.inner.Sequence.{IsSequence}
use Rattle.pssm_plan.specs.inner.Passes.{AreCaught, AreSureBut, NewLeft}
use Rattle.pssm_plan.proofs.waiters.settle_each.Given as goal

-- the calls so far are told, and the others are as they were
abbrev pub invariant-loop-place : goal.invariant-loop-place
invariant-loop-place l =
    ArePairwise IsAlike l.fn.calls l.calls × AreCaught l.spans l.calls
    × AreSureBut (NewLeft l.place) (IsSequence l.machine l.ways) l.calls
    × ((k : ℕ) (d : Call) → l.place ≤ k → slice_index_or l.calls k d ≡ slice_index_or l.fn.calls k d)
