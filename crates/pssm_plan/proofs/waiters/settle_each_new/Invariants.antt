use Rattle.pssm_plan.specs.inner.Marks.{IsAlike, ArePairwise}
use Rattle.pssm_plan.specs.inner.Sequence.{IsSequence}
use Rattle.pssm_plan.specs.inner.Passes.{AreCaught, AreSureBut, NewLeft}
use Rattle.pssm_plan.proofs.waiters.settle_each_new.Given as goal

-- the calls so far are told
abbrev pub invariant-loop-place : goal.invariant-loop-place
invariant-loop-place l =
    ArePairwise IsAlike l.fn.calls l.calls × AreCaught l.spans l.calls
    × AreSureBut (NewLeft l.place) (IsSequence l.machine l.ways) l.calls
