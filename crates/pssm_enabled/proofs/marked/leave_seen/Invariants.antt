use Rattle.pssm_enabled.specs.inner.Fitting.{LeavesMarked}
use Rattle.pssm_enabled.proofs.ListPlaces.{Below}
use Rattle.pssm_enabled.proofs.marked.leave_seen.Given as goal

-- it is so of those before
abbrev pub invariant-loop-t : goal.invariant-loop-t
invariant-loop-t l = Below (LeavesMarked l.machine l.seen) l.transitions l.t-index
