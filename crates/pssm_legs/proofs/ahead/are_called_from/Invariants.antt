use Rattle.pssm_legs.specs.inner.Told.{IsCalledFrom}
use Rattle.pssm_legs.proofs.LaterPlaces.{NoneYet}
use Rattle.pssm_legs.proofs.ahead.are_called_from.Given as goal

-- none so far is such
abbrev pub invariant-loop-k : goal.invariant-loop-k
invariant-loop-k l = NoneYet l.fn.legs (λ i a. IsCalledFrom l.fn.machine l.fn.legs i a l.fn.fires l.fn.first l.fn.second) l.k
