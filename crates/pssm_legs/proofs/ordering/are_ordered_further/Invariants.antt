use Rattle.pssm_legs.specs.inner.Told.{IsOrderedAsTold}
use Rattle.pssm_legs.proofs.LaterPlaces.{NoneYet}
use Rattle.pssm_legs.proofs.ordering.are_ordered_further.Given as goal

-- none so far is such
abbrev pub invariant-loop-k : goal.invariant-loop-k
invariant-loop-k l = NoneYet l.fn.legs (λ i a. IsOrderedAsTold l.fn.machine l.fn.legs i a l.fn.fires l.fn.first l.fn.second) l.k
