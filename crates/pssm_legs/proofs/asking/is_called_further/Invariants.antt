use Rattle.pssm_legs.specs.inner.Told.{IsCalledAsTold}
use Rattle.pssm_legs.proofs.LaterPlaces.{NoneYet}
use Rattle.pssm_legs.proofs.asking.is_called_further.Given as goal

-- none so far is such
abbrev pub invariant-loop-k : goal.invariant-loop-k
invariant-loop-k l = NoneYet l.fn.legs (λ i a. IsCalledAsTold l.fn.machine l.fn.legs i a l.fn.fires l.fn.item) l.k
