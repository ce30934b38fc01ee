use Rattle.pssm_legs.specs.inner.Told.{IsEntered}
use Rattle.pssm_legs.proofs.LaterPlaces.{NoneYet}
use Rattle.pssm_legs.proofs.callers.further_entering.Given as goal

-- none so far enters it
abbrev pub invariant-loop-k : goal.invariant-loop-k
invariant-loop-k l = NoneYet l.fn.legs (λ i a. IsEntered l.fn.machine a l.fn.s) l.k
