use Rattle.pssm_legs.specs.inner.Told.{HasTransition}
use Rattle.pssm_legs.proofs.LaterPlaces.{NoneYet}
use Rattle.pssm_legs.proofs.callers.further_with.Given as goal

-- none so far has it
abbrev pub invariant-loop-k : goal.invariant-loop-k
invariant-loop-k l = NoneYet l.fn.legs (λ i a. HasTransition a l.fn.t) l.k
