use Rattle.pssm_legs.specs.LegsOf.{leg_list, StandsLater}
use Rattle.pssm_legs.specs.inner.Told.{IsCalledAsTold}
use Rattle.pssm_legs.proofs.LaterPlaces.{NoneYet}
use Rattle.pssm_legs.proofs.asking.is_called_later.Given as goal

-- none so far is such
abbrev pub invariant-loop-k : goal.invariant-loop-k
invariant-loop-k l = NoneYet l.fn.legs (λ j b. StandsLater (leg_list l.fn.legs) l.fn.place j × IsCalledAsTold l.fn.machine l.fn.legs j b l.fn.fires l.fn.item) l.k
