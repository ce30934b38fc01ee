use Rattle.pssm_legs.specs.inner.Told.{IsCalledAsTold}
use Rattle.pssm_legs.proofs.LaterPlaces.{IsClimbing, places_left}
use Rattle.pssm_legs.proofs.ahead.is_called_before.Given as goal

-- the walk has passed none that calls the item
abbrev pub invariant-up : goal.invariant-up
invariant-up l = IsClimbing l.fn.legs (λ j b. IsCalledAsTold l.fn.machine l.fn.legs j b l.fn.fires l.fn.item) l.fn.place l.before

abbrev pub decreases-up : goal.decreases-up
decreases-up l = places_left l.before
