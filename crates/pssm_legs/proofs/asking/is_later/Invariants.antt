use Rattle.std.proofs.Common.{◌≡◌}
use Rattle.pssm_legs.proofs.LaterPlaces.{IsClimbing, places_left}
use Rattle.pssm_legs.proofs.asking.is_later.Given as goal

-- the walk has not passed the other place
abbrev pub invariant-up : goal.invariant-up
invariant-up l = IsClimbing l.fn.legs (λ j b. j ≡ l.fn.other) l.fn.place l.before

abbrev pub decreases-up : goal.decreases-up
decreases-up l = places_left l.before
