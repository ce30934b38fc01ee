use Rattle.pssm_model.specs.Legs.{LiesInScope}
use Rattle.pssm_legs.specs.Areas.{scope_of}
use Rattle.pssm_legs.proofs.LaterPlaces.{IsClimbing, places_left}
use Rattle.pssm_legs.proofs.asking.is_covered_before.Given as goal

-- the walk has passed none that exits and enters around the vertex
abbrev pub invariant-up : goal.invariant-up
invariant-up l = IsClimbing l.fn.legs (λ j b. LiesInScope l.fn.machine l.fn.s (scope_of b.area)) l.fn.place l.before

abbrev pub decreases-up : goal.decreases-up
decreases-up l = places_left l.before
