use Rattle.pssm_legs.proofs.RegionsAround.{IsRising}
use Rattle.pssm_legs.proofs.areas.region_around.Given as goal

-- a region around the vertex, no further out than the one that is sought
abbrev pub invariant-up : goal.invariant-up
invariant-up l = IsRising l.fn.machine l.fn.state l.fn.v l.region l.height

abbrev pub decreases-up : goal.decreases-up
decreases-up l = l.height
