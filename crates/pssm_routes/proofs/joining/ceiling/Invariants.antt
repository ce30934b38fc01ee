use Rattle.pssm_routes.proofs.Ceilings.{IsClimbing}
use Rattle.pssm_routes.proofs.joining.ceiling.Given as goal

-- how far the climb has come
abbrev pub invariant-loop-found : goal.invariant-loop-found
invariant-loop-found l = IsClimbing l.machine l.footprints l.fn.s l.found l.region l.left

-- fewer regions are left above each next one
abbrev pub decreases-loop-found : goal.decreases-loop-found
decreases-loop-found l = l.left
