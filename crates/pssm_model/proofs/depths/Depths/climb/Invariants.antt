use Rattle.pssm_model.specs.inner.Depths.{unknowns}
use Rattle.pssm_model.proofs.Climbing.{IsClimbing}
use Rattle.pssm_model.proofs.depths.Depths.climb.Given as goal

-- how far it has climbed
abbrev pub invariant-loop-at : goal.invariant-loop-at
invariant-loop-at l = IsClimbing l.fn.draft l.fn.place l.path.items l.at l.self

-- each place is climbed once
abbrev pub decreases-loop-at : goal.decreases-loop-at
decreases-loop-at l = unknowns l.self
