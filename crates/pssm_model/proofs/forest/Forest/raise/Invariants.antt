use Rattle.std.proofs.Common.{get_or}
use Rattle.pssm_model.proofs.Nesting.{IsRaising}
use Rattle.pssm_model.proofs.forest.Forest.raise.Given as goal

-- how far it has been raised
abbrev pub invariant-loop-at : goal.invariant-loop-at
invariant-loop-at l = IsRaising l.fn.draft l.fn.from l.fn.level l.at

-- fewer regions stand above each next one
abbrev pub decreases-loop-at : goal.decreases-loop-at
decreases-loop-at l = get_or l.fn.self.regions l.at.0 0
