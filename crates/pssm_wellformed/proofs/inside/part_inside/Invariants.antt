use Rattle.pssm_wellformed.specs.inner.Levels.{IsSeeking}
use Rattle.pssm_wellformed.proofs.inside.part_inside.Given as goal

abbrev pub invariant-loop-height : goal.invariant-loop-height
invariant-loop-height l = IsSeeking l.machine l.fn.vertex l.whole l.place l.height

abbrev pub decreases-loop-height : goal.decreases-loop-height
decreases-loop-height l = l.height
