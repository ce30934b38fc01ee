use Rattle.std.proofs.Common.{◌+◌}
use Rattle.pssm_wellformed.specs.inner.Levels.{AreClimbing}
use Rattle.pssm_wellformed.proofs.levels.common_level.Given as goal

abbrev pub invariant-loop-place : goal.invariant-loop-place
invariant-loop-place l = AreClimbing l.machine l.fn.vertex l.fn.other l.place l.height l.other_place l.other_height

abbrev pub decreases-loop-place : goal.decreases-loop-place
decreases-loop-place l = l.height + l.other_height
