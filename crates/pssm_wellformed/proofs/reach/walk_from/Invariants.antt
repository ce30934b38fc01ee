use Rattle.std.proofs.Common.{◌-◌, length}
use Rattle.pssm_wellformed.specs.inner.Reach.{IsWalked}
use Rattle.pssm_wellformed.proofs.reach.walk_from.Given as goal

abbrev pub invariant-loop-place : goal.invariant-loop-place
invariant-loop-place l = IsWalked l.onward l.first l.place l.marks.items l.found.items

abbrev pub decreases-loop-place : goal.decreases-loop-place
decreases-loop-place l = length l.onward - l.place
