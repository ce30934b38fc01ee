use Rattle.std.proofs.Common.{length}
use Rattle.pssm_wellformed.specs.inner.Cycles.{IsJoined}
use Rattle.pssm_wellformed.proofs.cycles.join.Given as goal

abbrev pub invariant-loop-groups : goal.invariant-loop-groups
invariant-loop-groups l = IsJoined l.place l.initial.groups.items l.groups.items

abbrev pub decreases-loop-groups : goal.decreases-loop-groups
decreases-loop-groups l = length l.groups.items
