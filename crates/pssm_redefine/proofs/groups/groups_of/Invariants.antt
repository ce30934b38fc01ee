use Rattle.std.proofs.Common.{take}
use Rattle.pssm_redefine.specs.Groups.{AreGroups}
use Rattle.pssm_redefine.proofs.groups.groups_of.Given as goal

abbrev pub invariant-loop-one : goal.invariant-loop-one
invariant-loop-one l = AreGroups l.count (take l.one-index l.numbered) l.groups.items
