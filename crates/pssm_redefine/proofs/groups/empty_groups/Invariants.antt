use Rattle.std.proofs.Common.{[]}
use Rattle.pssm_redefine.specs.Groups.{AreGroups}
use Rattle.pssm_redefine.proofs.groups.empty_groups.Given as goal

abbrev pub invariant-loop-number : goal.invariant-loop-number
invariant-loop-number l = AreGroups l._number [] l.groups.items
