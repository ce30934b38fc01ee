use Rattle.std.proofs.Common.{take}
use Rattle.pssm_wellformed.specs.inner.Marks.{IsPutToEach}
use Rattle.pssm_wellformed.proofs.marks.put_to_each.Given as goal

abbrev pub invariant-loop-number : goal.invariant-loop-number
invariant-loop-number l = IsPutToEach l.item (take l.number-index l.numbers) l.initial.lists.items l.lists.items
