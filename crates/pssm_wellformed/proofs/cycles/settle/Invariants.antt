use Rattle.std.proofs.Common.{length, take}
use Rattle.pssm_wellformed.specs.inner.Cycles.{IsSettled}
use Rattle.pssm_wellformed.proofs.cycles.settle.Given as goal

abbrev pub invariant-loop-number : goal.invariant-loop-number
invariant-loop-number l = IsSettled l.onward (take l.number-index l.group) (length l.group) l.initial.stages.items l.stages.items l.initial.cyclic.items l.cyclic.items
