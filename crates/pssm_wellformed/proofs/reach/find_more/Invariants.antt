use Rattle.std.proofs.Common.{length}
use Rattle.pssm_wellformed.proofs.Walking.{IsFinding}
use Rattle.pssm_wellformed.proofs.reach.find_more.Given as goal

abbrev pub invariant-loop-number : goal.invariant-loop-number
invariant-loop-number l = IsFinding (length l.initial.marks.items) l.initial.found.items l.further l.number-index l.marks.items l.found.items
