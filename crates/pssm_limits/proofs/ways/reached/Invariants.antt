use Rattle.std.proofs.Common.{sum_by}
use Rattle.pssm_limits.specs.inner.Ways.{IsWalking, one_if_unmarked}
use Rattle.pssm_limits.proofs.ways.reached.Given as goal

abbrev pub invariant-way : goal.invariant-way
invariant-way l = IsWalking l.extends l.fn.from l.marks.items l.next

-- each machine is marked once
abbrev pub decreases-way : goal.decreases-way
decreases-way l = sum_by one_if_unmarked l.marks.items
