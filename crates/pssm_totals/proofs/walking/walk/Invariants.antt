use Rattle.std.proofs.Common.{sum_by}
use Rattle.pssm_totals.specs.inner.Ways.{IsWalking, one_if_unknown}
use Rattle.pssm_totals.proofs.walking.walk.Given as goal

-- how far the way was walked
abbrev pub invariant-way : goal.invariant-way
invariant-way l = IsWalking l.extends l.fn.marks l.marks l.m l.path.items l.next

-- each machine is passed once
abbrev pub decreases-way : goal.decreases-way
decreases-way l = sum_by one_if_unknown l.marks
