use Rattle.std.proofs.Common.{sum_by}
use Rattle.pssm_heritage.specs.inner.Walks.{IsWalking, unseen}
use Rattle.pssm_heritage.proofs.chain.walk.Given as goal

-- how far the way has been walked
abbrev pub invariant-loop-seen : goal.invariant-loop-seen
invariant-loop-seen l = IsWalking l.fn.draft l.fn.m l.path.items l.at l.seen.items

-- each machine is seen once
abbrev pub decreases-loop-seen : goal.decreases-loop-seen
decreases-loop-seen l = sum_by unseen l.seen.items
