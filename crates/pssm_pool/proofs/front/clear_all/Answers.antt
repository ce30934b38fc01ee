-- all are, once there are no more
use Rattle.std.proofs.Common.{arith}
use Rattle.pssm_pool.proofs.Fronts.{all-emptied}
use Rattle.pssm_pool.proofs.front.clear_all.Goals as goal

pub returns-clause-empty : goal.returns-clause-empty
returns-clause-empty c =
    all-emptied c.loop-i.fronts.items c.loop-i.i
    (let count = c.loop-i.invariant.count in omega (arith, c.loop-i-test.false, c.loop-i.auto.i-end, c.as_slice-i-end.ensures.len, count)) c.loop-i.invariant.empty
