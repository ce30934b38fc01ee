use Rattle.std.proofs.Common.{arith}
use Rattle.pssm_totals.proofs.CircleLaws.{fill_more}
use Rattle.pssm_totals.proofs.settling.fill.Goals as goal

pub loop-m-preserved : goal.loop-m-preserved
loop-m-preserved c =
    fill_more c.args.marks.now c.loop-m.marks c.args.machines.now c.loop-m.m-index _ (omega arith)
    (let below = c.requires c.loop-m.m-index 0 (omega arith) in omega arith) c.loop-m.invariant
