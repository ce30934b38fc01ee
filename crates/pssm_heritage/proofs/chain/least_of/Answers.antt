use Rattle.std.proofs.Common.{inl, inr, arith}
use Rattle.pssm_heritage.proofs.WalkLaws.{least_more}
use Rattle.pssm_heritage.proofs.chain.least_of.Goals as goal
use Rattle.pssm_heritage.proofs.chain.least_of.Goals.{then-other-least, else-other-least}

pub loop-other-preserved : goal.loop-other-preserved
loop-other-preserved c =
    least_more c.args.first c.loop-other.other-index c.loop-other.least c.if-other-least.least c.args.others.now (omega arith) c.loop-other.invariant
    (elim c.if-other-least.branch [ then-other-least w ↦ inl (w.least-is, omega arith) | else-other-least w ↦ inr (w.least-is, omega arith) ])
