-- one object more has none
use Rattle.std.proofs.Common.{◌+◌, arith, subst}
use Rattle.pssm_system.specs.inner.Choosing.{FindsAmong}
use Rattle.pssm_system.proofs.Choices.{none-both}
use Rattle.pssm_system.proofs.situation.Situation.choose_among.Goals as goal

pub loop-k-preserved : goal.loop-k-preserved
loop-k-preserved c =
    let here = subst (FindsAmong c.args.setting.now c.args.self.now c.args.wanted c.loop-k.k (c.loop-k.k + 1)) c.in_default.is c.in_ok-entry.ensures in
    none-both c.args.setting.now c.args.self.now c.args.wanted c.args.from c.loop-k.k (c.loop-k.k + 1) c.loop-k.invariant here

pub returns : goal.returns
returns c = λ J e stands le lt. c.loop-k.invariant J e stands le (omega arith)
