use Rattle.std.proofs.Common.{arith}
use Rattle.pssm_suite.specs.Generated.{step_lines}
use Rattle.pssm_suite.proofs.TextLaws.{lines_more}
use Rattle.pssm_suite.proofs.writing.put_steps.Goals as goal

pub loop-number-preserved : goal.loop-number-preserved
loop-number-preserved c =
    (omega arith, lines_more (step_lines c.args.n) c.loop-number.number c.args.text.now.items c.loop-number.text.items c.put_step.new.text.items c.loop-number.invariant.0 c.in_ok-put_step.ensures c.loop-number.invariant.1)
