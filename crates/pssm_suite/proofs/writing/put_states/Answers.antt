use Rattle.std.proofs.Common.{arith}
use Rattle.pssm_suite.specs.Generated.{state_line}
use Rattle.pssm_suite.proofs.TextLaws.{line_more}
use Rattle.pssm_suite.proofs.writing.put_states.Goals as goal

pub loop-number-preserved : goal.loop-number-preserved
loop-number-preserved c =
    (omega arith, line_more state_line c.loop-number.number c.args.text.now.items c.loop-number.text.items c.put_state.new.text.items c.loop-number.invariant.0 c.in_ok-put_state.ensures c.loop-number.invariant.1)
