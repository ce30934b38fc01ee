use Rattle.pssm_flat.specs.Text.{transition_lines}
use Rattle.pssm_flat.proofs.TextLaws.{written_next}
use Rattle.pssm_flat.proofs.writing.put_transitions.Goals as goal

pub loop-number-preserved : goal.loop-number-preserved
loop-number-preserved c =
    written_next (transition_lines c.args.names.now c.args.class.now) c.loop-number.number c.from.result c.args.class.now.machine.transitions c.transition-transition.result.now c.loop-number.text.items c.put_transition.new.text.items _
    c.from.ensures c.transition-transition.ensures c.in_ok-put_transition.ensures c.loop-number.invariant
