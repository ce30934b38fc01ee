use Rattle.pssm_flat.proofs.WriteLaws.{transition_written}
use Rattle.pssm_flat.proofs.writing.put_transition.Goals as goal

pub returns : goal.returns
returns c =
    transition_written c.args.names.now c.args.class.now c.args.number c.args.transition.now c.args.text.now.items c.put_transition_line.new.text.items c.put_names.new.text.items c.put_guard.new.text.items c.put_behaviour.new.text.items
    c.in_ok-put_transition_line.ensures c.in_ok-put_names.ensures c.in_ok-put_guard.ensures c.in_ok-put_behaviour.ensures
