use Rattle.pssm_flat.proofs.WriteLaws.{transition_line_written}
use Rattle.pssm_flat.proofs.pieces.put_transition_line.Goals as goal

pub returns : goal.returns
returns c =
    transition_line_written c.args.number c.args.transition.now c.args.text.now.items c.put_numbered.new.text.items c.put_ends.new.text.items c.put_kind.new.text.items
    c.in_ok-put_numbered.ensures c.in_ok-put_ends.ensures c.in_ok-put_kind.ensures
