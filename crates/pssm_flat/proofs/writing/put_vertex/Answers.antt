use Rattle.pssm_flat.proofs.WriteLaws.{vertex_written}
use Rattle.pssm_flat.proofs.writing.put_vertex.Goals as goal

pub returns : goal.returns
returns c =
    vertex_written c.args.names.now c.args.class.now c.args.number c.args.vertex.now c.args.text.now.items c.put_vertex_line.new.text.items c.put_behaviour.new.text.items c.put_behaviour-2.new.text.items c.put_steps.new.text.items c.put_names.new.text.items
    c.in_ok-put_vertex_line.ensures c.in_ok-put_behaviour.ensures c.in_ok-put_behaviour-2.ensures c.in_ok-put_steps.ensures c.in_ok-put_names.ensures
