use Rattle.pssm_flat.specs.Text.{vertex_lines}
use Rattle.pssm_flat.proofs.TextLaws.{written_next}
use Rattle.pssm_flat.proofs.writing.put_vertices.Goals as goal

pub loop-number-preserved : goal.loop-number-preserved
loop-number-preserved c =
    written_next (vertex_lines c.args.names.now c.args.class.now) c.loop-number.number c.from.result c.args.class.now.machine.vertices c.vertex-vertex.result.now c.loop-number.text.items c.put_vertex.new.text.items _
    c.from.ensures c.vertex-vertex.ensures c.in_ok-put_vertex.ensures c.loop-number.invariant
