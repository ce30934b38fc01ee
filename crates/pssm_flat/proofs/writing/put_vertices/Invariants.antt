use Rattle.std.proofs.Common.{◌≡◌, ◌++◌, drop}
use Rattle.pssm_flat.specs.Text.{text_of, numbered, vertex_lines}
use Rattle.pssm_flat.proofs.writing.put_vertices.Given as goal

abbrev pub invariant-loop-number : goal.invariant-loop-number
invariant-loop-number l = l.text.items ++ text_of (numbered (vertex_lines l.names l.class) l.number (drop l.number l.class.machine.vertices)) ≡ l.fn.text.items ++ text_of (numbered (vertex_lines l.names l.class) 0 l.class.machine.vertices)
