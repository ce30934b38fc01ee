use Rattle.std.proofs.Common.{◌≡◌, take}
use Rattle.std.specs.Prelude.{sum_by}
use Rattle.pssm_flat.specs.inner.Places.{vertex_size}
use Rattle.pssm_flat.proofs.places.vertex_lines.Given as goal

abbrev pub invariant-loop-vertex : goal.invariant-loop-vertex
invariant-loop-vertex l = l.lines ≡ sum_by vertex_size (take l.vertex-index l.vertices)
