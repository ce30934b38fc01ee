use Rattle.std.proofs.Common.{◌≡◌, take}
use Rattle.std.specs.List.{flat_map}
use Rattle.pssm_bodies.specs.Slots.{vertex_slots}
use Rattle.pssm_bodies.proofs.slots.of_vertices.Given as goal

abbrev pub invariant-loop-vertex : goal.invariant-loop-vertex
invariant-loop-vertex l = l.slots.items ≡ flat_map vertex_slots (take l.vertex-index l.vertices)
