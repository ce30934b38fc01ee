use Rattle.std.proofs.Common.{◌≡◌, take}
use Rattle.std.specs.List.{flat_map}
use Rattle.pssm_redefine.specs.Merging.{vertex_slots}
use Rattle.pssm_redefine.specs.inner.Gathered.{lent_bodies}
use Rattle.pssm_redefine.proofs.slots.of_vertices.Given as goal

abbrev pub invariant-loop-forms : goal.invariant-loop-forms
invariant-loop-forms l = lent_bodies l.slots.items ≡ flat_map (vertex_slots l.draft) (take l.forms-index l.vertices)
