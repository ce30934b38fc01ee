use Rattle.std.proofs.Common.{◌≡◌, take}
use Rattle.std.specs.Prelude.{map}
use Rattle.pssm_parts.specs.Elements.{vertex_at}
use Rattle.pssm_drafting.proofs.machines.vertices_of.Given as goal

abbrev pub invariant-loop-n : goal.invariant-loop-n
invariant-loop-n l = l.row ≡ map (vertex_at l.file) (take l.n-index l.n-items)
