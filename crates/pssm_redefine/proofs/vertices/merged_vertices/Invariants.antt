use Rattle.std.specs.List.{slice_index_or}
use Rattle.pssm_redefine.specs.inner.Merges.{AreVerticesSoFar}
use Rattle.pssm_redefine.proofs.vertices.merged_vertices.Given as goal

abbrev pub invariant-loop-number : goal.invariant-loop-number
invariant-loop-number l = AreVerticesSoFar l.draft (λ slot. slice_index_or l.numbers slot 0) l.owners l.forms l.number l.vertices.items
