use Rattle.std.proofs.Common.{List, ℕ, ◌+◌, get_or, sym, subst}
use Rattle.pssm_model.specs.declared.elements.Vertex.{Vertex}
use Rattle.pssm_redefine.specs.inner.Merges.{AreVerticesSoFar}
use Rattle.pssm_redefine.proofs.MergeLaws.{vertices_push}
use Rattle.pssm_redefine.proofs.vertices.merged_vertices.Goals as goal

pub loop-number-preserved : goal.loop-number-preserved
loop-number-preserved c =
    let number : ℕ → ℕ = λ slot. get_or c.args.numbers.now slot 0 in
    subst (λ (vs : List Vertex). AreVerticesSoFar c.args.draft.now number c.args.owners.now c.args.forms.now (c.loop-number.number + 1) vs) (sym {A = List Vertex} c.in_ok-push.ensures.items)
    (vertices_push c.args.draft.now number c.args.owners.now c.args.forms.now c.loop-number.number c.loop-number.vertices.items c.in_ok-vertex_numbered.field-0
    c.loop-number.invariant c.in_ok-vertex_numbered.ensures)
