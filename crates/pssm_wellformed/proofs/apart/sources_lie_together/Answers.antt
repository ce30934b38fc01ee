use Rattle.std.proofs.Common.{length, sym, ◌∙◌, false}
use Rattle.std.proofs.lemmas.List.{get_or_default}
use Rattle.pssm_model.specs.declared.elements.VertexKind.TheVariants as kinds
use Rattle.pssm_wellformed.specs.declared.ends.End.TheVariants.{Source, Target}
use Rattle.pssm_wellformed.proofs.Together.{plain_kind, nowhere_iff}
use Rattle.pssm_wellformed.proofs.Stamping.{looked_up}
use Rattle.pssm_wellformed.proofs.apart.sources_lie_together.Goals as goal

pub returns : goal.returns
returns c =
    let m = c.args.marked.now in
    let v = c.args.vertex in
    let b = c.index.result.now in
    let marks = c.marked.inside.marks.sources_apart.items in
    let are = rw c.marked.view_is at c.marked.invariant in
    nowhere_iff m are.shape Target Source v b (plain_kind m v kinds.Join c.requires.join (λ e. cc) (λ e. cc))
    (looked_up m Target Source (length m.vertices) marks v b are.sources_apart c.requires.there (λ there. get_or_default marks v.0 false b there ∙ sym c.index.ensures))
