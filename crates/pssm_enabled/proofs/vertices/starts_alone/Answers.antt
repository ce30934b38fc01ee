-- the target is the one vertex that the transition enters
use Rattle.std.proofs.Common.{subst}
use Rattle.pssm_model.specs.declared.elements.VertexKind.TheVariants as kinds
use Rattle.pssm_model.specs.Forest.{HasKind}
use Rattle.pssm_model.proofs.ElementLaws.{enters_one}
use Rattle.pssm_enabled.proofs.Marks.{denied}
use Rattle.pssm_enabled.proofs.vertices.starts_alone.Goals as goal

pub returns : goal.returns
returns c =
    let m = c.args.machine.now in
    let is = denied c.is_join.result c.is_join.ensures in (
      λ h v enters kind. is.0 h
          (subst (λ x. HasKind m x kinds.Join) (enters_one m c.args.t v c.target.result enters c.target.ensures.enters) kind),
      λ h. is.1 (h c.target.result c.target.ensures.enters),
    )
