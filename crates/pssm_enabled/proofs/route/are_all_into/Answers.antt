-- ascending lists with the same transitions are the same
use Rattle.std.proofs.Common.{subst}
use Rattle.pssm_model.specs.declared.elements.VertexKind.TheVariants as kinds
use Rattle.pssm_model.specs.Forest.{HasKind}
use Rattle.pssm_model.proofs.ElementLaws.{enters_one}
use Rattle.pssm_enabled.proofs.Fitting.{into_here}
use Rattle.pssm_enabled.proofs.route.are_all_into.Goals as goal

pub returns-then-is_join : goal.returns-then-is_join
returns-then-is_join c =
    let is = into_here c.args.machine.now c.args.starts.now c.incoming.result.now c.target-v.result c.args.first c.requires.first c.target-v.ensures.enters
    (c.is_join.ensures.0 c.if-is_join.true) c.incoming.ensures.items c.requires.order.0 c.incoming.ensures.ascending in
    (λ h. is.0 (c.are_same.ensures.0 h), λ h. c.are_same.ensures.1 (is.1 h))

pub returns-else-is_join : goal.returns-else-is_join
returns-else-is_join c = (
  λ holds. absurd (let fails = c.if-is_join.false in cc (fails, holds)),
  λ h. c.is_join.ensures.1
      (subst (λ x. HasKind c.args.machine.now x kinds.Join)
      (enters_one c.args.machine.now c.args.first h.0 c.target-v.result (h.2 c.args.first c.requires.first) c.target-v.ensures.enters) h.1),
)
