-- its end is the one vertex that it enters
use Rattle.std.proofs.Common.{subst}
use Rattle.pssm_model.specs.declared.ids.VertexId.{VertexId}
use Rattle.pssm_model.proofs.ElementLaws.{enters_one}
use Rattle.pssm_enabled.specs.inner.Fitting.{IsMarked}
use Rattle.pssm_enabled.proofs.tracing.leads_on.Goals as goal

pub returns-then-is_true_at : goal.returns-then-is_true_at
returns-then-is_true_at g c values tells = (
  λ h. (
    (c.is_true_at.ensures values tells).0 c.if-is_true_at.true,
    λ w enters. subst (λ (x : VertexId). IsMarked c.args.good.now x.0)
        (enters_one c.args.machine.now c.args.t c.target.result w c.target.ensures.enters enters) (c.is_seen.ensures.0 h),
  ),
  λ h. c.is_seen.ensures.1 (h.1 c.target.result c.target.ensures.enters),
)

pub returns-else-is_true_at : goal.returns-else-is_true_at
returns-else-is_true_at g c values tells = (
  λ holds. absurd (let fails = c.if-is_true_at.false in cc (fails, holds)),
  λ h. (c.is_true_at.ensures values tells).1 h.0,
)
