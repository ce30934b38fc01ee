-- the source is the one vertex that the transition leaves
use Rattle.std.proofs.Common.{subst}
use Rattle.pssm_model.specs.declared.ids.VertexId.{VertexId}
use Rattle.pssm_enabled.specs.Fitting.{IsThrough}
use Rattle.pssm_model.proofs.ElementLaws.{leaves_one}
use Rattle.pssm_enabled.specs.inner.Fitting.{IsMarked}
use Rattle.pssm_enabled.proofs.marked.leaves_seen.Goals as goal

pub returns-then-is_through : goal.returns-then-is_through
returns-then-is_through c = (
  λ h w leaves. subst (λ (x : VertexId). IsThrough c.args.machine.now x × IsMarked c.args.seen.now x.0)
      (leaves_one c.args.machine.now c.args.t c.source-v.result w c.source-v.ensures.leaves leaves)
      (c.is_through.ensures.0 c.if-is_through.true, c.is_seen.ensures.0 h),
  λ h. c.is_seen.ensures.1 (h c.source-v.result c.source-v.ensures.leaves).1,
)

pub returns-else-is_through : goal.returns-else-is_through
returns-else-is_through c = (
  λ holds. absurd (let fails = c.if-is_through.false in cc (fails, holds)),
  λ h. c.is_through.ensures.1 (h c.source-v.result c.source-v.ensures.leaves).0,
)
