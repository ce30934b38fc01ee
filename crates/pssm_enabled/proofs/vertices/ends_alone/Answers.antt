-- the target is the one vertex that the transition enters
use Rattle.std.proofs.Common.{subst}
use Rattle.pssm_model.specs.declared.ids.TransId.{TransId}
use Rattle.pssm_model.proofs.ElementLaws.{enters_one}
use Rattle.pssm_enabled.specs.Fitting.{PassesBy}
use Rattle.pssm_enabled.proofs.vertices.ends_alone.Goals as goal

pub returns : goal.returns
returns c = (
  λ h v enters. subst (PassesBy c.args.machine.now (λ (t : TransId). ⊥))
      (enters_one c.args.machine.now c.args.t c.target.result v c.target.ensures.enters enters) (c.ends_at.ensures.0 h),
  λ h. c.ends_at.ensures.1 (h c.target.result c.target.ensures.enters),
)
