-- the target is the one vertex that the transition enters
use Rattle.std.proofs.Common.{subst}
use Rattle.pssm_model.specs.Legs.{On}
use Rattle.pssm_model.proofs.ElementLaws.{enters_one}
use Rattle.pssm_enabled.specs.Fitting.{route_with, PassesBy}
use Rattle.pssm_enabled.proofs.few.goes_on_behind.Goals as goal

pub returns : goal.returns
returns c = (
  λ h v enters. subst (PassesBy c.args.machine.now (On (route_with c.args.starts.now c.args.rest.now)))
      (enters_one c.args.machine.now c.args.t c.target.result v c.target.ensures.enters enters) (c.passes.ensures.0 h),
  λ h. c.passes.ensures.1 (h c.target.result c.target.ensures.enters),
)
