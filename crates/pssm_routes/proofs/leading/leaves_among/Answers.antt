-- its source is the one vertex that it leaves
use Rattle.std.proofs.Common.{Contains, subst}
use Rattle.pssm_model.proofs.ElementLaws.{leaves_one}
use Rattle.pssm_routes.proofs.leading.leaves_among.Goals as goal

pub returns : goal.returns
returns c = (
  λ h s leaves. subst (Contains c.args.states.now) (leaves_one c.args.machine.now c.args.t c.source.result s c.source.ensures.leaves leaves)
      (c.is_among.ensures.0 h),
  λ all. c.is_among.ensures.1 (all c.source.result c.source.ensures.leaves),
)
