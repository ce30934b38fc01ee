-- the first transition has one target
use Rattle.std.proofs.Common.{subst}
use Rattle.pssm_model.proofs.ElementLaws.{enters_one}
use Rattle.pssm_legs.specs.inner.Told.{Meets}
use Rattle.pssm_legs.proofs.PathRegions.{in_head}
use Rattle.pssm_legs.proofs.entering.first_meets.Goals as goal

pub target-requires : goal.target-requires
target-requires c = c.requires.leg.path c.args.leg.now.named (in_head c.args.leg.now.named c.args.leg.now.further.items)

pub returns : goal.returns
returns c = (
  λ is. (c.target.result, c.target.ensures.enters, c.meets.ensures.0 is),
  λ h. c.meets.ensures.1 (subst (Meets c.args.machine.now c.args.leg.now c.args.aim)
      (enters_one c.args.machine.now c.args.leg.now.named h.0 c.target.result h.1 c.target.ensures.enters) h.2),
)
