-- the target is the one vertex that the transition enters
use Rattle.std.proofs.Common.{subst}
use Rattle.pssm_model.proofs.ElementLaws.{enters_one}
use Rattle.pssm_enabled.specs.Ways.{IsPassedOver}
use Rattle.pssm_enabled.proofs.vertices.ends_inside.Goals as goal

pub returns : goal.returns
returns c =
    let m = c.args.machine.now in (
      λ yes. (c.target.result, c.target.ensures.enters, c.is_passed_over.ensures.0 yes),
      λ (v, enters, kind).
          c.is_passed_over.ensures.1 (subst (IsPassedOver m) (enters_one m c.args.t v c.target.result enters c.target.ensures.enters) kind),
    )
