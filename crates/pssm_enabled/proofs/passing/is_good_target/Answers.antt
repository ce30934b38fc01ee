-- the target is the one vertex that the transition enters
use Rattle.pssm_enabled.proofs.PassingLaws.{target_marked}
use Rattle.pssm_enabled.proofs.passing.is_good_target.Goals as goal

pub returns : goal.returns
returns c =
    let is = target_marked c.args.machine.now c.args.good.now c.args.t c.target.result c.target.ensures.enters in
    (λ h. is.0 (c.is_seen.ensures.0 h), λ h. c.is_seen.ensures.1 (is.1 h))
