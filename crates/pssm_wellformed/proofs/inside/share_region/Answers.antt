use Rattle.std.proofs.lemmas.Bool.{ltb-true, lt-ltb}
use Rattle.pssm_wellformed.proofs.Climbing.{share_iff}
use Rattle.pssm_wellformed.proofs.inside.share_region.Goals as goal

pub returns : goal.returns
returns c =
    let n = c.common_level.result in
    let iff = share_iff c.args.machine.now c.requires.shape c.args.vertex c.args.other n c.requires.vertex c.common_level.ensures.level in
    (λ t. iff.0 (ltb-true 0 n t), λ both. lt-ltb 0 n (iff.1 both))
