-- exactly the vertices from which a way leads on were found
use Rattle.pssm_enabled.proofs.opening.has_way.Goals as goal

pub returns : goal.returns
returns g c values tells =
    let is = c.of-points.ensures values tells c.args.v c.requires.there in
    (λ h. is.0 (c.has.ensures.0 h), λ way. c.has.ensures.1 (is.1 way))
