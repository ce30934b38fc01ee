use Rattle.std.proofs.Common.{◌≡◌, ◌↔◌, IsTrue, rules}
use Rattle.pssm_model.proofs.Nesting.{level_at, lies_raised}
use Rattle.pssm_model.proofs.forest.Forest.lies_in_region.Goals as goal

pub returns : goal.returns
returns c =
    let same : IsTrue c.eq.result ↔ (c.raise.result ≡ c.args.r) = search rules in
    let here = level_at _ c.requires.tables c.raise.result c.raise.ensures.inside in
    let lies = lies_raised _ _ _ _ _ _ _ c.home.ensures.home c.raise.ensures.raised here c.level.ensures.depth.1 in
    (λ yes. lies.0 (same.0 yes), λ is. same.1 (lies.1 is))
