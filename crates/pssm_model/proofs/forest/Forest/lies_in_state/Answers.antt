use Rattle.std.proofs.Common.{◌≡◌, ◌↔◌, IsTrue, Some, rules}
use Rattle.pssm_model.specs.declared.elements.Owner.TheVariants.{Region, State}
use Rattle.pssm_model.specs.Forest.{owner_of}
use Rattle.pssm_model.proofs.Nesting.{level_at, lies_raised_in_state}
use Rattle.pssm_model.proofs.forest.Forest.lies_in_state.Goals as goal

pub returns : goal.returns
returns c =
    let same : IsTrue c.eq.result ↔ (owner_of c.args.draft.now (Region c.raise-at.result) ≡ Some (State c.args.s)) = search rules in
    let here = level_at _ c.requires.tables c.raise-at.result c.raise-at.ensures.inside in
    let lies = lies_raised_in_state _ _ _ _ _ _ _ c.home.ensures.home c.raise-at.ensures.raised here c.depth.ensures.1 in
    (λ yes. lies.0 (same.0 yes), λ is. same.1 (lies.1 is))
