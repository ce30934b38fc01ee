-- One transition more is sound: both its ends are vertices, and its number is below the limit.
use Rattle.std.proofs.Common.{◌≡◌, ◌<◌, length, below_more, rules, get_or, subst}
use Rattle.pssm_model.specs.inner.Faultless.{IsFaultless, transition_element}
use Rattle.pssm_model.proofs.Checked.{sound_transition}
use Rattle.pssm_model.proofs.shape.check_transitions.Goals as goal

pub loop-number-preserved : goal.loop-number-preserved
loop-number-preserved c =
    let lt : c.loop-number.number < length c.args.draft.now.transitions = search rules in
    let few : c.loop-number.number < 8192 = search rules in
    let item = c.transition-item.result in
    let here = subst (λ xs. item ≡ get_or xs c.loop-number.number item) c.as_slice-transition-items.ensures c.transition-item.is in
    below_more
    (λ k. IsFaultless c.args.draft.now (transition_element k))
    c.loop-number.number
    c.loop-number.invariant
    (sound_transition c.args.draft.now c.loop-number.number item lt here (search rules) few)
