use Rattle.std.proofs.Common.{List, ℕ, ◌+◌, get_or, sym, subst}
use Rattle.pssm_model.specs.declared.elements.Transition.{Transition}
use Rattle.pssm_redefine.specs.inner.Merges.{AreTransitionsSoFar}
use Rattle.pssm_redefine.proofs.MergeLaws.{transitions_push}
use Rattle.pssm_redefine.proofs.transitions.merged_transitions.Goals as goal

pub loop-number-preserved : goal.loop-number-preserved
loop-number-preserved c =
    let number : ℕ → ℕ = λ slot. get_or c.args.numbers.now slot 0 in
    subst (λ (ts : List Transition). AreTransitionsSoFar c.args.draft.now number c.args.base c.args.ends.now c.args.forms.now (c.loop-number.number + 1) ts) (sym {A = List Transition} c.in_ok-push.ensures.items)
    (transitions_push c.args.draft.now number c.args.base c.args.ends.now c.args.forms.now c.loop-number.number c.loop-number.transitions.items c.in_ok-transition.transition
    c.loop-number.invariant c.in_ok-transition.ensures)
