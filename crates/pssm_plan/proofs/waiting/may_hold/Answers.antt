use Rattle.std.proofs.Common.{◌≡◌, subst}
use Rattle.pssm_model.specs.declared.steps.Item.{Item}
use Rattle.pssm_model.specs.declared.steps.Item.TheVariants.{Exit}
use Rattle.pssm_plan.specs.inner.Sequence.{IsNestedPair}
use Rattle.pssm_plan.proofs.FreeCalls.{exit_nests, unset_by}
use Rattle.pssm_plan.proofs.waiting.may_hold.Goals as goal

pub returns-in-Exit : goal.returns-in-Exit
returns-in-Exit c = λ x h.
    let m = c.args.machine.now in
    let is : c.args.item ≡ Exit c.in-Exit.s = (let i = c.in-Exit.is in cc) in
    unset_by c.is_outermost.result
    (λ outermost. exit_nests m c.in-Exit.s (c.is_outermost.ensures outermost) x (subst (λ (i : Item). IsNestedPair m i x) is h))
