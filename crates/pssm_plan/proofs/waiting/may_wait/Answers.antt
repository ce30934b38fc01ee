use Rattle.std.proofs.Common.{◌≡◌, subst}
use Rattle.pssm_model.specs.declared.steps.Item.{Item}
use Rattle.pssm_model.specs.declared.steps.Item.TheVariants.{Enter}
use Rattle.pssm_plan.specs.inner.Sequence.{IsNestedPair}
use Rattle.pssm_plan.proofs.ApartCalls.{entry_nested, not_unset}
use Rattle.pssm_plan.proofs.waiting.may_wait.Goals as goal

pub returns-in-Enter : goal.returns-in-Enter
returns-in-Enter c = λ free x nested.
    let m = c.args.machine.now in
    let is : c.args.item ≡ Enter c.in-Enter.s = (let i = c.in-Enter.is in cc) in
    entry_nested m c.in-Enter.s (c.is_outermost.ensures (not_unset c.is_outermost.result free)) x
    (subst (λ (i : Item). IsNestedPair m x i) is nested)
