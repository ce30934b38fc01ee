use Rattle.std.proofs.Common.{◌≡◌, length, get_or, sym, subst}
use Rattle.pssm_model.specs.declared.steps.Item.{Item}
use Rattle.pssm_model.specs.declared.steps.Item.TheVariants.{Enter, Effect}
use Rattle.pssm_plan.specs.Waiting.{HoldsUp}
use Rattle.pssm_plan.specs.inner.Passes.{ArePassed}
use Rattle.pssm_plan.specs.inner.Sequence.{IsSequence}
use Rattle.pssm_plan.proofs.clear.is_clear.Goals as goal

pub returns-in-Enter : goal.returns-in-Enter
returns-in-Enter c = λ ok k d le inside up.
    let is : c.args.call.now.item ≡ Enter c.in-Enter.s = (let i = c.in-Enter.is in cc) in
    c.entry_is_clear.ensures ok k d inside inside
    (subst (λ (x : Item). HoldsUp (IsSequence c.args.machine.now c.args.ways.now) (get_or c.args.calls.now k d) x) is up)

pub returns-in-Effect : goal.returns-in-Effect
returns-in-Effect c = λ ok.
    let is : c.args.call.now.item ≡ Effect c.in-Effect.t = (let i = c.in-Effect.is in cc) in
    subst (λ (x : Item). ArePassed (IsSequence c.args.machine.now c.args.ways.now) c.args.calls.now x (length c.args.calls.now)) (sym is)
    (c.effect_is_clear.ensures ok)
