use Rattle.std.proofs.Common.{sym, subst}
use Rattle.pssm_model.specs.declared.steps.Item.{Item}
use Rattle.pssm_model.specs.declared.steps.Item.TheVariants.{Effect}
use Rattle.pssm_plan.specs.inner.Clear.{LeadsTo}
use Rattle.pssm_plan.specs.inner.Sequence.{IsSequence}
use Rattle.pssm_plan.proofs.junctions.leads_to.Goals as goal

pub returns-in-Effect-Effect : goal.returns-in-Effect-Effect
returns-in-Effect-Effect c = λ ok.
    let Comes = IsSequence c.args.machine.now c.args.ways.now in
    let h : LeadsTo Comes (Effect c.in-Effect-Effect.t) (Effect c.in-Effect-Effect.u) = c.effect_leads.ensures ok in
    subst (λ (x : Item). LeadsTo Comes x c.args.second) (sym c.in-Effect-Effect.is-0)
    (subst (λ (y : Item). LeadsTo Comes (Effect c.in-Effect-Effect.t) y) (sym c.in-Effect-Effect.is-1) h)
