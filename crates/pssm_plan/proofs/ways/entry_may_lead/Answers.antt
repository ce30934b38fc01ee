-- a later leg enters only what lies in the State
use Rattle.std.proofs.Common.{subst}
use Rattle.pssm_model.specs.declared.steps.Item.TheVariants.{Enter}
use Rattle.pssm_plan.specs.inner.ByWays.{orders_by}
use Rattle.pssm_plan.proofs.InnerEntries.{entries_inner}
use Rattle.pssm_plan.proofs.ways.entry_may_lead.Goals as goal

pub returns-in-Enter : goal.returns-in-Enter
returns-in-Enter c = λ h.
    c.lies_in.ensures.1
    (entries_inner c.regions-shaped.ensures.shaped c.requires.rules c.args.way.now c.requires.way c.args.s c.in-Enter.q
    (subst (orders_by c.args.machine.now c.args.way.now (Enter c.args.s)) c.in-Enter.is h))
