use Rattle.pssm_plan.proofs.LeadingLegs.{leads_told}
use Rattle.pssm_plan.proofs.StandingItems.{is_false}
use Rattle.pssm_plan.proofs.ways.entry_may_lead_on.Goals as goal

pub returns : goal.returns
returns c = λ h.
    c.leads_on_near.ensures.1
    (leads_told c.regions-shaped.ensures.shaped c.requires.rules c.args.way.now c.requires.way c.args.s c.args.second
    (c.is_end.ensures (is_false c.is_end.result c.if-is_end.false)) h)
