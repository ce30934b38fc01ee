use Rattle.pssm_plan.proofs.NearItems.{first_in}
use Rattle.pssm_plan.proofs.clear.is_yet_to_lead.Goals as goal

pub ends_near-requires-clause-leg : goal.ends_near-requires-clause-leg
ends_near-requires-clause-leg c = first_in c.args.way.now c.requires.way
