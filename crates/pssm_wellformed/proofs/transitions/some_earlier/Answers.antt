use Rattle.pssm_wellformed.proofs.Listing.{earlier_iff}
use Rattle.pssm_wellformed.proofs.transitions.some_earlier.Goals as goal

pub returns-in-Some : goal.returns-in-Some
returns-in-Some c = earlier_iff c.args.transitions.now c.in-Some.first.now c.args.transition.0 c.in-Some.ensures.lookup.3.0 c.in-Some.ensures.lookup.1 c.requires
