-- the transitions of a leg are of the machine
use Rattle.pssm_plan.proofs.NearItems.{named_there, further_there}
use Rattle.pssm_plan.proofs.near.ends_near.Goals as goal

pub target-requires : goal.target-requires
target-requires c = named_there c.args.leg.now c.requires.leg

pub is_near_among-requires-clause-there : goal.is_near_among-requires-clause-there
is_near_among-requires-clause-there c = λ t inside. further_there c.args.leg.now c.requires.leg t (rw c.as_slice.ensures.value at inside)
