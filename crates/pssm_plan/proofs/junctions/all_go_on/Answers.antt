use Rattle.pssm_plan.proofs.junctions.all_go_on.Goals as goal

pub all_call-requires-clause-ways : goal.all_call-requires-clause-ways
all_call-requires-clause-ways c = λ way inside. c.requires.ways way (c.ways_of-near.ensures.some way inside)

pub returns : goal.returns
returns c = λ ok way inside calls. c.all_call.ensures ok way (c.ways_of-near.ensures.all way inside calls)
