use Rattle.pssm_plan.proofs.Looking.{waiting}
use Rattle.pssm_plan.proofs.NearWays.{near_ways, near_seen, near_settled}
use Rattle.pssm_plan.proofs.waiting.look_near.Goals as goal

pub look_by-requires-clause-ways : goal.look_by-requires-clause-ways
look_by-requires-clause-ways c =
    near_ways c.args.machine.now c.args.ways.now c.ways_of-near.result.now c.ways_of-near.ensures.some c.requires.ways

pub look_by-requires-clause-seen : goal.look_by-requires-clause-seen
look_by-requires-clause-seen c =
    near_seen c.args.machine.now c.args.ways.now c.ways_of-near.result.now c.args.calls.now c.args.at.place c.args.call.now
    c.ways_of-near.ensures.some c.ways_of-near.ensures.all c.requires.seen

pub returns : goal.returns
returns c =
    near_settled c.args.machine.now c.args.ways.now c.ways_of-near.result.now c.args.calls.now c.args.at.place c.args.call.now (waiting c.args.call.now c.look_by.result)
    c.ways_of-near.ensures.some c.ways_of-near.ensures.all c.look_by.ensures
