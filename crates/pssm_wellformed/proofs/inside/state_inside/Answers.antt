use Rattle.pssm_wellformed.proofs.Climbing.{state_part, no_state_part}
use Rattle.pssm_wellformed.proofs.inside.state_inside.Goals as goal

pub returns-in-Some : goal.returns-in-Some
returns-in-Some c = state_part c.args.machine.now c.requires.shape c.args.vertex c.args.region c.in-Some.part c.as_state.result c.in-Some.ensures c.as_state.ensures

pub returns-in-None : goal.returns-in-None
returns-in-None c = no_state_part c.args.machine.now c.args.vertex c.args.region c.in-None.ensures
