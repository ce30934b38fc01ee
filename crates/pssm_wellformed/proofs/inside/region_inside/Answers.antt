use Rattle.pssm_wellformed.proofs.Climbing.{region_part, no_region_part}
use Rattle.pssm_wellformed.proofs.inside.region_inside.Goals as goal

pub returns-in-Some : goal.returns-in-Some
returns-in-Some c = region_part c.args.machine.now c.requires.shape c.args.vertex c.args.state c.in-Some.part c.as_region.result c.in-Some.ensures c.as_region.ensures

pub returns-in-None : goal.returns-in-None
returns-in-None c = no_region_part c.args.machine.now c.requires.shape c.args.vertex c.args.state c.in-None.ensures
