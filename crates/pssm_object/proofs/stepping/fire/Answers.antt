-- the routes fire in the plan that there is, or in a new one
use Rattle.pssm_object.proofs.Going.{has_fired}
use Rattle.pssm_object.proofs.stepping.fire.Goals as goal

pub returns-in-Some-clause-ok : goal.returns-in-Some-clause-ok
returns-in-Some-clause-ok c =
    has_fired c.args.machine.now c.args.config.now c.args.firing.now c.fire.new.self c.fire.result c.fire.ensures.head c.fire.ensures.at_head
    c.fire.ensures.none_ran c.fire.ensures.plan
