-- the item runs in the plan
use Rattle.pssm_object.proofs.Going.{has_run_on}
use Rattle.pssm_object.proofs.stepping.run_item.Goals as goal

pub returns-clause-ok : goal.returns-clause-ok
returns-clause-ok c =
    has_run_on c.args.machine.now c.args.plan.now c.in-Some.plan c.run.new.self c.args.item c.args.how.now c.run.result c.in-Some.is
    c.run.ensures.head c.run.ensures.at_head c.run.ensures.ran c.run.ensures.plan
