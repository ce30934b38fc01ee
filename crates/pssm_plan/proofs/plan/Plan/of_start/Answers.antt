use Rattle.pssm_plan.proofs.Settled.{nothing_at_start, start_plan}
use Rattle.pssm_plan.proofs.plan.Plan.of_start.Goals as goal

pub returns-clause-at_head : goal.returns-clause-at_head
returns-clause-at_head c = nothing_at_start

pub returns-clause-plan : goal.returns-clause-plan
returns-clause-plan c =
    rw (c.new.ensures.items, c.in_ok-progress.ensures.ways, c.in_ok-progress.ensures.restored)
    (start_plan c.in_ok-progress.progress.roster.calls.items c.in_ok-progress.ensures.made)
