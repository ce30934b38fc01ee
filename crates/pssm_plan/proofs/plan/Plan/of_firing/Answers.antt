use Rattle.std.proofs.Common.{inl}
use Rattle.pssm_plan.proofs.Settled.{firing_plan}
use Rattle.pssm_plan.proofs.plan.Plan.of_firing.Goals as goal

pub of_routes-requires-clause-routes : goal.of_routes-requires-clause-routes
of_routes-requires-clause-routes c = λ route inside. inl (c.requires.routes route (rw c.as_slice.ensures at inside))

pub returns-clause-plan : goal.returns-clause-plan
returns-clause-plan c =
    rw (c.new.ensures.items, c.of.ensures, c.of-2.ensures, c.in_ok-progress.ensures.restored)
    (firing_plan c.args.config.now c.args.firing.now.routes c.in_ok-progress.progress.ways.items c.in_ok-progress.progress.roster.calls.items
    c.requires.routes (rw c.as_slice.ensures at c.in_ok-progress.ensures.ways) c.in_ok-progress.ensures.made)
