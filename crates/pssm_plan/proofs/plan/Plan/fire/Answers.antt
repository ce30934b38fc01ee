-- the plan is the one that the spare progress makes
use Rattle.std.proofs.Common.{inl}
use Rattle.pssm_plan.proofs.Settled.{firing_plan}
use Rattle.pssm_plan.proofs.plan.Plan.fire.Goals as goal

pub renew-requires-clause-routes : goal.renew-requires-clause-routes
renew-requires-clause-routes c = λ route inside. inl (c.requires.routes route (rw c.as_slice.ensures at inside))

pub returns-clause-plan : goal.returns-clause-plan
returns-clause-plan c =
    rw (c.clear.ensures.items, c.of.ensures, c.of-2.ensures, c.swap.ensures.x_after, c.in_ok-renew.ensures.restored)
    (firing_plan c.args.config.now c.args.firing.now.routes c.renew.new.self.ways.items c.renew.new.self.roster.calls.items
    c.requires.routes (rw c.as_slice.ensures at c.in_ok-renew.ensures.ways) c.in_ok-renew.ensures.made)
