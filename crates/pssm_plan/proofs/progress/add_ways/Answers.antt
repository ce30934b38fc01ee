use Rattle.std.proofs.Common.{◌∙◌, arith}
use Rattle.std.proofs.lemmas.List.{take_all}
use Rattle.pssm_plan.proofs.Firing.{fired_more}
use Rattle.pssm_plan.proofs.SomeWay.{is_there}
use Rattle.pssm_plan.proofs.progress.add_ways.Goals as goal

pub way_of-requires-clause-route : goal.way_of-requires-clause-route
way_of-requires-clause-route c =
    c.requires.routes c.route-item.result
    (is_there c.args.routes.now c.loop-route.route-index c.route-item.result c.loop-route-test.true c.route-item.is)

pub loop-route-preserved : goal.loop-route-preserved
loop-route-preserved c =
    rw c.in_ok-push.ensures.items
    (fired_more c.args.machine.now c.args.routes.now c.loop-route.route-index c.route-item.result _ _
    c.loop-route-test.true (c.in_ok-way.ensures.route ∙ c.route-item.is) c.in_ok-way.ensures.fires c.loop-route.invariant c.in_ok-way.ensures.way)

pub returns : goal.returns
returns c =
    let whole = take_all c.loop-route.route-index c.args.routes.now (omega (arith, c.loop-route-test.false)) in
    record { fired = (rw whole at c.loop-route.invariant) }
