-- the route of the way that is followed
use Rattle.pssm_routes.proofs.JoiningSteps.{state_outside}
use Rattle.pssm_routes.proofs.pick.route_at_sight.Goals as goal

pub route_of_trail-requires-clause-outside : goal.route_of_trail-requires-clause-outside
route_of_trail-requires-clause-outside g c v leaves =
    state_outside c.args.machine.now c.args.t v leaves (c.requires.source v leaves) v leaves

pub returns : goal.returns
returns g c = record {
  some = λ values tells. (
      let step = c.in-Some.ensures.some values tells in
      let over = c.in_ok-route.ensures values step.0 tells step.1 step.2 in
      let is = step.3 c.in_ok-route.route over in
      (over.over.starts, is.0, is.1, is.2)
      );
}
