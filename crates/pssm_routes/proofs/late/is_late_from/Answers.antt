-- It is a route from there whose transitions are true.
use Rattle.pssm_enabled.proofs.Fitting.{starts_order, rest_order}
use Rattle.pssm_routes.proofs.LateRoutes.{late_is}
use Rattle.pssm_routes.proofs.late.is_late_from.Goals as goal

pub are_all_true-requires-clause-starts : goal.are_all_true-requires-clause-starts
are_all_true-requires-clause-starts g c =
    (starts_order c.args.machine.now c.args.starts.now c.args.rest.now (c.is_route_after.ensures.0 c.if-is_route_after.true).1).1

pub are_all_true-requires-clause-rest : goal.are_all_true-requires-clause-rest
are_all_true-requires-clause-rest g c =
    (rest_order c.args.machine.now c.args.starts.now c.args.rest.now (c.is_route_after.ensures.0 c.if-is_route_after.true).1).1

pub returns-then-is_route_after : goal.returns-then-is_route_after
returns-then-is_route_after g c values tells =
    let is = late_is c.args.machine.now values c.args.origin c.args.starts.now c.args.rest.now in (
      λ holds. is.1 (c.is_route_after.ensures.0 c.if-is_route_after.true, (c.are_all_true.ensures values tells).0 holds),
      λ h. (c.are_all_true.ensures values tells).1 (is.0 h).1,
    )

pub returns-else-is_route_after : goal.returns-else-is_route_after
returns-else-is_route_after g c values tells = (
  λ holds. absurd (let fails = c.if-is_route_after.false in cc (fails, holds)),
  λ h. c.is_route_after.ensures.1 ((late_is c.args.machine.now values c.args.origin c.args.starts.now c.args.rest.now).0 h).0,
)
