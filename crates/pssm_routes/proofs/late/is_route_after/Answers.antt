-- a late start leaves none through which a route goes on
use Rattle.pssm_routes.proofs.LateRoutes.{late_in_order, late_outside}
use Rattle.pssm_routes.proofs.late.is_route_after.Goals as goal

pub is_route_over-requires-clause-order : goal.is_route_over-requires-clause-order
is_route_over-requires-clause-order c =
    late_in_order c.args.machine.now c.args.origin c.args.starts.now (c.start_late.ensures.0 c.if-start_late.true)

pub is_route_over-requires-clause-outside : goal.is_route_over-requires-clause-outside
is_route_over-requires-clause-outside c =
    late_outside c.args.machine.now c.args.origin c.args.starts.now (c.start_late.ensures.0 c.if-start_late.true)
