-- transitions that fit together make a route
use Rattle.pssm_enabled.proofs.ListPlaces.{refuted}
use Rattle.pssm_enabled.specs.Fitting.{route_with}
use Rattle.pssm_enabled.proofs.Fitting.{fits_is_route, route_fits, all_there, rest_order}
use Rattle.pssm_enabled.proofs.route.is_route_over.Goals as goal

pub returns-then-not-are_ascending : goal.returns-then-not-are_ascending
returns-then-not-are_ascending c = (
  λ wrong. absurd (cc),
  λ route. absurd (refuted c.are_ascending.result c.if-not-are_ascending.true c.are_ascending.ensures
      (rest_order c.args.machine.now c.args.starts.now c.args.rest.now route)),
)

pub returns-then-can_start : goal.returns-then-can_start
returns-then-can_start c =
    let m = c.args.machine.now in
    let shape = c.regions-shaped.ensures.shaped in
    let p = route_with c.args.starts.now c.args.rest.now in
    let further = c.are_ascending.ensures.0 c.if-not-are_ascending.false in (
      λ h. fits_is_route shape c.requires.rules p (all_there m c.args.starts.now c.args.rest.now c.requires.order.1 further.1) (c.fit_together.ensures.0 h)
          (c.can_start.ensures.0 c.if-can_start.true) c.requires.order.0 further.0 c.requires.outside,
      λ route. c.fit_together.ensures.1 (route_fits shape c.requires.rules p route),
    )

pub returns-else-can_start : goal.returns-else-can_start
returns-else-can_start c = (
  λ holds. absurd (let fails = c.if-can_start.false in cc (fails, holds)),
  λ route. c.can_start.ensures.1 route.starts,
)
