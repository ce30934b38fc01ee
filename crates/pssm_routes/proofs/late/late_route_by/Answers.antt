-- A way leads out from a true start, and the route over it is a late one.
use Rattle.std.proofs.Common.{◌≡◌, [], ◌∷◌, None, sym, subst}
use Rattle.std.proofs.lemmas.Result.{IfOk-weaker}
use Rattle.pssm_model.specs.declared.steps.Route.{Route}
use Rattle.pssm_model.specs.FiringSets.{IsLateRoute}
use Rattle.pssm_enabled.specs.Steps.{KnowsDeadEnds, IsTrail}
use Rattle.pssm_enabled.specs.Behind.{IsRouteBehind}
use Rattle.pssm_enabled.proofs.Leaving.{leaving_is_there}
use Rattle.pssm_routes.proofs.LateRoutes.{late_not_outside}
use Rattle.pssm_routes.proofs.SomeLate.{late_on, true_leads, late_over}
use Rattle.pssm_routes.proofs.WayEnds.{out_leads_further}
use Rattle.pssm_routes.proofs.late.late_route_by.Goals as goal

pub find_way-requires-clause-there : goal.find_way-requires-clause-there
find_way-requires-clause-there g c = leaving_is_there c.args.machine.now c.args.start c.args.origin c.requires.leaves

pub route_of_trail-requires-clause-start : goal.route_of_trail-requires-clause-start
route_of_trail-requires-clause-start g c = leaving_is_there c.args.machine.now c.args.start c.args.origin c.requires.leaves

pub route_of_trail-requires-clause-outside : goal.route_of_trail-requires-clause-outside
route_of_trail-requires-clause-outside g c v leaves =
    late_not_outside c.args.machine.now c.args.origin c.requires.origin c.args.start c.requires.leaves v leaves

pub returns-in-Some : goal.returns-in-Some
returns-in-Some g c values tells is =
    let m = c.args.machine.now in
    let shape = c.regions-shaped.ensures.shaped in
    let start = c.args.start in
    let last = c.in-Some.last in
    let (path, trail, way) = c.in-Some.ensures.found values tells in
    let on = late_on c.requires.rules values shape c.args.origin c.requires.origin start c.requires.leaves in
    IfOk-weaker
    c.route_of_trail.result
    (IsRouteBehind m values start last.by path)
    (λ (q : Route). IsLateRoute m values c.args.origin q × (q.starts ≡ start ∷ []))
    (λ q over. late_over c.requires.rules values shape c.args.origin c.requires.origin start c.requires.leaves last.by path way.passed way.way q over)
    (c.route_of_trail.ensures values path tells (subst (λ steps. IsTrail steps last path) (sym c.steps_of.ensures.steps) trail)
    (out_leads_further c.requires.rules values None start start last.by path way on))

pub returns : goal.returns
returns g c values tells is =
    absurd (c.in-None.ensures.none values tells
    (subst (KnowsDeadEnds c.args.machine.now values None) (sym c.as_mut_slice-search.ensures.value) (c.in_ok-made.ensures.nothing c.args.machine.now values None))
    (true_leads c.requires.rules values c.regions-shaped.ensures.shaped c.args.origin c.requires.origin c.args.start c.requires.leaves is))
