-- the route of the way that a search finds
use Rattle.std.proofs.Common.{◌<◌, length, sym, subst}
use Rattle.pssm_enabled.specs.Steps.{KnowsDeadEnds, IsTrail}
use Rattle.pssm_enabled.specs.Ways.{EndsInside}
use Rattle.pssm_routes.proofs.JoiningSteps.{state_outside}
use Rattle.pssm_routes.proofs.Onward.{one_onward}
use Rattle.pssm_routes.proofs.pick.route_by_search.Goals as goal

pub find_joiner-requires-clause-room : goal.find_joiner-requires-clause-room
find_joiner-requires-clause-room g c u on ends =
    let same = one_onward c.requires.rules c.args.t u c.onward.result on c.onward.ensures.on in
    let wanted = c.ends_inside.ensures.1 (subst (EndsInside c.args.machine.now) same ends) in
    subst (λ search. 0 < length search) (sym c.as_mut_slice-search.ensures.value) (c.in_ok-made.ensures.room wanted)

pub find_joiner-requires-clause-nothing : goal.find_joiner-requires-clause-nothing
find_joiner-requires-clause-nothing g c values within =
    subst (KnowsDeadEnds c.args.machine.now values within) (sym c.as_mut_slice-search.ensures.value)
    (c.in_ok-made.ensures.nothing c.args.machine.now values within)

pub route_of_trail-requires-clause-outside : goal.route_of_trail-requires-clause-outside
route_of_trail-requires-clause-outside g c v leaves =
    state_outside c.args.machine.now c.args.t v leaves (c.requires.source v leaves) v leaves

pub returns-clause-some : goal.returns-clause-some
returns-clause-some g c values tells =
    let step = c.in-Some.ensures.some values tells in
    let over = c.in_ok-route.ensures values step.0 tells (subst (λ steps. IsTrail steps c.in-Some.last step.0) (sym c.steps_of.ensures.steps) step.1) step.2 in
    let is = step.3 c.in_ok-route.route over in
    (over.over.starts, is.0, is.1, is.2)
