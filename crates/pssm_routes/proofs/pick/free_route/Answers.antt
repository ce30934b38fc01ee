-- the route that was found is enabled
use Rattle.std.proofs.Common.{IfSome, IfNone, subst}
use Rattle.pssm_config.specs.Tables.{configuration_of}
use Rattle.pssm_routes.specs.inner.Sets.{HasFreeRoute}
use Rattle.pssm_routes.specs.inner.Rooms.{IsJoiningRoute}
use Rattle.pssm_routes.proofs.Enabled.{started_state, enabled_with}
use Rattle.pssm_routes.proofs.RoutesOver.{joiner_is_free, joiner_started, joiner_among, sources_among}
use Rattle.pssm_enabled.proofs.Scanning.{refuted}
use Rattle.pssm_enabled.proofs.StartLaws.{is_among_starts}
use Rattle.pssm_routes.proofs.pick.free_route.Goals as goal

pub returns-then-not-starts_here-clause-none : goal.returns-then-not-starts_here-clause-none
returns-then-not-starts_here-clause-none g c values tells joiner =
    let now = configuration_of c.args.config.now in
    let footprints = c.args.footprints.now in
    let states = c.args.states.now in
    let shape = c.regions-shaped.ensures.shaped in
    refuted c.starts_here.result c.if-not-starts_here.true c.starts_here.ensures (
      joiner_started c.requires.rules shape values footprints c.args.t now c.args.event states joiner,
      joiner_among c.requires.rules shape values footprints c.args.t now c.args.event states joiner,
    )

pub joining_route-requires-clause-source : goal.joining_route-requires-clause-source
joining_route-requires-clause-source g c v leaves =
    started_state (configuration_of c.args.config.now) c.args.event c.args.t v (c.starts_here.ensures.0 c.if-not-starts_here.false).0 leaves

pub returns-in_default-clause-none : goal.returns-in_default-clause-none
returns-in_default-clause-none g c values tells joiner =
    let m = c.args.machine.now in
    let footprints = c.args.footprints.now in
    subst (λ found. IfNone found (HasFreeRoute m values footprints c.args.t → ⊥)) c.in_default.is (c.in_ok-route.ensures.none values tells)
    (joiner_is_free c.requires.rules c.regions-shaped.ensures.shaped values footprints c.args.t (configuration_of c.args.config.now)
    c.args.event c.args.states.now joiner)

pub returns-then-not-check_route-clause-none : goal.returns-then-not-check_route-clause-none
returns-then-not-check_route-clause-none g c values tells joiner =
    let m = c.args.machine.now in
    let now = configuration_of c.args.config.now in
    let started = (c.starts_here.ensures.0 c.if-not-starts_here.false).0 in
    let (starts, route, guards, free) =
    subst (λ found. IfSome found (IsJoiningRoute m values c.args.footprints.now c.args.t)) c.in-Some.is (c.in_ok-route.ensures.some values tells) in
    refuted c.check_route.result c.if-not-check_route.true (c.check_route.ensures.enabled values tells)
    (enabled_with now values c.args.event c.in-Some.route c.args.t route.0 (is_among_starts m c.args.t c.in-Some.route.starts starts) started guards)

pub returns-clause-some : goal.returns-clause-some
returns-clause-some g c = λ values tells.
    let m = c.args.machine.now in
    let now = configuration_of c.args.config.now in
    let here = c.starts_here.ensures.0 c.if-not-starts_here.false in
    let (starts, route, guards, free) =
    subst (λ found. IfSome found (IsJoiningRoute m values c.args.footprints.now c.args.t)) c.in-Some.is (c.in_ok-route.ensures.some values tells) in
    let start = is_among_starts m c.args.t c.in-Some.route.starts starts in
    record {
      enabled = enabled_with now values c.args.event c.in-Some.route c.args.t route.0 start here.0 guards;
      starts = start;
      among = sources_among c.requires.rules c.regions-shaped.ensures.shaped values c.args.footprints.now c.args.t now c.args.event c.args.states.now
          c.in-Some.route route start here.1;
      free = free;
    }

pub returns-then-is_kept_out-clause-none : goal.returns-then-is_kept_out-clause-none
returns-then-is_kept_out-clause-none g c values tells (q, b, enabled, start, among, footprint, free) =
    c.is_kept_out.ensures c.if-is_kept_out.true q b enabled.route_of_states start footprint free
