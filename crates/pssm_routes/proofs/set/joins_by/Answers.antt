-- a start from the States has a joiner where there is a free route
use Rattle.pssm_config.specs.Tables.{configuration_of}
use Rattle.pssm_routes.proofs.Enabled.{started_state}
use Rattle.pssm_enabled.proofs.ListPlaces.{refuted}
use Rattle.pssm_routes.proofs.RoutesOver.{joiner_is_free, joiner_started, joiner_among, free_joins}
use Rattle.pssm_routes.proofs.set.joins_by.Goals as goal

pub returns-then-not-is_started_with : goal.returns-then-not-is_started_with
returns-then-not-is_started_with g c values tells = (
  λ wrong. absurd (cc),
  λ h. absurd (refuted c.is_started_with.result c.if-not-is_started_with.true c.is_started_with.ensures
      (joiner_started c.requires.rules c.requires.fits.shape values c.args.footprints.now c.args.t (configuration_of c.args.config.now) c.args.event
      c.args.states.now h)),
)

pub has_joiner-requires-clause-source : goal.has_joiner-requires-clause-source
has_joiner-requires-clause-source g c v leaves =
    started_state (configuration_of c.args.config.now) c.args.event c.args.t v (c.is_started_with.ensures.0 c.if-not-is_started_with.false) leaves

pub returns-then-start_all_among : goal.returns-then-start_all_among
returns-then-start_all_among g c values tells =
    let now = configuration_of c.args.config.now in
    let footprints = c.args.footprints.now in
    let states = c.args.states.now in
    let shape = c.requires.fits.shape in
    let started = c.is_started_with.ensures.0 c.if-not-is_started_with.false in
    let among = c.start_all_among.ensures.0 c.if-start_all_among.true in
    let free = c.has_joiner.ensures values tells in (
      λ is. free_joins c.requires.rules shape values footprints c.args.t now c.args.event states started among (free.0 is),
      λ h. free.1 (joiner_is_free c.requires.rules shape values footprints c.args.t now c.args.event states h),
    )

pub returns-else-start_all_among : goal.returns-else-start_all_among
returns-else-start_all_among g c values tells = (
  λ holds. absurd (let fails = c.if-start_all_among.false in cc (fails, holds)),
  λ h. c.start_all_among.ensures.1
      (joiner_among c.requires.rules c.requires.fits.shape values c.args.footprints.now c.args.t (configuration_of c.args.config.now) c.args.event
      c.args.states.now h),
)

pub returns-then-is_kept_out : goal.returns-then-is_kept_out
returns-then-is_kept_out g c values tells = (
  λ wrong. absurd (cc),
  λ (q, b, enabled, start, among, footprint, free). absurd (c.is_kept_out.ensures c.if-is_kept_out.true q b enabled.route_of_states start footprint free),
)
