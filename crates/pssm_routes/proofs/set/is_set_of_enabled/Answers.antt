-- enabled routes in order are what fires where their footprints are complete
use Rattle.std.proofs.Common.{◌↔◌, IsTrue, subst}
use Rattle.pssm_config.specs.Tables.{configuration_of}
use Rattle.pssm_routes.specs.inner.Sets.{AreComplete}
use Rattle.pssm_routes.proofs.Judging.{fires_complete, all_start}
use Rattle.pssm_enabled.proofs.Scanning.{refuted}
use Rattle.pssm_routes.proofs.set.is_set_of_enabled.Goals as goal

pub are_listed-requires : goal.are_listed-requires
are_listed-requires g c = all_start c.requires.fits.shape c.requires.rules c.args.routes.now c.requires.routes

pub returns-then-not-are_listed : goal.returns-then-not-are_listed
returns-then-not-are_listed g c values tells enabled = (
  λ f. absurd (cc),
  λ h. absurd (refuted c.are_listed.result c.if-not-are_listed.true c.are_listed.ensures h.1),
)

pub returns : goal.returns
returns g c values tells enabled =
    let m = c.args.machine.now in
    let now = configuration_of c.args.config.now in
    let event = c.args.event in
    let routes = c.args.routes.now in
    let footprints = c.in_ok-footprints.footprints.items in
    let states = c.in_ok-states.states.items in
    let fires = fires_complete c.requires.rules c.requires.fits.shape now values event routes footprints states
    c.in_ok-footprints.ensures.footprints (c.in_ok-states.ensures.states values tells) enabled (c.are_listed.ensures.0 c.if-not-are_listed.false) in
    let complete = subst (λ ss. IsTrue c.are_complete.result ↔ AreComplete m now values event ss routes footprints) c.as_slice-3.ensures.value
    (subst (λ gs. IsTrue c.are_complete.result ↔ AreComplete m now values event c.as_slice-3.result.now routes gs) c.as_slice-2.ensures.value
    (c.are_complete.ensures values tells)) in
    (λ t. fires.1 (complete.0 t), λ h. complete.1 (fires.0 h))
