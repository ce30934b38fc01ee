-- the one route is what fires where its footprint is complete
use Rattle.std.proofs.Common.{◌≡◌, ◌∙◌, ◌<◌, List, [], ◌∷◌, length, All, ap, sym, subst, arith}
use Rattle.std.proofs.lemmas.List.Elements.{All-nil, All-cons}
use Rattle.pssm_model.specs.declared.ids.VertexId.{VertexId}
use Rattle.pssm_model.specs.declared.steps.Route.{Route}
use Rattle.pssm_model.specs.Routes.{IsStateRoute, IsEnabled}
use Rattle.pssm_model.specs.FiringSets.{IsFiring}
use Rattle.pssm_config.specs.Tables.{configuration_of}
use Rattle.pssm_routes.specs.inner.Footprints.{IsFootprintIn}
use Rattle.pssm_routes.specs.inner.Sets.{AreComplete}
use Rattle.pssm_routes.proofs.LoneReacting.{lone_fires}
use Rattle.pssm_enabled.proofs.Started.{one_of_length}
use Rattle.pssm_routes.proofs.set.told_by_lone.Goals as goal

pub footprint_of-footprint-requires-clause-route : goal.footprint_of-footprint-requires-clause-route
footprint_of-footprint-requires-clause-route g c =
    let some : 0 < length c.args.routes.now = let least = c.in-len1.len_at_least in omega (arith, least) in
    subst (IsStateRoute c.args.machine.now) (sym c.route-item.is) (c.requires.routes 0 c.route-item.result some)

pub are_complete-requires-clause-footprints : goal.are_complete-requires-clause-footprints
are_complete-requires-clause-footprints g c =
    let There = IsFootprintIn c.args.machine.now in
    All-cons There c.footprint_of-footprint.result [] c.footprint_of-footprint.ensures.there (All-nil There)

pub are_complete-requires-clause-there : goal.are_complete-requires-clause-there
are_complete-requires-clause-there g c =
    let There : VertexId → Type 0 = λ s. s.0 < length c.args.machine.now.vertices in
    All-cons There c.in_ok-state-in-len1.state [] c.in_ok-state-in-len1.ensures.there (All-nil There)

pub returns-in_ok-state-in-len1 : goal.returns-in_ok-state-in-len1
returns-in_ok-state-in-len1 g c values tells enabled =
    let m = c.args.machine.now in
    let now = configuration_of c.args.config.now in
    let p = c.route-item.result in
    let long : length c.args.routes.now ≡ 1 = let least = c.in-len1.len_at_least in let most = c.in-len1.len_below in omega (arith, least, most) in
    let one = one_of_length c.args.routes.now p long ∙ ap (λ (q : Route). q ∷ []) (sym c.route-item.is) in
    let fires = lone_fires m now values c.args.event c.requires.rules c.requires.fits.shape p c.footprint_of-footprint.result c.in_ok-state-in-len1.state
    c.footprint_of-footprint.ensures.footprint (c.in_ok-state-in-len1.ensures.alone values tells)
    (subst (All (IsEnabled m now values c.args.event)) one enabled) in
    let complete = c.are_complete.ensures values tells in
    let Complete : List Route → Type 0 = λ ps. AreComplete m now values c.args.event (c.in_ok-state-in-len1.state ∷ []) ps (c.footprint_of-footprint.result ∷ []) in (
      λ t. subst (IsFiring m now values c.args.event) (sym one) (fires.1 (subst Complete one (complete.0 t))),
      λ h. complete.1 (subst Complete (sym one) (fires.0 (subst (IsFiring m now values c.args.event) one h))),
    )
