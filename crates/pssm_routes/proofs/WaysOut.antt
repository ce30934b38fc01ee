-- Where a way leads out there is one that passes no vertex twice, and so a route.
use Rattle.std.proofs.Common.{◌↔◌, ◌<◌, List, length, ◌⊎◌, Option, None, IsTrue, Bool, true, false, refl, sym, subst, inl, inr, ⊎_elim}
use Rattle.std.proofs.lemmas.Bool.{true≢false}
use Rattle.pssm_model.specs.declared.ids.VertexId.{VertexId}
use Rattle.pssm_model.specs.declared.ids.RegionId.{RegionId}
use Rattle.pssm_model.specs.declared.ids.TransId.{TransId}
use Rattle.pssm_model.specs.declared.elements.DraftMachine.{DraftMachine}
use Rattle.pssm_model.specs.declared.elements.VertexKind.TheVariants as kinds
use Rattle.pssm_model.specs.Forest.{HasKind}
use Rattle.pssm_model.specs.Legs.{Leaves}
use Rattle.pssm_model.specs.Routes.{Truth}
use Rattle.pssm_model.specs.Shapes.{HasShape}
use Rattle.pssm_model.specs.WellFormed.{KeepsModelRules}
use Rattle.pssm_model.proofs.ElementLaws.{enters_one}
use Rattle.pssm_model_laws.proofs.StateRoutes.{leaves_some}
use Rattle.pssm_model_laws.proofs.Through.{no_cycle}
use Rattle.pssm_routes.specs.declared.areas.Footprint.{Footprint}
use Rattle.pssm_enabled.specs.Ways.{IsPassedOver, LeadsOut, IsWay, IsWayOut}
use Rattle.pssm_routes.specs.inner.Rooms.{IsOpenRoom}
use Rattle.pssm_routes.specs.inner.Sets.{HasFreeRoute}
use Rattle.pssm_routes.specs.inner.Starts.{GoesOnBy}
use Rattle.pssm_enabled.specs.Ways.IsWay.{begins, goes_on}
use Rattle.pssm_enabled.specs.Ways.LeadsOut.{ends, on}
use Rattle.pssm_routes.proofs.Conflicts.{some_footprint}
use Rattle.pssm_routes.proofs.JoiningSteps.{step_route, step_true, ends_within, none_joins}
use Rattle.pssm_enabled.proofs.LeadingOn.{passed_through}
use Rattle.pssm_routes.proofs.Looks.{open_leads}
use Rattle.pssm_routes.proofs.RoutesOver.{some_route_behind, starts_here}
use Rattle.pssm_enabled.proofs.StartLaws.{is_among_starts}
use Rattle.pssm_routes.proofs.WayEnds.{out_leads_further}
use Rattle.pssm_enabled.proofs.WayPaths.{way_led}

module _ {m : DraftMachine} (rules : KeepsModelRules m) (truth : Truth) (within : Option RegionId) (start : TransId) where
  way_on : (t : TransId) (passed : List VertexId) (path : List TransId) → IsWay m truth within start t passed path → LeadsOut m truth within t
      → (last : TransId) × (full : List TransId) × IsWayOut m truth within start last full
  way_on t passed path way (ends {v = v} opened enters not) = (
    t,
    path,
    record { passed = passed; way = way; ends = λ w e over. not (subst (IsPassedOver m) (enters_one m t w v e enters) over) },
  )
  way_on t passed path way (on {u = u} {v = v} opened enters over leaves rest) =
      way_on u _ _
      (goes_on way enters over (λ inside. no_cycle rules v (way_led way v v inside enters (passed_through m v over))) leaves (open_leads u rest))
      rest

  pub leads_way : LeadsOut m truth within start → (last : TransId) × (path : List TransId) × IsWayOut m truth within start last path
  leads_way leads = way_on start _ _ (begins (open_leads start leads)) leads

-- and in the room for a start the route clashes with no footprint
module _ {m : DraftMachine} (rules : KeepsModelRules m) (shape : HasShape m) (values : Truth) (footprints : List Footprint) (t : TransId)
    (within : Option RegionId) (room : IsOpenRoom m footprints t within) (u : TransId) (on_by : GoesOnBy m t u) where
  pub leads_free : t.0 < length m.transitions → (s : VertexId) → Leaves m t s → HasKind m s kinds.State → LeadsOut m values within u
      → HasFreeRoute m values footprints t
  leads_free there s leaves state leads =
      let out = leads_way rules values within u leads in
      let last = out.0 in
      let path = out.1 in
      let way = out.2 in
      let starts = starts_here rules shape values footprints t there in
      let made = some_route_behind rules shape values t last path starts.0 starts.1 (out_leads_further rules values within t u last path way on_by) in
      let q = made.0 in
      let over = made.1 in
      let route = step_route rules shape values footprints t within room u on_by s leaves state last path way q over in
      let inside = ends_within rules shape values footprints t within room u on_by within room s leaves state last path way q over route in
      let start = is_among_starts m t q.starts over.over.starts in
      let footprint = some_footprint shape rules q route in (
        q,
        footprint.0,
        route,
        start,
        step_true rules shape values footprints t within room u on_by s leaves state last path way q over,
        footprint.1,
        room.clear q footprint.0 route start footprint.1 inside,
      )

  -- so a look tells whether there is one
  pub looked_free : t.0 < length m.transitions → ((v : VertexId) → Leaves m t v → HasKind m v kinds.State) → (is : Bool)
      → (IsTrue is ↔ LeadsOut m values within u) → IsTrue is ↔ HasFreeRoute m values footprints t
  looked_free there states is tells = (
    λ yes. let s = leaves_some m t there in leads_free there s.0 s.1 (states s.0 s.1) (tells.0 yes),
    λ free. ⊎_elim
        (λ yes. yes)
        (λ no. absurd (none_joins rules shape values footprints t within room u on_by None (λ leads. no (tells.1 leads)) free))
        (true_or_not is),
  )
    where
      true_or_not : (b : Bool) → IsTrue b ⊎ (IsTrue b → ⊥)
      true_or_not true = inl refl
      true_or_not false = inr (λ e. true≢false (sym e))
