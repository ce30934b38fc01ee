-- A way found in the room for a start is a route that joins; where there is no way, no route joins.
use Rattle.std.proofs.Common.{◌<◌, List, length, Option, Some, None, IfSome, IfNone, subst, inl}
use Rattle.pssm_model.specs.declared.ids.VertexId.{VertexId}
use Rattle.pssm_model.specs.declared.ids.RegionId.{RegionId}
use Rattle.pssm_model.specs.declared.ids.TransId.{TransId}
use Rattle.pssm_model.specs.declared.elements.DraftMachine.{DraftMachine}
use Rattle.pssm_model.specs.declared.elements.VertexKind.TheVariants as kinds
use Rattle.pssm_model.specs.declared.steps.Route.{Route}
use Rattle.pssm_model.specs.Shapes.{HasShape}
use Rattle.pssm_model.specs.Forest.{HasKind}
use Rattle.pssm_model.specs.Legs.{Leaves, On}
use Rattle.pssm_model.specs.Routes.{Truth, IsRoute, IsStateRoute, IsTrueAt}
use Rattle.pssm_model.specs.WellFormed.{KeepsModelRules}
use Rattle.pssm_model_laws.specs.inner.RouteWords.{IsThrough}
use Rattle.pssm_model.proofs.ElementLaws.{leaves_one}
use Rattle.pssm_model_laws.proofs.Through.{not_through}
use Rattle.pssm_model_laws.proofs.StateRoutes.{leaves_some}
use Rattle.pssm_routes.specs.declared.areas.Footprint.{Footprint}
use Rattle.pssm_enabled.specs.declared.seeking.Step.{Step}
use Rattle.pssm_routes.specs.inner.Starts.{GoesOnBy}
use Rattle.pssm_enabled.specs.Steps.{IsFound}
use Rattle.pssm_routes.specs.inner.Rooms.{IsJoiningStep, IsShut, IsOpenRoom, EndsWithin}
use Rattle.pssm_enabled.specs.Ways.{LeadsOut, IsWayOut}
use Rattle.pssm_routes.specs.inner.Sets.{HasFreeRoute}
use Rattle.pssm_enabled.specs.Behind.{IsRouteBehind}
use Rattle.pssm_enabled.proofs.LeadingOn.{route_leads}
use Rattle.pssm_enabled.proofs.StartLaws.{is_among_starts}
use Rattle.pssm_routes.proofs.Onward.{onward_on}
use Rattle.pssm_routes.proofs.WayEnds.{out_leads_further, out_no_join}
use Rattle.pssm_routes.proofs.Routed.{over_true, over_routed, states_over}
use Rattle.pssm_routes.proofs.Bounds.{all_within}

-- a start that leaves a State leaves no vertex through which routes go on
pub state_outside : (m : DraftMachine) (t : TransId) (s : VertexId) → Leaves m t s → HasKind m s kinds.State → (v : VertexId) → Leaves m t v
    → IsThrough m v → ⊥
state_outside m t s leaves state v left through =
    not_through m v kinds.State (λ none. none) (subst (λ x. HasKind m x kinds.State) (leaves_one m t s v leaves left) state) through

module _ {m : DraftMachine} (rules : KeepsModelRules m) (shape : HasShape m) (values : Truth) (footprints : List Footprint) (t : TransId) where
  pub none_joins_shut : IsShut m footprints t → HasFreeRoute m values footprints t → ⊥
  none_joins_shut shut (q, b, route, start, guards, footprint, free) = shut q b route start footprint free

  module _ (within : Option RegionId) (room : IsOpenRoom m footprints t within) (u : TransId) (on : GoesOnBy m t u) where
    module _ (s : VertexId) (leaves : Leaves m t s) (state : HasKind m s kinds.State) (last : TransId) (path : List TransId)
        (way : IsWayOut m values within u last path) (q : Route) (over : IsRouteBehind m values t last path q) where
      outside : (v : VertexId) → Leaves m t v → IsThrough m v → ⊥
      outside = state_outside m t s leaves state

      route : IsRoute m q
      route = over_routed shape rules values within t u last path way.passed way.way on outside over.end over.enters over.behind over.goes_on q over.over

      pub step_route : IsStateRoute m q
      step_route = states_over rules t q s leaves state route over.over.starts

      pub step_true : (x : TransId) → On q x → IsTrueAt m values x
      step_true = over_true shape rules values within t u last path way.passed way.way on outside over.end over.enters over.behind over.goes_on q over.over

    pub ends_within : (within : Option RegionId) → IsOpenRoom m footprints t within → (s : VertexId) → Leaves m t s → HasKind m s kinds.State
        → (last : TransId) (path : List TransId) → IsWayOut m values within u last path → (q : Route) → IsRouteBehind m values t last path q
        → IsStateRoute m q → EndsWithin m within q
    ends_within None opened s leaves state last path way q over states = λ x v is enters. tt
    ends_within (Some r) opened s leaves state last path way q over states =
        all_within shape rules values r t u last path way.passed way.way on (state_outside m t s leaves state) over.end over.enters over.behind over.goes_on q
        over.over (inl states) (way.ends over.end over.enters) (out_no_join rules values (Some r) t u last path way on over.end over.enters) opened.joins

    found_joins : (steps : List Step) (s : VertexId) (last : Step) → Leaves m t s → HasKind m s kinds.State → IsFound m values within steps u last
        → IsJoiningStep m values footprints steps t last
    found_joins steps s last leaves state (path, trail, way) = (
      path,
      trail,
      out_leads_further rules values within t u last.by path way on,
      λ q over.
          let states = step_route s leaves state last.by path way q over in
          let ends = ends_within within room s leaves state last.by path way q over states in (
            states,
            step_true s leaves state last.by path way q over,
            λ b footprint. room.clear q b states (is_among_starts m t q.starts over.over.starts) footprint ends,
          ),
    )

    pub some_joins : (steps : List Step) (found : Option Step) → t.0 < length m.transitions
        → ((v : VertexId) → Leaves m t v → HasKind m v kinds.State) → IfSome found (IsFound m values within steps u)
        → IfSome found (IsJoiningStep m values footprints steps t)
    some_joins steps None lt states is = tt
    some_joins steps (Some last) lt states is =
        let (s, leaves) = leaves_some m t lt in
        found_joins steps s last leaves (states s leaves) is

    pub none_joins : (found : Option Step) → IfNone found (LeadsOut m values within u → ⊥) → IfNone found (HasFreeRoute m values footprints t → ⊥)
    none_joins None none = λ (q, b, route, start, guards, footprint, free).
        none (route_leads shape rules values q route.0 guards within (room.ends q b route start footprint free) u
        (onward_on rules q t u route.0 start on))
    none_joins (Some last) none = tt
