-- A State reacts exactly where a transition that the event starts there leads out.
use Rattle.std.proofs.Common.{List, None}
use Rattle.pssm_model.specs.declared.ids.VertexId.{VertexId}
use Rattle.pssm_model.specs.declared.ids.TransId.{TransId}
use Rattle.pssm_model.specs.declared.elements.DraftMachine.{DraftMachine}
use Rattle.pssm_model.specs.declared.steps.Event.{Event}
use Rattle.pssm_model.specs.Configuration.{Configuration}
use Rattle.pssm_model.specs.Shapes.{HasShape}
use Rattle.pssm_model.specs.Legs.{Leaves}
use Rattle.pssm_model.specs.Routes.{Truth}
use Rattle.pssm_model.specs.WellFormed.{KeepsModelRules}
use Rattle.pssm_model_laws.proofs.RouteOrder.{of_start, target_of}
use Rattle.pssm_enabled.specs.declared.seeking.Step.{Step}
use Rattle.pssm_routes.specs.inner.Starts.{IsStartedWith, GoesOnBy, HasRouteBy, Reacts}
use Rattle.pssm_enabled.specs.Ways.{LeadsOut, IsWayOut}
use Rattle.pssm_enabled.specs.Steps.{IsFound}
use Rattle.pssm_routes.proofs.Enabled.{started_state, enabled_started, enabled_with}
use Rattle.pssm_routes.proofs.JoiningSteps.{state_outside}
use Rattle.pssm_enabled.proofs.LeadingOn.{route_leads}
use Rattle.pssm_routes.proofs.Routed.{over_routed, over_true}
use Rattle.pssm_routes.proofs.RoutesOver.{some_route_behind}
use Rattle.pssm_enabled.proofs.StartLaws.{is_among_starts}
use Rattle.pssm_routes.proofs.Onward.{some_onward, onward_on}
use Rattle.pssm_routes.proofs.WayEnds.{out_leads_further}

-- The event starts the transition out of the State, alone or with others, and that by which a route with it goes on leads out.
pub record IsReaction (m : DraftMachine) (now : Configuration) (truth : Truth) (event : Event) (s : VertexId) (t : TransId) : Type 0 where
  pub leaves : Leaves m t s
  pub started : IsStartedWith m now event t
  pub onward : TransId
  pub on : GoesOnBy m t onward
  pub leads : LeadsOut m truth None onward

module _ {m : DraftMachine} (rules : KeepsModelRules m) (shape : HasShape m) (now : Configuration) (truth : Truth) (event : Event) where
  -- each route that starts at the State starts with such a transition
  pub reacts_leads : (s : VertexId) → Reacts m now truth event s → (t : TransId) × IsReaction m now truth event s t
  reacts_leads s (p, enabled, (t, start, leaves)) =
      let route = enabled.route_of_states.0 in
      let end = target_of shape rules p route t (of_start m p t start) in
      let onward = some_onward rules t end.0 end.1 in (
        t,
        record {
          leaves = leaves;
          started = enabled_started now truth event p t enabled start;
          onward = onward.0;
          on = onward.1;
          leads = route_leads shape rules truth p route enabled.guards None (λ u v is enters. tt) onward.0 (onward_on rules p t onward.0 route start onward.1);
        },
      )

  -- and each way out of such a transition is a route
  pub way_reacts : (s : VertexId) (t u last : TransId) (path : List TransId) → Leaves m t s → IsStartedWith m now event t → GoesOnBy m t u
      → IsWayOut m truth None u last path → HasRouteBy m now truth event t
  way_reacts s t u last path leaves started on way =
      let outside = state_outside m t s leaves (started_state now event t s started leaves) in
      let made = some_route_behind rules shape truth t last path started.0 started.1 (out_leads_further rules truth None t u last path way on) in
      let q = made.0 in
      let over = made.1 in
      let start = is_among_starts m t q.starts over.over.starts in
      let route = over_routed shape rules truth None t u last path way.passed way.way on outside over.end over.enters over.behind over.goes_on q over.over in
      let guards = over_true shape rules truth None t u last path way.passed way.way on outside over.end over.enters over.behind over.goes_on q over.over in
      (q, enabled_with now truth event q t route start started guards, start)

  pub route_by_reacts : (s : VertexId) (t : TransId) → Leaves m t s → HasRouteBy m now truth event t → Reacts m now truth event s
  route_by_reacts s t leaves h = (h.0, h.1, (t, h.2, leaves))

  pub found_reacts : (s : VertexId) (t u : TransId) (steps : List Step) (last : Step) → Leaves m t s → IsStartedWith m now event t → GoesOnBy m t u
      → IsFound m truth None steps u last → Reacts m now truth event s
  found_reacts s t u steps last leaves started on found =
      route_by_reacts s t leaves (way_reacts s t u last.by found.0 leaves started on found.2)
