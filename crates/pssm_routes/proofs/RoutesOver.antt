-- What a search has found is a route, and a route with true guards that an event starts is enabled.
use Rattle.std.proofs.Common.{◌<◌, List, ◌++◌, length, Contains, subst}
use Rattle.pssm_model.specs.declared.ids.VertexId.{VertexId}
use Rattle.pssm_model.specs.declared.ids.TransId.{TransId}
use Rattle.pssm_model.specs.declared.elements.DraftMachine.{DraftMachine}
use Rattle.pssm_model.specs.declared.elements.Transition.{Transition}
use Rattle.pssm_model.specs.declared.steps.Route.{Route}
use Rattle.pssm_model.specs.declared.steps.Event.{Event}
use Rattle.pssm_model.specs.Configuration.{Configuration}
use Rattle.pssm_model.specs.Forest.{transition_at}
use Rattle.pssm_model.specs.Shapes.{HasShape}
use Rattle.pssm_model.specs.Routes.{Truth, IsSource, IsStateRoute}
use Rattle.pssm_model.specs.WellFormed.{KeepsModelRules}
use Rattle.pssm_model.proofs.ElementLaws.{some_at, mapped_at}
use Rattle.pssm_model_laws.proofs.Through.{target_there}
use Rattle.pssm_enabled.specs.declared.seeking.Step.{Step}
use Rattle.pssm_routes.specs.declared.areas.Footprint.{Footprint}
use Rattle.pssm_enabled.specs.Starts.{AreStartsWith}
use Rattle.pssm_routes.specs.inner.Starts.{IsStartedWith, StartsAmong}
use Rattle.pssm_routes.specs.inner.Rooms.{IsJoiningStep}
use Rattle.pssm_enabled.specs.Behind.{LeadsFurther, IsRouteBehind}
use Rattle.pssm_routes.specs.inner.Sets.{HasJoiner, HasFreeRoute}
use Rattle.pssm_enabled.proofs.Ascending.{some_route_over}
use Rattle.pssm_routes.proofs.Enabled.{enabled_with, enabled_started}
use Rattle.pssm_routes.proofs.Conflicts.{some_footprint}
use Rattle.pssm_enabled.proofs.StartLaws.{starts_of, is_among_starts, one_starts, some_starts}
use Rattle.pssm_enabled.proofs.Trees.{some_behind}

module _ {m : DraftMachine} (rules : KeepsModelRules m) (shape : HasShape m) (truth : Truth) where
  -- where a route can go on from the end of a path there is one that does
  pub some_route_behind : (t last : TransId) (path starts : List TransId) → AreStartsWith m t starts → LeadsFurther m truth last
      → (q : Route) × IsRouteBehind m truth t last path q
  some_route_behind t last path starts are further =
      let v = further.0 in
      let behind = some_behind shape rules truth v (target_there shape last v further.1) further.2 in
      let q = some_route_over m t starts are (path ++ behind.0) in
      (q.0, record { end = v; enters = further.1; behind = behind.0; goes_on = behind.1; over = q.1 })

  module _ (footprints : List Footprint) (t : TransId) where
    pub starts_here : t.0 < length m.transitions → (starts : List TransId) × AreStartsWith m t starts
    starts_here there =
        let x = some_at m.transitions t.0 there in
        some_starts m t x.0.target (mapped_at (λ (y : Transition). y.target) (transition_at m t) x.0 x.1)

    -- what a search has found is free
    pub found_free : t.0 < length m.transitions → (steps : List Step) (last : Step) → IsJoiningStep m truth footprints steps t last
        → HasFreeRoute m truth footprints t
    found_free there steps last h =
        let starts = starts_here there in
        let q = some_route_behind t last.by h.0 starts.0 starts.1 h.2 in
        let is = h.3 q.0 q.1 in
        let footprint = some_footprint shape rules q.0 is.0 in
        (q.0, footprint.0, is.0, is_among_starts m t q.0.starts q.1.over.starts, is.1, footprint.1, is.2 footprint.0 footprint.1)

    module _ (now : Configuration) (event : Event) (states : List VertexId) where
      pub joiner_is_free : HasJoiner m now truth event states footprints t → HasFreeRoute m truth footprints t
      joiner_is_free h = (h.0, h.1, h.2.route_of_states, h.3, h.2.guards, h.5, h.6)

      pub joiner_started : HasJoiner m now truth event states footprints t → IsStartedWith m now event t
      joiner_started h = enabled_started now truth event h.0 t h.2 h.3

      pub joiner_among : HasJoiner m now truth event states footprints t → StartsAmong m states t
      joiner_among h starts s are left =
          h.4 s (left.0, subst (λ ts. Contains ts left.0) (one_starts m t starts h.0.starts are (starts_of m h.0 t h.2.route_of_states.0 h.3)) left.1, left.2)

      -- the sources of a route with the start are among the States where those of the starts with it are
      pub sources_among : (q : Route) → IsStateRoute m q → Contains q.starts t → StartsAmong m states t → (s : VertexId) → IsSource m q s
          → Contains states s
      sources_among q route start among s source = among q.starts s (starts_of m q t route.0 start) source

      pub free_joins : IsStartedWith m now event t → StartsAmong m states t → HasFreeRoute m truth footprints t
          → HasJoiner m now truth event states footprints t
      free_joins started among h = (
        h.0,
        h.1,
        enabled_with now truth event h.0 t h.2.0 h.3 started h.4,
        h.3,
        sources_among h.0 h.2 h.3 among,
        h.5,
        h.6,
      )
