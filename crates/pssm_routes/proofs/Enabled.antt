-- An enabled route is one that the event starts with each of its starts, and whose guards are true.
use Rattle.std.proofs.Common.{◌≡◌, Contains, refl, sym, subst}
use Rattle.pssm_model.specs.declared.ids.VertexId.{VertexId}
use Rattle.pssm_model.specs.declared.ids.TransId.{TransId}
use Rattle.pssm_model.specs.declared.elements.DraftMachine.{DraftMachine}
use Rattle.pssm_model.specs.declared.elements.VertexKind.TheVariants as kinds
use Rattle.pssm_model.specs.declared.steps.Route.{Route}
use Rattle.pssm_model.specs.declared.steps.Event.{Event}
use Rattle.pssm_model.specs.Forest.{HasKind}
use Rattle.pssm_model.specs.Configuration.{Configuration}
use Rattle.pssm_model.specs.Legs.{Leaves, On}
use Rattle.pssm_model.specs.Routes.{Truth, IsRoute, IsSource, IsStateRoute, IsTrueAt, IsEnabled}
use Rattle.pssm_model.proofs.RouteLaws.{same_route}
use Rattle.pssm_enabled.specs.Fitting.{route_with}
use Rattle.pssm_enabled.specs.Starts.{AreStarted}
use Rattle.pssm_routes.specs.inner.Starts.{IsStartedWith}
use Rattle.pssm_enabled.proofs.Started.{enabled_is}
use Rattle.pssm_enabled.proofs.StartLaws.{starts_of, is_among_starts, one_starts}

as_route : (p : Route) → route_with p.starts p.rest ≡ p
as_route p = same_route (route_with p.starts p.rest) p refl refl

module _ {m : DraftMachine} where
  -- what is started with others leaves a State
  pub started_state : (now : Configuration) (event : Event) (t : TransId) (s : VertexId) → IsStartedWith m now event t → Leaves m t s
      → HasKind m s kinds.State
  started_state now event t s h leaves = h.2.states s (t, is_among_starts m t h.0 h.1, leaves)

  module _ (now : Configuration) (truth : Truth) (event : Event) (p : Route) where
    -- the event starts its starts together
    pub enabled_starts : IsEnabled m now truth event p → AreStarted m now event p.starts
    enabled_starts h =
        ((enabled_is m now truth event p.starts p.rest).0 (subst (IsEnabled m now truth event) (sym (as_route p)) h)).0.1

    pub enabled_started : (t : TransId) → IsEnabled m now truth event p → Contains p.starts t → IsStartedWith m now event t
    enabled_started t h start = (p.starts, starts_of m p t h.route_of_states.0 start, enabled_starts h)

    pub enabled_active : (s : VertexId) → IsEnabled m now truth event p → IsSource m p s → now.Active s
    enabled_active s h source = (enabled_starts h).active s source

    pub enabled_by : IsRoute m p → AreStarted m now event p.starts → ((u : TransId) → On p u → IsTrueAt m truth u) → IsEnabled m now truth event p
    enabled_by route started guards =
        subst (IsEnabled m now truth event) (as_route p)
        ((enabled_is m now truth event p.starts p.rest).1 ((subst (IsRoute m) (sym (as_route p)) route, started), guards))

    started_same : (t : TransId) → IsRoute m p → Contains p.starts t → IsStartedWith m now event t → AreStarted m now event p.starts
    started_same t route start h = subst (AreStarted m now event) (one_starts m t h.0 p.starts h.1 (starts_of m p t route start)) h.2

    pub enabled_with : (t : TransId) → IsRoute m p → Contains p.starts t → IsStartedWith m now event t
        → ((u : TransId) → On p u → IsTrueAt m truth u) → IsEnabled m now truth event p
    enabled_with t route start h guards = enabled_by route (started_same t route start h) guards

    -- a route with a start that leaves a State with the others is one of States
    pub states_with : (t : TransId) → IsRoute m p → Contains p.starts t → IsStartedWith m now event t → IsStateRoute m p
    states_with t route start h = (route, (started_same t route start h).states)
