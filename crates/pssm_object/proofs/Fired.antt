-- What fires: routes of States, out of active ones; and how a step begins so.
use Rattle.std.proofs.Common.{List, All, Contains}
use Rattle.std.proofs.lemmas.List.Elements.{All-contains}
use Rattle.pssm_model.specs.declared.ids.VertexId.{VertexId}
use Rattle.pssm_model.specs.declared.ids.RegionId.{RegionId}
use Rattle.pssm_model.specs.declared.elements.DraftMachine.{DraftMachine}
use Rattle.pssm_model.specs.declared.steps.Route.{Route}
use Rattle.pssm_model.specs.declared.steps.Event.{Event}
use Rattle.pssm_model.specs.declared.steps.Event.TheVariants.{Signal, Completion}
use Rattle.pssm_model.specs.Configuration.{Configuration, IsDirect}
use Rattle.pssm_model.specs.Routes.{Truth, IsSource, IsStateRoute, IsEnabledBy, IsEnabled}
use Rattle.pssm_model.specs.FiringSets.{IsFiring}
use Rattle.pssm_model.specs.Course.Head.{Starts, Fires}
use Rattle.pssm_plan.specs.Steadiness.{IsConsistent, BeginsWell}
use Rattle.pssm_semantics.specs.Known.{IsRouteOf}

-- the sources of what an event enables are active
pub active_source : (m : DraftMachine) (now : Configuration) (event : Event) (p : Route) → IsEnabledBy m now event p → (s : VertexId) → IsSource m p s
    → now.Active s
active_source m now (Signal signal) p by s source = by.3 s source
active_source m now (Completion v) p by s source = by.2 s source

module _ (m : DraftMachine) where
  module _ (now : Configuration) (truth : Truth) (event : Event) (routes : List Route) (h : IsFiring m now truth event routes) where
    -- what fires is enabled
    fired_enabled : (route : Route) → Contains routes route → IsEnabled m now truth event route
    fired_enabled route inside = All-contains (IsEnabled m now truth event) routes route h.0.sound.enabled inside

    pub fired_state_route : (route : Route) → Contains routes route → IsStateRoute m route
    fired_state_route route inside = (fired_enabled route inside).route_of_states

    -- so it is of the machine
    pub fired_there : All (IsRouteOf m) routes
    fired_there = λ i route lt. (h.0.sound.enabled i route lt).route_of_states.0.in_range

    -- and its sources are active
    pub fired_from_active : (p : Route) (s : VertexId) → Contains routes p → IsSource m p s → now.Active s
    fired_from_active p s inside source = active_source m now event p (fired_enabled p inside).by_event s source

  -- so a step begins well that fires, and one that starts where nothing is active or remembered
  pub begins_by_firing : (now : Configuration) (truth : Truth) (event : Event) (routes : List Route) → IsConsistent m now
      → ((r : RegionId) (s : VertexId) → now.Remembers r s → IsDirect m s r) → IsFiring m now truth event routes → BeginsWell m (Fires routes) now
  begins_by_firing now truth event routes consistent remembers h = record {
    consistent = consistent;
    start = λ e. absurd (cc);
    agree = h.0.sound.agree;
    from_active = fired_from_active now truth event routes h;
    remembers = remembers;
  }

  pub begins_by_start : (now : Configuration) → ((s : VertexId) → now.Active s → ⊥) → ((r : RegionId) (s : VertexId) → now.Remembers r s → ⊥)
      → BeginsWell m Starts now
  begins_by_start now none forgets = record {
    consistent = record {
      states = λ s is. absurd (none s is);
      one_each = λ r s q direct other is too. absurd (none s is);
      owners = λ r s direct is. absurd (none s is);
    };
    start = λ e. none;
    agree = λ p q first. absurd first;
    from_active = λ p s fires. absurd fires;
    remembers = λ r s is. absurd (forgets r s is);
  }
