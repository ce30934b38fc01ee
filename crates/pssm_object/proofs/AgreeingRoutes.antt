-- In configurations that agree the same routes are enabled, conflict and fire, and the same keeps a State from deferring.
use Rattle.std.proofs.Common.{◌↔◌, List, inl, inr}
use Rattle.std.proofs.lemmas.List.Elements.{All-weaker}
use Rattle.pssm_model.specs.declared.ids.VertexId.{VertexId}
use Rattle.pssm_model.specs.declared.ids.TransId.{TransId}
use Rattle.pssm_model.specs.declared.ids.SignalId.{SignalId}
use Rattle.pssm_model.specs.declared.elements.DraftMachine.{DraftMachine}
use Rattle.pssm_model.specs.declared.steps.Route.{Route}
use Rattle.pssm_model.specs.declared.steps.Event.{Event}
use Rattle.pssm_model.specs.declared.steps.Event.TheVariants.{Signal, Completion}
use Rattle.pssm_model.specs.Configuration.{Configuration}
use Rattle.pssm_model.specs.Changes.{Agree}
use Rattle.pssm_model.specs.Legs.{WouldExit, LegExits, Exits}
use Rattle.pssm_model.specs.Routes.{Truth, IsEnabledBy, IsEnabled, Conflict}
use Rattle.pssm_model.specs.FiringSets.{IsSound, IsFiringSet, IsFiring, Overrides}
use Rattle.pssm_object.proofs.Agreeing.{Agree-symm, complete_too}

-- where the same States are active
module _ (m : DraftMachine) (A B : VertexId → Type 0) (same : (s : VertexId) → A s ↔ B s) where
  would_exit_too : (route : Route) (t : TransId) (s : VertexId) → WouldExit m A route t s ↔ WouldExit m B route t s
  would_exit_too route t s = (λ w. ((same s).0 w.0, w.1), λ w. ((same s).1 w.0, w.1))

  leg_exits_too : (route : Route) (t : TransId) (s : VertexId) → LegExits m A route t s → LegExits m B route t s
  leg_exits_too route t s x =
      ((would_exit_too route t s).0 x.0, λ u later would. x.1 u later ((would_exit_too route u s).1 would))

  pub exits_too : (route : Route) (s : VertexId) → Exits m A route s → Exits m B route s
  exits_too route s x = (x.0, x.1, leg_exits_too route x.0 s x.2)

  pub conflict_too : (p q : Route) → Conflict m A p q → Conflict m B p q
  conflict_too p q (apart, inl both) = (apart, inl (both.0, exits_too p both.0 both.1, exits_too q both.0 both.2))
  conflict_too p q (apart, inr (inl first)) = (apart, inr (inl (first.0, exits_too p first.0 first.1, first.2)))
  conflict_too p q (apart, inr (inr (inl second))) = (apart, inr (inr (inl (second.0, exits_too q second.0 second.1, second.2))))
  conflict_too p q (apart, inr (inr (inr sources))) = (apart, inr (inr (inr sources)))

enabled_by_too : (m : DraftMachine) (now then : Configuration) → Agree now then → (event : Event) (route : Route)
    → IsEnabledBy m now event route → IsEnabledBy m then event route
enabled_by_too m now then agree (Signal signal) route h = (h.0, h.1, h.2, λ s source. (agree.active s).0 (h.3 s source))
enabled_by_too m now then agree (Completion s) route h =
    (h.0, h.1, λ q source. (agree.active q).0 (h.2 q source), λ q source other. complete_too now then agree m q (h.3 q source other))

module _ {m : DraftMachine} {now then : Configuration} (agree : Agree now then) (truth : Truth) where
  pub enabled_agrees : (event : Event) (route : Route) → IsEnabled m now truth event route → IsEnabled m then truth event route
  enabled_agrees event route h =
      record { route_of_states = h.route_of_states; by_event = enabled_by_too m now then agree event route h.by_event; guards = h.guards }

  -- what keeps a State from deferring the signal
  pub overrides_agrees : (signal : SignalId) (s : VertexId) → Overrides m now truth signal s → Overrides m then truth signal s
  overrides_agrees signal s h = (h.0, h.1, enabled_agrees (Signal signal) h.0 h.2, h.3, h.4)

pub sound_agrees : {m : DraftMachine} {now then : Configuration} → Agree now then → (truth : Truth) (event : Event) (routes : List Route)
    → IsSound m now truth event routes → IsSound m then truth event routes
sound_agrees {m = m} {now = now} {then = then} agree truth event routes h =
    let back = Agree-symm now then agree in
    record {
      enabled = All-weaker (IsEnabled m now truth event) (IsEnabled m then truth event) (enabled_agrees agree truth event) routes h.enabled;
      agree = λ p q in_p in_q conflict. h.agree p q in_p in_q (conflict_too m then.Active now.Active back.active p q conflict);
      ranked = λ p q in_p enabled conflict.
          h.ranked p q in_p (enabled_agrees back truth event q enabled) (conflict_too m then.Active now.Active back.active p q conflict);
    }

pub firing_set_agrees : {m : DraftMachine} {now then : Configuration} → Agree now then → (truth : Truth) (event : Event) (routes : List Route)
    → IsFiringSet m now truth event routes → IsFiringSet m then truth event routes
firing_set_agrees {now = now} {then = then} agree truth event routes h = record {
  sound = sound_agrees agree truth event routes h.sound;
  largest = λ others sound all. h.largest others (sound_agrees (Agree-symm now then agree) truth event others sound) all;
}

-- what fires
pub firing_agrees : {m : DraftMachine} {now then : Configuration} → Agree now then → (truth : Truth) (event : Event) (routes : List Route)
    → IsFiring m now truth event routes → IsFiring m then truth event routes
firing_agrees agree truth event routes h = (firing_set_agrees agree truth event routes h.0, h.1)
