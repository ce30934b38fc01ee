-- Routes of one transition, and what fires where little is enabled.
use Rattle.std.proofs.Common.{◌≡◌, ◌≢◌, ◌<◌, ℕ, zero, suc, List, [], ◌∷◌, Contains, All, AllPairs, get_or, refl, sym, inl, arith, inr}
use Rattle.std.proofs.lemmas.List.Elements.{Contains-append_left, Contains-append_right, All-contains}
use Rattle.pssm_model.specs.declared.ids.VertexId.{VertexId}
use Rattle.pssm_model.specs.declared.ids.TransId.{TransId}
use Rattle.pssm_model.specs.declared.elements.DraftMachine.{DraftMachine}
use Rattle.pssm_model.specs.declared.steps.Route.{Route}
use Rattle.pssm_model.specs.Legs.{On}
use Rattle.pssm_model.specs.Configuration.{Configuration}
use Rattle.pssm_model.specs.Routes.{Truth, IsReached, IsSource, IsEnabled, Conflict}
use Rattle.pssm_model.specs.Routes.IsReached.{start, on}
use Rattle.pssm_model.specs.declared.steps.Event.{Event}
use Rattle.pssm_model.specs.FiringSets.{IsSound, StartsBefore, IsFiring}
use Rattle.pssm_model.proofs.ElementLaws.{nothing_in_nil}

-- what is in a list of one
pub in_one : {X : Type 0} (x : X) → Contains (x ∷ []) x
in_one x = (0, omega arith, refl)

pub is_one : {X : Type 0} (x y : X) → Contains (x ∷ []) y → y ≡ x
is_one x y h = at_zero h.0 h.1 h.2
  where
    at_zero : (k : ℕ) → k < 1 → get_or (x ∷ []) k y ≡ y → y ≡ x
    at_zero zero lt e = sym e
    at_zero (suc k) lt e = absurd (omega arith)

-- a list in which nothing is
pub nil_from_nothing : {X : Type 0} (xs : List X) → ((x : X) → Contains xs x → ⊥) → xs ≡ []
nil_from_nothing [] none = refl
nil_from_nothing (x ∷ xs) none = absurd (none x (0, omega arith, refl))

-- at most one element stands in order
pub one_in_order : {X : Type 0} (R : X → X → Type 0) (x : X) → AllPairs R (x ∷ [])
one_in_order R x i j d lt inside = absurd (omega arith)

pub none_in_order : {X : Type 0} (R : X → X → Type 0) → AllPairs R []
none_in_order R i j d lt inside = absurd (omega arith)

pub all_of_one : {X : Type 0} (P : X → Type 0) (x : X) → P x → All P (x ∷ [])
all_of_one P x is k d lt = at_zero k lt
  where
    at_zero : (k : ℕ) → k < 1 → P (get_or (x ∷ []) k d)
    at_zero zero lt = is
    at_zero (suc k) lt = absurd (omega arith)

-- a route is its starts and its further transitions
pub same_route : (p q : Route) → p.starts ≡ q.starts → p.rest ≡ q.rest → p ≡ q
same_route p q e f = λ i. record { starts = e i; rest = f i }

-- a reached transition is of the route
pub reached_is_on : (m : DraftMachine) (route : Route) (t : TransId) → IsReached m route t → On route t
reached_is_on m route t (start h) = Contains-append_left route.starts route.rest t h
reached_is_on m route t (on {u = u} r e l h) = Contains-append_right route.starts route.rest t h

-- nothing fires where nothing is enabled
pub nothing_is_sound : (m : DraftMachine) (now : Configuration) (truth : Truth) (event : Event) → IsSound m now truth event []
nothing_is_sound m now truth event = record {
  enabled = λ k d lt. absurd (omega arith);
  agree = λ p q inside. absurd (nothing_in_nil p inside);
  ranked = λ p q inside. absurd (nothing_in_nil p inside);
}

pub fires_without_enabled : (m : DraftMachine) (now : Configuration) (truth : Truth) (event : Event)
    → ((route : Route) → IsEnabled m now truth event route → ⊥) → IsFiring m now truth event []
fires_without_enabled m now truth event none = (
  record {
    sound = nothing_is_sound m now truth event;
    largest = λ others sound more p inside. absurd (none p (All-contains (IsEnabled m now truth event) others p sound.enabled inside));
  },
  none_in_order StartsBefore,
)

pub fires_only_enabled : (m : DraftMachine) (now : Configuration) (truth : Truth) (event : Event) (routes : List Route)
    → ((route : Route) → IsEnabled m now truth event route → ⊥) → IsFiring m now truth event routes → routes ≡ []
fires_only_enabled m now truth event [] none h = refl
fires_only_enabled m now truth event (p ∷ ps) none h = absurd (none p (h.0.sound.enabled 0 p (omega arith)))

-- two routes from one source conflict
pub conflict_from_source : (m : DraftMachine) (Active : VertexId → Type 0) (p q : Route) (s : VertexId)
    → p ≢ q → IsSource m p s → IsSource m q s → Conflict m Active p q
conflict_from_source m Active p q s apart h g = (apart, inr (inr (inr (s, s, h, g, inl (inl refl)))))
