-- When transitions are started together, and how that enables a route.
use Rattle.std.proofs.Common.{◌≡◌, ◌∙◌, ◌<◌, ◌↔◌, List, [], ◌∷◌, length, get_or, All, Contains, refl, sym, ap, subst, inl, inr, ⊎_elim, arith}
use Rattle.pssm_model.specs.declared.ids.VertexId.{VertexId}
use Rattle.pssm_model.specs.declared.ids.TransId.{TransId}
use Rattle.pssm_model.specs.declared.elements.DraftMachine.{DraftMachine}
use Rattle.pssm_model.specs.declared.elements.VertexKind.TheVariants as kinds
use Rattle.pssm_model.specs.declared.steps.Event.{Event}
use Rattle.pssm_model.specs.declared.steps.Event.TheVariants.{Signal, Completion}
use Rattle.pssm_model.specs.Forest.{HasKind}
use Rattle.pssm_model.specs.Configuration.{Configuration, IsComplete}
use Rattle.pssm_model.specs.Legs.{Leaves, On}
use Rattle.pssm_model.specs.Routes.{Truth, IsTrueAt, IsRoute, IsStateRoute, IsEnabledBy, IsEnabled, HasNoTrigger}
use Rattle.pssm_model.proofs.ElementLaws.{leaves_one, same_vertex}
use Rattle.pssm_model.proofs.RouteLaws.{in_one, is_one}
use Rattle.pssm_model_laws.proofs.StateRoutes.{leaves_some}
use Rattle.std.proofs.lemmas.Bool.{cases_eq}
use Rattle.std.proofs.lemmas.List.Elements.{All-contains}
use Rattle.pssm_model_laws.proofs.Through.{not_through}
use Rattle.pssm_enabled.specs.Fitting.{route_with, StartsOutside}
use Rattle.pssm_enabled.specs.Starts.{IsCausedBy, IsLeftBy, AreCausedBy, AreStarted}
use Rattle.pssm_enabled.specs.inner.Started.{IsStarted, IsReady, JoinsIn}

module _ (m : DraftMachine) (now : Configuration) where
  -- one transition alone
  module _ (t : TransId) where
    one_left : (s q : VertexId) → Leaves m t s → IsLeftBy m (t ∷ []) q → s ≡ q
    one_left s q leaves (u, inside, left) = leaves_one m t s q leaves (subst (λ x. Leaves m x q) (is_one t u inside) left)

    one_caused : (event : Event) (s : VertexId) → Leaves m t s → IsCausedBy m event t s → AreCausedBy m now event (t ∷ [])
    one_caused (Signal signal) s leaves h = (t, refl, h)
    one_caused (Completion q) s leaves h = (
      (t, in_one t, subst (Leaves m t) (sym h.0) leaves),
      λ u inside. subst (HasNoTrigger m) (sym (is_one t u inside)) h.1,
      λ r left other. absurd (other (let same = one_left s r leaves left in let is = h.0 in cc)),
    )

    caused_one : (event : Event) (s : VertexId) → Leaves m t s → AreCausedBy m now event (t ∷ []) → IsCausedBy m event t s
    caused_one (Signal signal) s leaves (u, same, lists) = let is : u ≡ t = cc (same) in subst (λ x. IsCausedBy m (Signal signal) x s) is lists
    caused_one (Completion q) s leaves (left, untriggered, complete) = (sym (one_left s q leaves left), untriggered t (in_one t))

    pub one_started : (event : Event) → ((s : VertexId) × IsStarted m now event t s) → AreStarted m now event (t ∷ [])
    one_started event (s, h) = record {
      states = λ q left. subst (λ v. HasKind m v kinds.State) (one_left s q h.leaves left) h.state;
      active = λ q left. subst now.Active (one_left s q h.leaves left) h.active;
      caused = one_caused event s h.leaves h.caused;
    }

    pub started_one : (event : Event) (s : VertexId) → Leaves m t s → AreStarted m now event (t ∷ []) → (q : VertexId) × IsStarted m now event t q
    started_one event s leaves h = (
      s,
      record {
        leaves = leaves;
        state = h.states s (t, in_one t, leaves);
        active = h.active s (t, in_one t, leaves);
        caused = caused_one event s leaves h.caused;
      },
    )

  -- by a completion
  pub completed_starts : (s : VertexId) (starts : List TransId) → IsLeftBy m starts s → ((t : TransId) → Contains starts t → JoinsIn m now s t)
      → AreStarted m now (Completion s) starts
  completed_starts s starts left joins = record {
    states = λ q by. (joins by.0 by.1).state q by.2;
    active = λ q by. (joins by.0 by.1).active q by.2;
    caused = (left, λ t inside. (joins t inside).untriggered, λ q by other. (joins by.0 by.1).complete q by.2 other);
  }

  pub started_completes : (s : VertexId) (starts : List TransId) → AreStarted m now (Completion s) starts
      → IsLeftBy m starts s × ((t : TransId) → Contains starts t → JoinsIn m now s t)
  started_completes s starts h = (
    h.caused.0,
    λ t inside. record {
      state = λ q leaves. h.states q (t, inside, leaves);
      active = λ q leaves. h.active q (t, inside, leaves);
      untriggered = h.caused.1 t inside;
      complete = λ q leaves other. h.caused.2 q (t, inside, leaves) other;
    },
  )

  -- by its source it joins in
  pub joins_is : (s q : VertexId) (t : TransId) → Leaves m t q
      → (HasNoTrigger m t → IsReady m now s q → JoinsIn m now s t) × (JoinsIn m now s t → IsReady m now s q)
  joins_is s q t leaves = (
    λ untriggered ready. record {
      state = λ r left. subst (λ v. HasKind m v kinds.State) (leaves_one m t q r leaves left) ready.0;
      active = λ r left. subst now.Active (leaves_one m t q r leaves left) ready.1;
      untriggered = untriggered;
      complete = λ r left other.
          ⊎_elim
          (λ same. absurd (other (sym (leaves_one m t q r leaves left) ∙ same)))
          (λ is. subst (IsComplete m now) (leaves_one m t q r leaves left) is)
          ready.2;
    },
    λ h. (
      h.state q leaves,
      h.active q leaves,
      ⊎_elim
          (λ same. inl (same_vertex q s same))
          (λ other. inr (h.complete q leaves (λ e. other (ap (λ (v : VertexId). v.0) e))))
          (cases_eq q.0 s.0),
    ),
  )

  pub no_signal_starts : (event : Event) (starts : List TransId) → ((t : TransId) → starts ≡ t ∷ [] → ⊥)
      → ((s : VertexId) → event ≡ Completion s → ⊥) → AreStarted m now event starts → ⊥
  no_signal_starts (Signal signal) starts several none h = several h.caused.0 h.caused.1
  no_signal_starts (Completion s) starts several none h = none s refl

  -- what is started leaves States
  pub started_outside : (event : Event) (starts : List TransId) → AreStarted m now event starts → StartsOutside m starts
  started_outside event starts h t v inside leaves through = not_through m v kinds.State (λ none. none) (h.states v (t, inside, leaves)) through

  enabled_by : (event : Event) (starts rest : List TransId) → AreStarted m now event starts → IsEnabledBy m now event (route_with starts rest)
  enabled_by (Signal signal) starts rest h = (h.caused.0, h.caused.1, h.caused.2, h.active)
  enabled_by (Completion s) starts rest h = (h.caused.0, h.caused.1, h.active, h.caused.2)

  started_by : (event : Event) (starts rest : List TransId) → ((s : VertexId) → IsLeftBy m starts s → HasKind m s kinds.State)
      → IsEnabledBy m now event (route_with starts rest) → AreStarted m now event starts
  started_by (Signal signal) starts rest states h = record { states = states; active = h.3; caused = (h.0, h.1, h.2) }
  started_by (Completion s) starts rest states h = record { states = states; active = h.2; caused = (h.0, h.1, h.3) }

  pub started_state_route : (event : Event) (starts rest : List TransId) → IsRoute m (route_with starts rest) × AreStarted m now event starts
      → IsStateRoute m (route_with starts rest)
  started_state_route event starts rest h = (h.0, h.1.states)

  -- an enabled route is a started one with true guards
  pub enabled_is : (truth : Truth) (event : Event) (starts rest : List TransId) → IsEnabled m now truth event (route_with starts rest)
      ↔ ((IsRoute m (route_with starts rest) × AreStarted m now event starts) × ((t : TransId) → On (route_with starts rest) t → IsTrueAt m truth t))
  enabled_is truth event starts rest = (
    λ h. ((h.route_of_states.0, started_by event starts rest h.route_of_states.1 h.by_event), h.guards),
    λ h. record { route_of_states = started_state_route event starts rest h.0; by_event = enabled_by event starts rest h.0.1; guards = h.1 },
  )

-- a list of one element
pub one_of_length : {X : Type 0} (xs : List X) (d : X) → length xs ≡ 1 → xs ≡ get_or xs 0 d ∷ []
one_of_length [] d long = absurd (omega (arith, long))
one_of_length (x ∷ []) d long = refl
one_of_length (x ∷ y ∷ ys) d long = absurd (omega (arith, long))

pub length_of_one : {X : Type 0} (xs : List X) (x : X) → xs ≡ x ∷ [] → length xs ≡ 1
length_of_one xs x same = ap length same

pub the_one : {X : Type 0} (xs : List X) (x y : X) → xs ≡ x ∷ [] → xs ≡ y ∷ [] → x ≡ y
the_one xs x y first second = cc (first, second)

-- the one start is there, and so leaves a vertex
pub started_here : (m : DraftMachine) (now : Configuration) (event : Event) (starts : List TransId) (t : TransId)
    → All (λ u. u.0 < length m.transitions) starts → starts ≡ t ∷ [] → AreStarted m now event starts → (s : VertexId) × IsStarted m now event t s
started_here m now event starts t there one h =
    let at = leaves_some m t (All-contains (λ (u : TransId). u.0 < length m.transitions) starts t there (subst (λ ts. Contains ts t) (sym one) (in_one t))) in
    started_one m now t event at.0 at.1 (subst (AreStarted m now event) one h)
