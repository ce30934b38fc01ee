-- Which sets of transitions are routes, and which of them are enabled, conflict or have priority.
use Rattle.std.specs.Prelude.{◌≡◌, ◌≢◌, ◌⊎◌, ◌<◌, List, [], ◌∷◌, length, Bool, true, Option, Some, All, Contains, IsSomeAnd, AllPairs}
use Rattle.std.specs.Option.{option_map}
use Rattle.pssm_model.specs.declared.ids.VertexId.{VertexId}
use Rattle.pssm_model.specs.declared.ids.TransId.{TransId}
use Rattle.pssm_model.specs.declared.ids.GuardId.{GuardId}
use Rattle.pssm_model.specs.declared.ids.SignalId.{SignalId}
use Rattle.pssm_model.specs.declared.elements.DraftMachine.{DraftMachine}
use Rattle.pssm_model.specs.declared.elements.VertexKind.{VertexKind}
use Rattle.pssm_model.specs.declared.elements.VertexKind.TheVariants as kinds
use Rattle.pssm_model.specs.declared.elements.Guard.{Guard}
use Rattle.pssm_model.specs.declared.elements.Guard.TheVariants.{Always, Otherwise, When}
use Rattle.pssm_model.specs.declared.steps.Route.{Route}
use Rattle.pssm_model.specs.declared.steps.Event.{Event}
use Rattle.pssm_model.specs.declared.steps.Event.TheVariants.{Signal, Completion}
use Rattle.pssm_model.specs.Forest.{transition_at, HasKind, LiesInState, IsOrLiesIn}
use Rattle.pssm_model.specs.Configuration.{Configuration, IsComplete}
use Rattle.pssm_model.specs.Legs.{Leaves, Enters, On, transitions_of, Exits}

-- the values of the guards (UML 2.5.1 14.2.3.8, guards)
abbrev pub Truth : Type 0
Truth = GuardId → Bool

-- the guard of a transition (UML 2.5.1 14.2.3.8, guards)
abbrev pub guard_of : DraftMachine → TransId → Option Guard
guard_of m t = option_map (λ x. x.guard) (transition_at m t)

-- A missing guard is true, and another by its value (UML 2.5.1 14.2.3.8, guards).
abbrev pub HasTrueValue : DraftMachine → Truth → TransId → Type 0
HasTrueValue m truth t = (guard_of m t ≡ Some Always) ⊎ ((g : GuardId) × (guard_of m t ≡ Some (When g)) × (truth g ≡ true))

-- `else` is true where no other transition out of the same vertex has a true guard (UML 2.5.1 14.2.3.7, junction and choice).
abbrev pub IsTrueAt : DraftMachine → Truth → TransId → Type 0
IsTrueAt m truth t =
    HasTrueValue m truth t
    ⊎ ((guard_of m t ≡ Some Otherwise) × ((u : TransId) (v : VertexId) → u ≢ t → Leaves m t v → Leaves m u v → HasTrueValue m truth u → ⊥))

-- Exactly one of the transitions leaves the vertex (UML 2.5.1 14.2.3.7, junction).
abbrev pub HasOne : DraftMachine → List TransId → VertexId → Type 0
HasOne m ts v = (t : TransId) × Contains ts t × Leaves m t v × ((u : TransId) → Contains ts u → Leaves m u v → u ≡ t)

-- All transitions out of the vertex are among them (UML 2.5.1 14.2.3.7, fork and entryPoint).
abbrev pub HasEvery : DraftMachine → List TransId → VertexId → Type 0
HasEvery m ts v = (t : TransId) → Leaves m t v → Contains ts t

-- The route ends at the vertex: no transition that it takes after its starts leaves it (UML 2.5.1 14.2.3.8, compound transitions).
abbrev pub EndsAt : DraftMachine → Route → VertexId → Type 0
EndsAt m route v = (t : TransId) → Contains route.rest t → Leaves m t v → ⊥

-- how a route goes on from a vertex of this kind (UML 2.5.1 14.2.3.7, pseudostates)
abbrev pub GoesOnAt : DraftMachine → Route → VertexId → VertexKind → Type 0
GoesOnAt m route v kinds.Junction = HasOne m (transitions_of route) v
GoesOnAt m route v kinds.Fork = HasEvery m (transitions_of route) v
GoesOnAt m route v kinds.EntryPoint = HasEvery m (transitions_of route) v
GoesOnAt m route v kinds.ExitPoint = HasEvery m (transitions_of route) v
GoesOnAt m route v kinds.Join = HasEvery m (transitions_of route) v
GoesOnAt m route v _ = EndsAt m route v

-- each once, in ascending number (this profile's choice)
abbrev pub IsAscending : List TransId → Type 0
IsAscending ts = AllPairs (λ t u. t.0 < u.0) ts

-- The route comes to the transition: it is a start, or begins where one that the route comes to ends (UML 2.5.1 14.2.3.8, compound transitions).
pub data IsReached (m : DraftMachine) (route : Route) : TransId → Type 0 where
  start : {t : TransId} → Contains route.starts t → IsReached m route t
  on : {t u : TransId} {v : VertexId} → IsReached m route u → Enters m u v → Leaves m t v → Contains route.rest t → IsReached m route t

-- The starts are one transition that does not end on a join, or all transitions into one join (UML 2.5.1 14.2.3.7, join).
abbrev pub HasStarts : DraftMachine → Route → Type 0
HasStarts m route =
    ((t : TransId) × (route.starts ≡ t ∷ []) × ((v : VertexId) → Enters m t v → HasKind m v kinds.Join → ⊥))
    ⊎ ((v : VertexId) × HasKind m v kinds.Join × ((t : TransId) → Contains route.starts t → Enters m t v) × ((t : TransId) → Enters m t v → Contains route.starts t))

-- transitions that are taken as one (UML 2.5.1 14.2.3.8, compound transitions)
pub record IsRoute (m : DraftMachine) (route : Route) : Type 0 where
  pub in_range : All (λ t. t.0 < length m.transitions) (transitions_of route)
  pub starts : HasStarts m route
  pub ascending : IsAscending route.starts × IsAscending route.rest
  pub apart : (t : TransId) → Contains route.starts t → Contains route.rest t → ⊥
  pub reached : (t : TransId) → On route t → IsReached m route t
  pub goes_on : (t : TransId) (v : VertexId) (kind : VertexKind) → On route t → Enters m t v → HasKind m v kind → GoesOnAt m route v kind

-- a vertex that a start of the route leaves (UML 2.5.1 14.2.3.8, transitions)
abbrev pub IsSource : DraftMachine → Route → VertexId → Type 0
IsSource m route s = (t : TransId) × Contains route.starts t × Leaves m t s

-- a route that starts at States (UML 2.5.1 14.2.3.8, compound transitions)
abbrev pub IsStateRoute : DraftMachine → Route → Type 0
IsStateRoute m route = IsRoute m route × ((s : VertexId) → IsSource m route s → HasKind m s kinds.State)

-- The signal triggers the transition (UML 2.5.1 14.2.3.8, triggers).
abbrev pub Lists : DraftMachine → TransId → SignalId → Type 0
Lists m t signal = IsSomeAnd (transition_at m t) (λ x. Contains x.triggers signal)

-- a transition without triggers (UML 2.5.1 14.2.3.8, completion transitions)
abbrev pub HasNoTrigger : DraftMachine → TransId → Type 0
HasNoTrigger m t = option_map (λ x. x.triggers) (transition_at m t) ≡ Some []

-- by a signal that its one start lists where its source is active, or by the completion of one of its sources where all are active
-- and the others complete (UML 2.5.1 14.2.3.9, enabled transitions)
abbrev pub IsEnabledBy : DraftMachine → Configuration → Event → Route → Type 0
IsEnabledBy m now (Signal signal) route =
    (t : TransId) × (route.starts ≡ t ∷ []) × Lists m t signal × ((s : VertexId) → IsSource m route s → now.Active s)
IsEnabledBy m now (Completion s) route =
    IsSource m route s
    × ((t : TransId) → Contains route.starts t → HasNoTrigger m t)
    × ((q : VertexId) → IsSource m route q → now.Active q)
    × ((q : VertexId) → IsSource m route q → q ≢ s → IsComplete m now q)

-- a route of States whose event is there and whose guards are true (UML 2.5.1 14.2.3.9, enabled transitions)
pub record IsEnabled (m : DraftMachine) (now : Configuration) (truth : Truth) (event : Event) (route : Route) : Type 0 where
  pub route_of_states : IsStateRoute m route
  pub by_event : IsEnabledBy m now event route
  pub guards : (t : TransId) → On route t → IsTrueAt m truth t

-- Two different routes exit the same State, one exits a source of the other, or a source of one is or lies in a source of the other
-- (UML 2.5.1 14.2.3.9, conflicting transitions; the last two are this profile's choice).
abbrev pub Conflict : DraftMachine → (VertexId → Type 0) → Route → Route → Type 0
Conflict m Active p q =
    (p ≢ q)
    × (((s : VertexId) × Exits m Active p s × Exits m Active q s)
    ⊎ ((s : VertexId) × Exits m Active p s × IsSource m q s)
    ⊎ ((s : VertexId) × Exits m Active q s × IsSource m p s)
    ⊎ ((s r : VertexId) × IsSource m p s × IsSource m q r × (IsOrLiesIn m s r ⊎ IsOrLiesIn m r s)))

-- A source of the first lies in a source of the second (UML 2.5.1 14.2.3.9, firing priorities).
abbrev pub HasPriority : DraftMachine → Route → Route → Type 0
HasPriority m p q = (s r : VertexId) × IsSource m p s × IsSource m q r × LiesInState m s r
