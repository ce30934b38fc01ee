-- The legs of a route: the parts into which forks, joins and connection points cut it. A leg is named by any one of its transitions.
use Rattle.std.specs.Prelude.{◌≡◌, ◌≢◌, ◌⊎◌, ◌++◌, List, Some, Contains}
use Rattle.std.specs.Option.{option_map}
use Rattle.pssm_model.specs.declared.ids.VertexId.{VertexId}
use Rattle.pssm_model.specs.declared.ids.RegionId.{RegionId}
use Rattle.pssm_model.specs.declared.ids.TransId.{TransId}
use Rattle.pssm_model.specs.declared.elements.DraftMachine.{DraftMachine}
use Rattle.pssm_model.specs.declared.elements.TransKind.{TransKind}
use Rattle.pssm_model.specs.declared.elements.TransKind.TheVariants.{Local, Internal}
use Rattle.pssm_model.specs.declared.elements.VertexKind.TheVariants as kinds
use Rattle.pssm_model.specs.declared.elements.Owner.TheVariants.{Region, State}
use Rattle.pssm_model.specs.declared.steps.Route.{Route}
use Rattle.pssm_model.specs.Forest.{transition_at, HasKind, IsStateOrFinal, owner_of, IsScope, LiesInRegion, LiesInState}

-- all transitions of a route (UML 2.5.1 14.2.3.8, compound transitions)
abbrev pub transitions_of : Route → List TransId
transitions_of route = route.starts ++ route.rest

-- The vertex is the source of the transition (UML 2.5.1 14.2.3.8, transitions).
abbrev pub Leaves : DraftMachine → TransId → VertexId → Type 0
Leaves m t v = option_map (λ x. x.source) (transition_at m t) ≡ Some v

-- The vertex is the target of the transition (UML 2.5.1 14.2.3.8, transitions).
abbrev pub Enters : DraftMachine → TransId → VertexId → Type 0
Enters m t v = option_map (λ x. x.target) (transition_at m t) ≡ Some v

-- The transition is external, local or internal (UML 2.5.1 14.5.12, transition kinds).
abbrev pub Goes : DraftMachine → TransId → TransKind → Type 0
Goes m t kind = option_map (λ x. x.kind) (transition_at m t) ≡ Some kind

-- The transition is one of the route (UML 2.5.1 14.2.3.8, compound transitions).
abbrev pub On : Route → TransId → Type 0
On route t = Contains (transitions_of route) t

-- The transitions meet at a junction, enter one join, or leave one fork (UML 2.5.1 14.2.3.7, junction, join and fork; the legs are this profile's choice).
abbrev pub AreJoined : DraftMachine → TransId → TransId → Type 0
AreJoined m t u =
    ((v : VertexId) × HasKind m v kinds.Junction × Enters m t v × Leaves m u v)
    ⊎ ((v : VertexId) × HasKind m v kinds.Junction × Leaves m t v × Enters m u v)
    ⊎ ((v : VertexId) × HasKind m v kinds.Join × Enters m t v × Enters m u v)
    ⊎ ((v : VertexId) × HasKind m v kinds.Fork × Leaves m t v × Leaves m u v)

-- two transitions of one leg (this profile's choice)
pub data SameLeg (m : DraftMachine) (route : Route) : TransId → TransId → Type 0 where
  itself : {t : TransId} → On route t → SameLeg m route t t
  joined : {t u w : TransId} → On route t → AreJoined m t u → SameLeg m route u w → SameLeg m route t w

-- a pseudostate at which a route is cut into legs (this profile's choice)
abbrev pub IsCut : DraftMachine → VertexId → Type 0
IsCut m v = HasKind m v kinds.Fork ⊎ HasKind m v kinds.Join ⊎ HasKind m v kinds.EntryPoint ⊎ HasKind m v kinds.ExitPoint

-- An end of the first leg is where the second begins (this profile's choice).
abbrev pub NextLeg : DraftMachine → Route → TransId → TransId → Type 0
NextLeg m route t u =
    (a b : TransId) × (v : VertexId) × SameLeg m route t a × SameLeg m route b u × IsCut m v × Enters m a v × Leaves m b v

-- A chain of legs leads from an end of the first to the second (this profile's choice).
pub data LaterLeg (m : DraftMachine) (route : Route) : TransId → TransId → Type 0 where
  next : {t u : TransId} → NextLeg m route t u → LaterLeg m route t u
  after : {t u w : TransId} → NextLeg m route t u → LaterLeg m route u w → LaterLeg m route t w

-- where the chains of the leg end: at no junction (this profile's choice)
abbrev pub IsLastVertex : DraftMachine → Route → TransId → VertexId → Type 0
IsLastVertex m route t v = (u : TransId) × SameLeg m route t u × Enters m u v × (HasKind m v kinds.Junction → ⊥)

-- The leg begins as a local transition out of the State does (UML 2.5.1 14.5.12, local transitions).
abbrev pub IsLocalFrom : DraftMachine → Route → TransId → VertexId → Type 0
IsLocalFrom m route t s = (u : TransId) × SameLeg m route t u × Leaves m u s × HasKind m s kinds.State × Goes m u Local

-- The leg is an internal transition, which leaves and enters a State and so is joined to no other (UML 2.5.1 14.5.12, internal transitions).
abbrev pub IsInternal : DraftMachine → Route → TransId → Type 0
IsInternal m route t = On route t × Goes m t Internal

-- a vertex at which a transition of the leg begins or ends (this profile's choice)
abbrev pub IsOfLeg : DraftMachine → Route → TransId → VertexId → Type 0
IsOfLeg m route t v = (u : TransId) × SameLeg m route t u × (Leaves m u v ⊎ Enters m u v)

-- an entry or exit point (UML 2.5.1 14.2.3.7, entryPoint and exitPoint)
abbrev pub IsPoint : DraftMachine → VertexId → Type 0
IsPoint m v = HasKind m v kinds.EntryPoint ⊎ HasKind m v kinds.ExitPoint

-- where a leg exits and enters: nowhere, in a State, or in a region (this profile's choice)
pub data Scope : Type 0 where
  Nowhere : Scope
  Inside : VertexId → Scope
  Within : RegionId → Scope

-- The vertex lies there (this profile's choice).
abbrev pub LiesInScope : DraftMachine → VertexId → Scope → Type 0
LiesInScope m v Nowhere = ⊥
LiesInScope m v (Inside s) = LiesInState m v s
LiesInScope m v (Within r) = LiesInRegion m v r

-- The leg begins at this entry point of the State, or ends on this exit point of it (UML 2.5.1 14.2.3.7, entryPoint and exitPoint).
abbrev pub PassesPoint : DraftMachine → Route → TransId → VertexId → VertexId → Type 0
PassesPoint m route t point s =
    (owner_of m (State point) ≡ Some (State s))
    × ((u : TransId) × SameLeg m route t u × ((HasKind m point kinds.EntryPoint × Leaves m u point) ⊎ (HasKind m point kinds.ExitPoint × Enters m u point)))

-- The leg begins at some entry point or ends on some exit point (UML 2.5.1 14.2.3.7, entryPoint and exitPoint).
abbrev pub PassesSomePoint : DraftMachine → Route → TransId → Type 0
PassesSomePoint m route t = (v s : VertexId) × PassesPoint m route t v s

-- where a leg exits and enters: nowhere, in the State that it leaves locally, in the region of the State whose point it passes in which
-- its other vertices lie, and else in the innermost region in which all its vertices lie
-- (UML 2.5.1 14.2.3.9, transition execution sequence: the least common ancestor; for legs this profile's choice)
pub data LegScope (m : DraftMachine) (route : Route) (t : TransId) : Scope → Type 0 where
  internal : IsInternal m route t → LegScope m route t Nowhere
  local : {s : VertexId} → IsLocalFrom m route t s → LegScope m route t (Inside s)
  point : {s v : VertexId} {r : RegionId} → PassesPoint m route t v s → owner_of m (Region r) ≡ Some (State s)
      → ((w : VertexId) → IsOfLeg m route t w → w ≢ v → LiesInRegion m w r) → LegScope m route t (Within r)
  other : {r : RegionId} → On route t
      → (IsInternal m route t → ⊥)
      → ((s : VertexId) → IsLocalFrom m route t s → ⊥)
      → (PassesSomePoint m route t → ⊥)
      → IsScope m (IsOfLeg m route t) r
      → LegScope m route t (Within r)

-- an active State in the scope of the leg (UML 2.5.1 14.2.3.9, transition execution sequence)
abbrev pub WouldExit : DraftMachine → (VertexId → Type 0) → Route → TransId → VertexId → Type 0
WouldExit m Active route t s = Active s × ((scope : Scope) × LegScope m route t scope × LiesInScope m s scope)

-- the exits of a leg: a State that an earlier leg of the route exits is not exited again (UML 2.5.1 14.2.3.4, exiting a State; for legs this profile's choice)
abbrev pub LegExits : DraftMachine → (VertexId → Type 0) → Route → TransId → VertexId → Type 0
LegExits m Active route t s =
    WouldExit m Active route t s × ((u : TransId) → LaterLeg m route u t → WouldExit m Active route u s → ⊥)

-- the exits of a route: those of all its legs (UML 2.5.1 14.2.3.4, exiting a State)
abbrev pub Exits : DraftMachine → (VertexId → Type 0) → Route → VertexId → Type 0
Exits m Active route s = (t : TransId) × On route t × LegExits m Active route t s

-- Nothing is entered for a terminate or exit point, nor for a join (UML 2.5.1 14.2.3.7, terminate, exitPoint and join).
abbrev pub IsEnteredFor : DraftMachine → VertexId → Type 0
IsEnteredFor m v = (HasKind m v kinds.Terminate → ⊥) × (HasKind m v kinds.ExitPoint → ⊥) × (HasKind m v kinds.Join → ⊥)

-- what stands at the end: the State or final state itself, or the State of an entry point (UML 2.5.1 14.2.3.4, entering a State)
abbrev pub IsEndState : DraftMachine → VertexId → VertexId → Type 0
IsEndState m v s = (IsStateOrFinal m v × (s ≡ v)) ⊎ (HasKind m v kinds.EntryPoint × (owner_of m (State v) ≡ Some (State s)))

-- the entries of a leg: each State of its scope in which a last vertex lies, and what stands at the end; an internal leg enters nothing
-- (UML 2.5.1 14.2.3.4, entering a State; for legs this profile's choice)
abbrev pub LegEnters : DraftMachine → Route → TransId → VertexId → Type 0
LegEnters m route t s =
    (v : VertexId) × IsLastVertex m route t v × IsEnteredFor m v × (IsInternal m route t → ⊥)
    × (((scope : Scope) × LegScope m route t scope × LiesInScope m s scope × LiesInState m v s) ⊎ IsEndState m v s)
