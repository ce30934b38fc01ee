-- The rules that every model keeps, each as what breaks it.
use Rattle.std.specs.Prelude.{◌≡◌, ◌≢◌, ◌⊎◌, ◌<◌, ℕ, List, [], ◌∷◌, Some, IsSomeAnd}
use Rattle.pssm_model.specs.declared.ids.VertexId.{VertexId}
use Rattle.pssm_model.specs.declared.ids.RegionId.{RegionId}
use Rattle.pssm_model.specs.declared.ids.TransId.{TransId}
use Rattle.pssm_model.specs.declared.elements.DraftMachine.{DraftMachine}
use Rattle.pssm_model.specs.declared.elements.VertexKind.{VertexKind}
use Rattle.pssm_model.specs.declared.elements.VertexKind.TheVariants as kinds
use Rattle.pssm_model.specs.declared.elements.Guard.TheVariants.{Always, Otherwise}
use Rattle.pssm_model.specs.declared.elements.TransKind.TheVariants.{Local, Internal}
use Rattle.pssm_model.specs.declared.elements.Owner.TheVariants.{Top, Region, State}
use Rattle.pssm_model.specs.declared.elements.FaultPlace.{FaultPlace}
use Rattle.pssm_model.specs.declared.elements.FaultPlace.TheVariants as places
use Rattle.pssm_model.specs.declared.elements.Element.TheVariants as elements
use Rattle.pssm_model.specs.Forest.{vertex_at, transition_at, HasKind, IsStateOrFinal, owner_of, LiesInRegion, LiesInState}
use Rattle.pssm_model.specs.Legs.{Leaves, Enters, Goes}
use Rattle.pssm_model.specs.Routes.{guard_of}
use Rattle.pssm_model.specs.FiringSets.{IsHistory, IsLateOrigin}
use Rattle.pssm_model.specs.Paths.{HasOut, HasIn, HasTwoOut, HasTwoIn, LacksOneOut, LacksOneIn, IsPseudostate, IsInitialOf, IsJunctionPath, IsOnPath, ComesAfter, Reaches, LeadsOn}

-- The transition has a guard; `else` is one (UML 2.5.1 14.2.3.8, guards).
abbrev pub HasGuard : DraftMachine → TransId → Type 0
HasGuard m t = IsSomeAnd (guard_of m t) (λ g. g ≢ Always)

-- Its guard is `else` (UML 2.5.1 14.2.3.7, junction and choice).
abbrev pub HasElse : DraftMachine → TransId → Type 0
HasElse m t = guard_of m t ≡ Some Otherwise

-- Some signal triggers it (UML 2.5.1 14.2.3.8, triggers).
abbrev pub HasTrigger : DraftMachine → TransId → Type 0
HasTrigger m t = IsSomeAnd (transition_at m t) (λ x. x.triggers ≢ [])

-- which vertices stand at the other ends of the transitions that meet at a vertex (this profile's choice)
abbrev pub Ends : Type 1
Ends = TransId → VertexId → Type 0

-- The ends lie in the State, and those of different transitions in different regions of it (UML 2.5.1 14.5.6, constraints on forks and joins).
pub record LieApart (m : DraftMachine) (s : VertexId) (ends : Ends) : Type 0 where
  pub inside : (t : TransId) (v : VertexId) → ends t v → LiesInState m v s
  pub apart : (t u : TransId) (v w : VertexId) (r : RegionId) → t ≢ u → ends t v → ends u w
      → owner_of m (Region r) ≡ Some (State s) → LiesInRegion m v r → LiesInRegion m w r → ⊥

-- They do so in some State that the region of the vertex owns (this profile's choice).
abbrev pub LieApartBeside : DraftMachine → VertexId → Ends → Type 0
LieApartBeside m v ends =
    (s : VertexId) × (r : RegionId) × HasKind m s kinds.State × (owner_of m (State s) ≡ Some (Region r)) × (owner_of m (State v) ≡ Some (Region r))
    × LieApart m s ends

-- The machine has no top region (UML 2.5.1 14.2.3.1, StateMachines have at least one region).
abbrev pub HasNoTopRegion : DraftMachine → Type 0
HasNoTopRegion m = (r : RegionId) → owner_of m (Region r) ≡ Some Top → ⊥

-- A top region has no initial vertex (this profile's choice).
abbrev pub IsTopWithoutInitial : DraftMachine → RegionId → Type 0
IsTopWithoutInitial m r = (owner_of m (Region r) ≡ Some Top) × ((v : VertexId) → IsInitialOf m r v → ⊥)

-- A region owns two vertices of the kind (UML 2.5.1 14.5.8, constraints on regions).
abbrev pub OwnsTwo : DraftMachine → RegionId → VertexKind → Type 0
OwnsTwo m r kind =
    (v w : VertexId) × (v ≢ w) × HasKind m v kind × HasKind m w kind
    × (owner_of m (State v) ≡ Some (Region r)) × (owner_of m (State w) ≡ Some (Region r))

-- A region owns two initial, two shallow history or two deep history vertices (UML 2.5.1 14.5.8, initial_vertex, shallow_ and deep_history_vertex).
abbrev pub OwnsTwoOfAKind : DraftMachine → RegionId → Type 0
OwnsTwoOfAKind m r = OwnsTwo m r kinds.Initial ⊎ OwnsTwo m r kinds.ShallowHistory ⊎ OwnsTwo m r kinds.DeepHistory

-- An initial vertex has not exactly one transition out, or has one in (UML 2.5.1 14.5.6, initial_vertex; stricter by this profile's choice).
abbrev pub IsBadInitial : DraftMachine → VertexId → Type 0
IsBadInitial m v = HasKind m v kinds.Initial × (LacksOneOut m v ⊎ HasIn m v)

-- A history vertex has two transitions out (UML 2.5.1 14.5.6, history_vertices).
abbrev pub IsBadHistory : DraftMachine → VertexId → Type 0
IsBadHistory m v = IsHistory m v × HasTwoOut m v

-- A join has fewer than two transitions in, or not exactly one out (UML 2.5.1 14.5.6, join_vertex).
abbrev pub IsBadJoin : DraftMachine → VertexId → Type 0
IsBadJoin m v = HasKind m v kinds.Join × ((HasTwoIn m v → ⊥) ⊎ LacksOneOut m v)

-- A fork has not exactly one transition in, or fewer than two out (UML 2.5.1 14.5.6, fork_vertex).
abbrev pub IsBadFork : DraftMachine → VertexId → Type 0
IsBadFork m v = HasKind m v kinds.Fork × (LacksOneIn m v ⊎ (HasTwoOut m v → ⊥))

-- A segment into the join has a guard or trigger, or leaves no State (UML 2.5.1 14.5.11, join_segment_guards and join_segment_state).
abbrev pub HasBadSegmentIn : DraftMachine → VertexId → Type 0
HasBadSegmentIn m v =
    (t : TransId) × Enters m t v × (HasGuard m t ⊎ HasTrigger m t ⊎ ((s : VertexId) → Leaves m t s → HasKind m s kinds.State → ⊥))

-- The sources of the join do not lie in different regions of a State beside it (UML 2.5.1 14.5.6, transitions_incoming).
abbrev pub HasSourcesTogether : DraftMachine → VertexId → Type 0
HasSourcesTogether m v = LieApartBeside m v (λ t s. Enters m t v × Leaves m t s) → ⊥

-- a join with one or the other (UML 2.5.1 14.2.3.7, join)
abbrev pub JoinsBadly : DraftMachine → VertexId → Type 0
JoinsBadly m v = HasKind m v kinds.Join × (HasBadSegmentIn m v ⊎ HasSourcesTogether m v)

-- A segment out of the fork has a guard, or ends on no State or final state (UML 2.5.1 14.5.11, fork_segment_guards and fork_segment_state).
abbrev pub HasBadSegmentOut : DraftMachine → VertexId → Type 0
HasBadSegmentOut m v = (t : TransId) × Leaves m t v × (HasGuard m t ⊎ ((s : VertexId) → Enters m t s → IsStateOrFinal m s → ⊥))

-- The targets of the fork do not lie in different regions of a State beside it (UML 2.5.1 14.5.6, transitions_outgoing).
abbrev pub HasTargetsTogether : DraftMachine → VertexId → Type 0
HasTargetsTogether m v = LieApartBeside m v (λ t s. Leaves m t v × Enters m t s) → ⊥

-- a fork with one or the other (UML 2.5.1 14.2.3.7, fork)
abbrev pub ForksBadly : DraftMachine → VertexId → Type 0
ForksBadly m v = HasKind m v kinds.Fork × (HasBadSegmentOut m v ⊎ HasTargetsTogether m v)

-- a junction or choice (UML 2.5.1 14.2.3.7, junction and choice)
abbrev pub IsBranch : DraftMachine → VertexId → Type 0
IsBranch m v = HasKind m v kinds.Junction ⊎ HasKind m v kinds.Choice

-- A junction or choice has no transition in, or none out (UML 2.5.1 14.5.6, junction_vertex and choice_vertex).
abbrev pub IsOpenEnded : DraftMachine → VertexId → Type 0
IsOpenEnded m v = IsBranch m v × ((HasIn m v → ⊥) ⊎ (HasOut m v → ⊥))

-- a vertex whose transitions have no guard (UML 2.5.1 14.5.6 and 14.5.11, outgoing_from_initial; for history and entry points this profile's choice)
abbrev pub IsUnguardedKind : DraftMachine → VertexId → Type 0
IsUnguardedKind m v = HasKind m v kinds.Initial ⊎ IsHistory m v ⊎ HasKind m v kinds.EntryPoint

-- A transition out of a pseudostate has a trigger, or one out of an initial, history or entry point has a guard
-- (UML 2.5.1 14.5.11, outgoing_pseudostates and initial_transition).
abbrev pub IsTriggeredWrongly : DraftMachine → TransId → Type 0
IsTriggeredWrongly m t =
    (v : VertexId) × Leaves m t v × ((IsPseudostate m v × HasTrigger m t) ⊎ (IsUnguardedKind m v × HasGuard m t))

-- It owns a region or a connection point (UML 2.5.1 14.5.2, constraints on final states).
abbrev pub OwnsSome : DraftMachine → VertexId → Type 0
OwnsSome m v = ((r : RegionId) × (owner_of m (Region r) ≡ Some (State v))) ⊎ ((p : VertexId) × (owner_of m (State p) ≡ Some (State v)))

-- It has an entry, exit or do behaviour or a deferred signal (UML 2.5.1 14.5.2, constraints on final states).
abbrev pub Behaves : DraftMachine → VertexId → Type 0
Behaves m v = IsSomeAnd (vertex_at m v) (λ x. (x.entry.0 ≢ 0) ⊎ (x.exit.0 ≢ 0) ⊎ (x.steps ≢ []) ⊎ (x.defers ≢ []))

-- A final state has a transition out, a region, a connection point, a behaviour or a deferred signal (UML 2.5.1 14.5.2, constraints on final states).
abbrev pub IsBadFinal : DraftMachine → VertexId → Type 0
IsBadFinal m v = HasKind m v kinds.Final × (HasOut m v ⊎ OwnsSome m v ⊎ Behaves m v)

-- A terminate vertex has a transition out (UML 2.5.1 14.2.3.7, terminate).
abbrev pub IsBadTerminate : DraftMachine → VertexId → Type 0
IsBadTerminate m v = HasKind m v kinds.Terminate × HasOut m v

-- An internal transition leaves no State, or does not end on its source (UML 2.5.1 14.5.11, state_is_internal).
abbrev pub IsBadInternal : DraftMachine → TransId → Type 0
IsBadInternal m t =
    Goes m t Internal × ((v : VertexId) × Leaves m t v × ((HasKind m v kinds.State → ⊥) ⊎ (Enters m t v → ⊥)))

-- the State from which a transition may go locally: its source, or the State of the entry point that it leaves (UML 2.5.1 14.5.12, local transitions)
abbrev pub LeavesLocally : DraftMachine → TransId → VertexId → Type 0
LeavesLocally m t s =
    (Leaves m t s × HasKind m s kinds.State)
    ⊎ ((p : VertexId) × Leaves m t p × HasKind m p kinds.EntryPoint × (owner_of m (State p) ≡ Some (State s)))

-- A local transition leaves neither a State nor an entry point, or a junction path that begins with it comes to a vertex outside the State
-- (UML 2.5.1 14.5.11, state_is_local).
abbrev pub IsBadLocal : DraftMachine → TransId → Type 0
IsBadLocal m t =
    Goes m t Local
    × (((s : VertexId) → LeavesLocally m t s → ⊥)
    ⊎ ((s v : VertexId) × (rest : List TransId) × LeavesLocally m t s × IsJunctionPath m (t ∷ rest) v × (LiesInState m v s → ⊥)))

-- The targets of an entry point do not lie in different regions of its State (UML 2.5.1 14.2.3.7, entryPoint).
abbrev pub IsBadEntryPoint : DraftMachine → VertexId → Type 0
IsBadEntryPoint m v =
    HasKind m v kinds.EntryPoint
    × ((s : VertexId) → owner_of m (State v) ≡ Some (State s) → LieApart m s (λ t w. Leaves m t v × Enters m t w) → ⊥)

-- A transition out of the exit point ends in its State (UML 2.5.1 14.2.3.7, exitPoint).
abbrev pub StaysInside : DraftMachine → VertexId → Type 0
StaysInside m v = (t : TransId) × (w s : VertexId) × Leaves m t v × Enters m t w × (owner_of m (State v) ≡ Some (State s)) × LiesInState m w s

-- The other vertices of the path lie in the region (this profile's choice).
abbrev pub HoldsRestOfPath : DraftMachine → List TransId → VertexId → RegionId → Type 0
HoldsRestOfPath m path v r = (w : VertexId) → IsOnPath m path w → w ≢ v → LiesInRegion m w r

-- They lie in one region of the State (this profile's choice).
abbrev pub KeepsToOneRegion : DraftMachine → List TransId → VertexId → VertexId → Type 0
KeepsToOneRegion m path v s = (r : RegionId) × (owner_of m (Region r) ≡ Some (State s)) × HoldsRestOfPath m path v r

-- Some junction path to it does not keep to one region of its State (UML 2.5.1 14.2.3.7, exitPoint).
abbrev pub HasStrayPathIn : DraftMachine → VertexId → Type 0
HasStrayPathIn m v =
    (s : VertexId) × (path : List TransId) × (owner_of m (State v) ≡ Some (State s)) × IsJunctionPath m path v × (KeepsToOneRegion m path v s → ⊥)

-- an exit point with any of these, or with not exactly one transition out (UML 2.5.1 14.2.3.7, exitPoint)
abbrev pub IsBadExitPoint : DraftMachine → VertexId → Type 0
IsBadExitPoint m v = HasKind m v kinds.ExitPoint × (LacksOneOut m v ⊎ StaysInside m v ⊎ HasStrayPathIn m v)

-- A transition has `else` and leaves no junction or choice, or is not the first such of its source (UML 2.5.1 14.2.3.7, junction and choice).
abbrev pub IsBadElse : DraftMachine → TransId → Type 0
IsBadElse m t =
    HasElse m t × ((v : VertexId) × Leaves m t v × ((IsBranch m v → ⊥) ⊎ ((u : TransId) × (u.0 < t.0) × Leaves m u v × HasElse m u)))

-- Some transition out of it has `else` or no guard, so that there is always a way on (UML 2.5.1 14.2.3.7, choice).
abbrev pub HasSureBranch : DraftMachine → VertexId → Type 0
HasSureBranch m v = (t : TransId) × Leaves m t v × (HasElse m t ⊎ (guard_of m t ≡ Some Always))

-- a choice, or a junction to which pseudostates alone lead from an initial, history or choice vertex, so that a step comes to it within itself
-- (UML 2.5.1 14.2.3.7, choice; the junctions are this profile's choice)
abbrev pub IsComeToLate : DraftMachine → VertexId → Type 0
IsComeToLate m v = HasKind m v kinds.Choice ⊎ (HasKind m v kinds.Junction × ((w : VertexId) × IsLateOrigin m w × Reaches m w v))

-- A step may come to it and find no branch that is open (UML 2.5.1 14.2.3.7, choice).
abbrev pub MayFindNoBranch : DraftMachine → VertexId → Type 0
MayFindNoBranch m v = (HasSureBranch m v → ⊥) × IsComeToLate m v

-- A pseudostate lies on a cycle of pseudostates (this profile's choice).
abbrev pub IsOnCycle : DraftMachine → VertexId → Type 0
IsOnCycle m v = LeadsOn m v v

-- Some vertex after the beginning of an inner path that begins with the transition lies outside the region (this profile's choice).
abbrev pub LeavesRegion : DraftMachine → TransId → RegionId → Type 0
LeavesRegion m t r = (w : VertexId) × ComesAfter m t w × (LiesInRegion m w r → ⊥)

-- An inner path from an initial, history or choice vertex leaves its region, or one from an entry point the region of its State in which
-- the path's first transition ends (UML 2.5.1 14.5.6, initial_vertex and history_vertices; for choices and entry points this profile's choice).
abbrev pub GoesOutside : DraftMachine → VertexId → Type 0
GoesOutside m v =
    (IsLateOrigin m v × ((t : TransId) × (r : RegionId) × Leaves m t v × (owner_of m (State v) ≡ Some (Region r)) × LeavesRegion m t r))
    ⊎ (HasKind m v kinds.EntryPoint
    × ((t : TransId) × (w s : VertexId) × (r : RegionId) × Leaves m t v × Enters m t w × (owner_of m (State v) ≡ Some (State s))
    × (owner_of m (Region r) ≡ Some (State s)) × LiesInRegion m w r × LeavesRegion m t r))

-- Some region has both vertices in it (UML 2.5.1 14.2.3.2, nested regions).
abbrev pub ShareRegion : DraftMachine → VertexId → VertexId → Type 0
ShareRegion m v w = (r : RegionId) × LiesInRegion m v r × LiesInRegion m w r

-- The ends of a transition share no region, or it ends on a join and leaves no State (UML 2.5.1 14.2.3.8, transitions; this profile's choice).
abbrev pub ConnectsBadly : DraftMachine → TransId → Type 0
ConnectsBadly m t =
    (v w : VertexId) × Leaves m t v × Enters m t w × ((ShareRegion m v w → ⊥) ⊎ (HasKind m w kinds.Join × (HasKind m v kinds.State → ⊥)))

-- The place breaks the rule with the number (the list of rules is this profile's choice).
pub data Breaks (m : DraftMachine) : FaultPlace → ℕ → Type 0 where
  E01_top : HasNoTopRegion m → Breaks m places.Top 1
  E01 : {r : RegionId} → IsTopWithoutInitial m r → Breaks m (places.At (elements.Region r)) 1
  E02 : {r : RegionId} → OwnsTwoOfAKind m r → Breaks m (places.At (elements.Region r)) 2
  E03 : {v : VertexId} → IsBadInitial m v → Breaks m (places.At (elements.Vertex v)) 3
  E04 : {v : VertexId} → IsBadHistory m v → Breaks m (places.At (elements.Vertex v)) 4
  E05 : {v : VertexId} → IsBadJoin m v → Breaks m (places.At (elements.Vertex v)) 5
  E06 : {v : VertexId} → IsBadFork m v → Breaks m (places.At (elements.Vertex v)) 6
  E07 : {v : VertexId} → JoinsBadly m v → Breaks m (places.At (elements.Vertex v)) 7
  E08 : {v : VertexId} → ForksBadly m v → Breaks m (places.At (elements.Vertex v)) 8
  E09 : {v : VertexId} → IsOpenEnded m v → Breaks m (places.At (elements.Vertex v)) 9
  E10 : {t : TransId} → IsTriggeredWrongly m t → Breaks m (places.At (elements.Transition t)) 10
  E11 : {v : VertexId} → IsBadFinal m v → Breaks m (places.At (elements.Vertex v)) 11
  E12 : {v : VertexId} → IsBadTerminate m v → Breaks m (places.At (elements.Vertex v)) 12
  E13 : {t : TransId} → IsBadInternal m t → Breaks m (places.At (elements.Transition t)) 13
  E14 : {t : TransId} → IsBadLocal m t → Breaks m (places.At (elements.Transition t)) 14
  E15 : {v : VertexId} → IsBadEntryPoint m v → Breaks m (places.At (elements.Vertex v)) 15
  E16 : {v : VertexId} → IsBadExitPoint m v → Breaks m (places.At (elements.Vertex v)) 16
  E17 : {t : TransId} → IsBadElse m t → Breaks m (places.At (elements.Transition t)) 17
  E18 : {v : VertexId} → MayFindNoBranch m v → Breaks m (places.At (elements.Vertex v)) 18
  E19 : {v : VertexId} → IsOnCycle m v → Breaks m (places.At (elements.Vertex v)) 19
  E20 : {v : VertexId} → GoesOutside m v → Breaks m (places.At (elements.Vertex v)) 20
  E21 : {t : TransId} → ConnectsBadly m t → Breaks m (places.At (elements.Transition t)) 21

-- No rule is broken anywhere (the list of rules is this profile's choice).
abbrev pub KeepsModelRules : DraftMachine → Type 0
KeepsModelRules m = (place : FaultPlace) (n : ℕ) → Breaks m place n → ⊥
