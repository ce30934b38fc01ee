-- When a draft is a machine, and at which element it fails to be one.
use Rattle.std.specs.Prelude.{◌≡◌, ◌⊎◌, ◌≤◌, ◌<◌, ℕ, length, Some}
use Rattle.pssm_model.specs.declared.ids.VertexId.{VertexId}
use Rattle.pssm_model.specs.declared.ids.RegionId.{RegionId}
use Rattle.pssm_model.specs.declared.ids.TransId.{TransId}
use Rattle.pssm_model.specs.declared.elements.DraftMachine.{DraftMachine}
use Rattle.pssm_model.specs.declared.elements.Vertex.{Vertex}
use Rattle.pssm_model.specs.declared.elements.Transition.{Transition}
use Rattle.pssm_model.specs.declared.elements.Owner.{Owner}
use Rattle.pssm_model.specs.declared.elements.Owner.TheVariants.{Top, Region, State}
use Rattle.pssm_model.specs.declared.elements.VertexKind.TheVariants as kinds
use Rattle.pssm_model.specs.declared.elements.Element.{Element}
use Rattle.pssm_model.specs.declared.elements.Element.TheVariants as elements
use Rattle.pssm_model.specs.declared.elements.Shape.{Shape}
use Rattle.pssm_model.specs.declared.elements.Shape.TheVariants as shapes
use Rattle.pssm_model.specs.Forest.{vertex_at, transition_at, owner_of, HasKind, HasRegionsAbove}
use Rattle.pssm_model.specs.Legs.{IsPoint}
use Rattle.pssm_model.specs.Limits.{IsWithinLimits}

-- At most 32 regions stand on the owner chain of the place (this profile's choice).
abbrev pub IsShallow : DraftMachine → Owner → Type 0
IsShallow m p = (n : ℕ) × (n ≤ 32) × HasRegionsAbove m p n

-- A region is owned by the machine or by a State (UML 2.5.1 14.5.8, region constraint owned).
abbrev pub OwnsRegion : DraftMachine → Owner → Type 0
OwnsRegion m Top = Unit {0}
OwnsRegion m (Region r) = ⊥
OwnsRegion m (State s) = HasKind m s kinds.State

-- A connection point is owned by a State, and every other vertex by a region (UML 2.5.1 14.2.3.3 and 14.2.3.7, vertices, entry and exit points).
abbrev pub OwnsVertex : DraftMachine → VertexId → Owner → Type 0
OwnsVertex m v Top = ⊥
OwnsVertex m v (Region r) = (IsPoint m v → ⊥) × (r.0 < length m.regions)
OwnsVertex m v (State s) = IsPoint m v × HasKind m s kinds.State

-- a machine: owners of the right kind on chains that end at it, ends that are vertices, and the limits (UML 2.5.1 14.2.3.1, StateMachines)
pub record HasShape (m : DraftMachine) : Type 0 where
  pub regions : (r : RegionId) (p : Owner) → owner_of m (Region r) ≡ Some p → OwnsRegion m p × IsShallow m (Region r)
  pub vertices : (v : VertexId) (x : Vertex) → vertex_at m v ≡ Some x → OwnsVertex m v x.owner × IsShallow m (State v)
  pub ends : (t : TransId) (x : Transition) → transition_at m t ≡ Some x → (x.source.0 < length m.vertices) × (x.target.0 < length m.vertices)
  pub limits : IsWithinLimits m

-- a region or vertex as a place that has an owner; a transition has none here (this profile's choice)
abbrev pub place_of : Element → Owner
place_of (elements.Region r) = Region r
place_of (elements.Vertex v) = State v
place_of (elements.Transition t) = Top

-- The owner is one that the element may have (UML 2.5.1 14.2.3.2 and 14.2.3.3, regions and vertices).
abbrev pub MayHaveOwner : DraftMachine → Element → Owner → Type 0
MayHaveOwner m (elements.Region r) p = OwnsRegion m p
MayHaveOwner m (elements.Vertex v) p = OwnsVertex m v p
MayHaveOwner m (elements.Transition t) p = Unit {0}

-- The owner is of the wrong kind or out of range, or the owner chain does not reach the machine (UML 2.5.1 14.2.3.2 and 14.2.3.3).
abbrev pub HasBadOwner : DraftMachine → Element → Type 0
HasBadOwner m e =
    (p : Owner) × (owner_of m (place_of e) ≡ Some p)
    × ((MayHaveOwner m e p → ⊥) ⊎ ((n : ℕ) → HasRegionsAbove m (place_of e) n → ⊥))

-- An end of the transition is no vertex (UML 2.5.1 14.2.3.8, source and target).
abbrev pub HasBadEnd : DraftMachine → Element → Type 0
HasBadEnd m (elements.Transition t) =
    (x : Transition) × (transition_at m t ≡ Some x) × ((length m.vertices ≤ x.source.0) ⊎ (length m.vertices ≤ x.target.0))
HasBadEnd m _ = ⊥

-- The element stands past the limit of its kind (this profile's choice).
abbrev pub IsPastLimit : DraftMachine → Element → Type 0
IsPastLimit m (elements.Region r) = (1024 ≤ r.0) × (r.0 < length m.regions)
IsPastLimit m (elements.Vertex v) = (4096 ≤ v.0) × (v.0 < length m.vertices)
IsPastLimit m (elements.Transition t) = (8192 ≤ t.0) × (t.0 < length m.transitions)

-- More than 32 regions stand on the element's owner chain (this profile's choice).
abbrev pub IsTooDeep : DraftMachine → Element → Type 0
IsTooDeep m e = (n : ℕ) × (32 < n) × HasRegionsAbove m (place_of e) n

-- Something is wrong with the element (this profile's choice of what is asked).
abbrev pub IsMisshapen : DraftMachine → Element → Type 0
IsMisshapen m e = HasBadOwner m e ⊎ HasBadEnd m e ⊎ IsPastLimit m e ⊎ IsTooDeep m e

-- the order regions, vertices, transitions, and each by number (this profile's choice)
abbrev pub IsEarlier : Element → Element → Type 0
IsEarlier (elements.Region r) (elements.Region q) = r.0 < q.0
IsEarlier (elements.Region r) _ = Unit {0}
IsEarlier (elements.Vertex v) (elements.Region q) = ⊥
IsEarlier (elements.Vertex v) (elements.Vertex w) = v.0 < w.0
IsEarlier (elements.Vertex v) (elements.Transition u) = Unit {0}
IsEarlier (elements.Transition t) (elements.Transition u) = t.0 < u.0
IsEarlier (elements.Transition t) _ = ⊥

-- the first element with which something is wrong (this profile's choice)
abbrev pub IsFirstMisshapen : DraftMachine → Element → Type 0
IsFirstMisshapen m e = IsMisshapen m e × ((d : Element) → IsEarlier d e → IsMisshapen m d → ⊥)

-- what is wrong with an element, where what is asked before is not wrong with it (this profile's choice)
abbrev pub IsWrongBy : DraftMachine → Shape → Type 0
IsWrongBy m (shapes.BadOwner e) = HasBadOwner m e
IsWrongBy m (shapes.BadEnd e) = HasBadEnd m e × (HasBadOwner m e → ⊥)
IsWrongBy m (shapes.TooMany e) = IsPastLimit m e × (HasBadOwner m e → ⊥) × (HasBadEnd m e → ⊥)
IsWrongBy m (shapes.TooDeep e) = IsTooDeep m e × (HasBadOwner m e → ⊥) × (HasBadEnd m e → ⊥) × (IsPastLimit m e → ⊥)
IsWrongBy m shapes.NoMemory = ⊥

-- the element that a fault names (this profile's choice)
abbrev pub IsNamedBy : Shape → Element → Type 0
IsNamedBy (shapes.BadOwner e) d = e ≡ d
IsNamedBy (shapes.BadEnd e) d = e ≡ d
IsNamedBy (shapes.TooMany e) d = e ≡ d
IsNamedBy (shapes.TooDeep e) d = e ≡ d
IsNamedBy shapes.NoMemory d = ⊥

-- the fault of a draft that is no machine: what is wrong with the first element with which something is (this profile's choice)
abbrev pub IsShapeFault : DraftMachine → Shape → Type 0
IsShapeFault m fault = IsWrongBy m fault × ((e : Element) × IsNamedBy fault e × IsFirstMisshapen m e)
