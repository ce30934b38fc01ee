-- Who owns whom, and what lies where.
use Rattle.std.specs.Prelude.{◌≡◌, ◌⊎◌, ℕ, suc, Option, Some, None, slice_get}
use Rattle.std.specs.Option.{option_map}
use Rattle.pssm_model.specs.declared.ids.VertexId.{VertexId}
use Rattle.pssm_model.specs.declared.ids.RegionId.{RegionId}
use Rattle.pssm_model.specs.declared.ids.TransId.{TransId}
use Rattle.pssm_model.specs.declared.elements.DraftMachine.{DraftMachine}
use Rattle.pssm_model.specs.declared.elements.Vertex.{Vertex}
use Rattle.pssm_model.specs.declared.elements.Transition.{Transition}
use Rattle.pssm_model.specs.declared.elements.VertexKind.{VertexKind}
use Rattle.pssm_model.specs.declared.elements.VertexKind.TheVariants as kinds
use Rattle.pssm_model.specs.declared.elements.Owner.{Owner}
use Rattle.pssm_model.specs.declared.elements.Owner.TheVariants.{Top, Region, State}

-- the vertex with a number (UML 2.5.1 14.2.3.3, vertices)
abbrev pub vertex_at : DraftMachine → VertexId → Option Vertex
vertex_at m v = slice_get m.vertices v.0

-- the transition with a number (UML 2.5.1 14.2.3.8, transitions)
abbrev pub transition_at : DraftMachine → TransId → Option Transition
transition_at m t = slice_get m.transitions t.0

-- The vertex is there and of this kind (UML 2.5.1 14.2.3.4, 14.2.3.6 and 14.2.3.7: States, final states, pseudostates).
abbrev pub HasKind : DraftMachine → VertexId → VertexKind → Type 0
HasKind m v kind = option_map (λ x. x.kind) (vertex_at m v) ≡ Some kind

-- a State or final state, which can be active (UML 2.5.1 14.2.3.6: a final state is a special kind of State)
abbrev pub IsStateOrFinal : DraftMachine → VertexId → Type 0
IsStateOrFinal m v = HasKind m v kinds.State ⊎ HasKind m v kinds.Final

-- the owner of a place; the machine is `Top` and has none (UML 2.5.1 14.2.3.2 and 14.2.3.3, regions and vertices)
abbrev pub owner_of : DraftMachine → Owner → Option Owner
owner_of m Top = None
owner_of m (Region r) = slice_get m.regions r.0
owner_of m (State v) = option_map (λ x. x.owner) (vertex_at m v)

-- The region owns the vertex, which is of the kind (UML 2.5.1 14.2.3.2, the vertices of a region).
abbrev pub OwnsOfKind : DraftMachine → RegionId → VertexKind → VertexId → Type 0
OwnsOfKind m r kind v = HasKind m v kind × (owner_of m (State v) ≡ Some (Region r))

-- The owner chain of the first place passes the second (UML 2.5.1 14.2.3.2, nested regions).
pub data LiesUnder (m : DraftMachine) : Owner → Owner → Type 0 where
  owned : {p q : Owner} → owner_of m p ≡ Some q → LiesUnder m p q
  further : {p q s : Owner} → owner_of m p ≡ Some q → LiesUnder m q s → LiesUnder m p s

-- A vertex lies in each region on its owner chain; so a connection point, which a State owns, lies where that State lies
-- (UML 2.5.1 14.2.3.2 and 14.2.3.7, regions, entry and exit points).
abbrev pub LiesInRegion : DraftMachine → VertexId → RegionId → Type 0
LiesInRegion m v r = LiesUnder m (State v) (Region r)

-- A vertex lies in a State where it lies in a region of it (UML 2.5.1 14.2.3.4, composite States).
abbrev pub LiesInState : DraftMachine → VertexId → VertexId → Type 0
LiesInState m v s = (r : RegionId) × (owner_of m (Region r) ≡ Some (State s)) × LiesInRegion m v r

-- the State itself, or a vertex in it (UML 2.5.1 14.2.3.4, composite States)
abbrev pub IsOrLiesIn : DraftMachine → VertexId → VertexId → Type 0
IsOrLiesIn m v s = (v ≡ s) ⊎ LiesInState m v s

-- The region is the other one, or nested in it (UML 2.5.1 14.2.3.2, nested regions).
abbrev pub IsWithin : DraftMachine → RegionId → RegionId → Type 0
IsWithin m q r = (q ≡ r) ⊎ LiesUnder m (Region q) (Region r)

-- The region is the innermost one in which the vertex lies (UML 2.5.1 14.2.3.2 and 14.2.3.3, the container of a vertex).
pub record IsHome (m : DraftMachine) (v : VertexId) (home : RegionId) : Type 0 where
  pub lies : LiesInRegion m v home
  pub innermost : (r : RegionId) → LiesInRegion m v r → IsWithin m home r

-- the innermost region in which all of these vertices lie (UML 2.5.1 14.2.3.9, transition execution sequence: the least common ancestor)
pub record IsScope (m : DraftMachine) (These : VertexId → Type 0) (r : RegionId) : Type 0 where
  pub common : (v : VertexId) → These v → LiesInRegion m v r
  pub innermost : (q : RegionId) → ((v : VertexId) → These v → LiesInRegion m v q) → LiesUnder m (Region q) (Region r) → ⊥

-- The owner chain of the place ends at the machine and passes so many regions (UML 2.5.1 14.2.3.2, nested regions).
pub data HasRegionsAbove (m : DraftMachine) : Owner → ℕ → Type 0 where
  region : {r : RegionId} {p : Owner} {n : ℕ} → owner_of m p ≡ Some (Region r) → HasRegionsAbove m (Region r) n → HasRegionsAbove m p (suc n)
  state : {s : VertexId} {p : Owner} {n : ℕ} → owner_of m p ≡ Some (State s) → HasRegionsAbove m (State s) n → HasRegionsAbove m p n
  machine : {p : Owner} → owner_of m p ≡ Some Top → HasRegionsAbove m p 0
