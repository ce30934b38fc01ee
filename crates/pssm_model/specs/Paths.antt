-- How many transitions meet at a vertex, and the paths that transitions make, as the rules of models ask of them.
use Rattle.std.specs.Prelude.{◌≡◌, ◌≢◌, ◌⊎◌, List, [], ◌∷◌, Some, Contains}
use Rattle.pssm_model.specs.declared.ids.VertexId.{VertexId}
use Rattle.pssm_model.specs.declared.ids.RegionId.{RegionId}
use Rattle.pssm_model.specs.declared.ids.TransId.{TransId}
use Rattle.pssm_model.specs.declared.elements.DraftMachine.{DraftMachine}
use Rattle.pssm_model.specs.declared.elements.VertexKind.{VertexKind}
use Rattle.pssm_model.specs.declared.elements.VertexKind.TheVariants as kinds
use Rattle.pssm_model.specs.declared.elements.Owner.TheVariants.{Region, State}
use Rattle.pssm_model.specs.Forest.{HasKind, owner_of}
use Rattle.pssm_model.specs.Legs.{Leaves, Enters}
use Rattle.pssm_model.specs.FiringSets.{IsHistory}

-- Some transition leaves the vertex (UML 2.5.1 14.2.3.3, outgoing transitions).
abbrev pub HasOut : DraftMachine → VertexId → Type 0
HasOut m v = (t : TransId) × Leaves m t v

-- Some transition enters the vertex (UML 2.5.1 14.2.3.3, incoming transitions).
abbrev pub HasIn : DraftMachine → VertexId → Type 0
HasIn m v = (t : TransId) × Enters m t v

-- At least two leave it (UML 2.5.1 14.2.3.3, outgoing transitions).
abbrev pub HasTwoOut : DraftMachine → VertexId → Type 0
HasTwoOut m v = (t u : TransId) × (t ≢ u) × Leaves m t v × Leaves m u v

-- At least two enter it (UML 2.5.1 14.2.3.3, incoming transitions).
abbrev pub HasTwoIn : DraftMachine → VertexId → Type 0
HasTwoIn m v = (t u : TransId) × (t ≢ u) × Enters m t v × Enters m u v

-- Not exactly one leaves it (UML 2.5.1 14.2.3.3, outgoing transitions).
abbrev pub LacksOneOut : DraftMachine → VertexId → Type 0
LacksOneOut m v = (HasOut m v → ⊥) ⊎ HasTwoOut m v

-- Not exactly one enters it (UML 2.5.1 14.2.3.3, incoming transitions).
abbrev pub LacksOneIn : DraftMachine → VertexId → Type 0
LacksOneIn m v = (HasIn m v → ⊥) ⊎ HasTwoIn m v

-- Every kind but State and final is one of a pseudostate (UML 2.5.1 14.5.7, kinds of pseudostates).
abbrev pub IsPseudostateKind : VertexKind → Type 0
IsPseudostateKind kinds.State = ⊥
IsPseudostateKind kinds.Final = ⊥
IsPseudostateKind _ = Unit {0}

-- a pseudostate (UML 2.5.1 14.2.3.7, pseudostates)
abbrev pub IsPseudostate : DraftMachine → VertexId → Type 0
IsPseudostate m v = (kind : VertexKind) × HasKind m v kind × IsPseudostateKind kind

-- an initial vertex that the region owns (UML 2.5.1 14.2.3.7, initial)
abbrev pub IsInitialOf : DraftMachine → RegionId → VertexId → Type 0
IsInitialOf m r v = HasKind m v kinds.Initial × (owner_of m (State v) ≡ Some (Region r))

-- a path of transitions whose inner vertices are junctions, and the vertex where it ends (UML 2.5.1 14.2.3.7, junction)
pub data IsJunctionPath (m : DraftMachine) : List TransId → VertexId → Type 0 where
  one : {t : TransId} {v : VertexId} → Enters m t v → IsJunctionPath m (t ∷ []) v
  more : {t u : TransId} {rest : List TransId} {v w : VertexId} → HasKind m v kinds.Junction → Enters m t v → Leaves m u v
      → IsJunctionPath m (u ∷ rest) w → IsJunctionPath m (t ∷ u ∷ rest) w

-- A transition of the path begins or ends at the vertex (this profile's choice).
abbrev pub IsOnPath : DraftMachine → List TransId → VertexId → Type 0
IsOnPath m path v = (t : TransId) × Contains path t × (Leaves m t v ⊎ Enters m t v)

-- a vertex that an inner path may pass: a junction, fork or entry point (this profile's choice)
abbrev pub IsInner : DraftMachine → VertexId → Type 0
IsInner m v = HasKind m v kinds.Junction ⊎ HasKind m v kinds.Fork ⊎ HasKind m v kinds.EntryPoint

-- The vertex stands after the beginning of an inner path that begins with the transition (this profile's choice).
pub data ComesAfter (m : DraftMachine) (t : TransId) : VertexId → Type 0 where
  end : {v : VertexId} → Enters m t v → ComesAfter m t v
  inner : {v w : VertexId} (u : TransId) → ComesAfter m t v → IsInner m v → Leaves m u v → Enters m u w → ComesAfter m t w

-- Transitions whose inner vertices are pseudostates lead from the first vertex to the second (UML 2.5.1 14.2.3.8, compound transitions).
pub data Reaches (m : DraftMachine) : VertexId → VertexId → Type 0 where
  by : {v w : VertexId} (t : TransId) → Leaves m t v → Enters m t w → Reaches m v w
  on : {v w q : VertexId} → Reaches m v q → IsPseudostate m q → (t : TransId) → Leaves m t q → Enters m t w → Reaches m v w

-- A transition leads from the first vertex to the second, or the first is a history vertex without transitions and the second an initial
-- vertex of its region (UML 2.5.1 14.2.3.7, default entry of a history pseudostate).
abbrev pub LeadsTo : DraftMachine → VertexId → VertexId → Type 0
LeadsTo m v w =
    ((t : TransId) × Leaves m t v × Enters m t w)
    ⊎ ((r : RegionId) × IsHistory m v × (HasOut m v → ⊥) × (owner_of m (State v) ≡ Some (Region r)) × IsInitialOf m r w)

-- a chain of such leads through pseudostates alone (this profile's choice)
pub data LeadsOn (m : DraftMachine) : VertexId → VertexId → Type 0 where
  next : {v w : VertexId} → IsPseudostate m v → IsPseudostate m w → LeadsTo m v w → LeadsOn m v w
  after : {v w q : VertexId} → LeadsOn m v q → LeadsOn m q w → LeadsOn m v w
