-- Ways over junctions and exit points: open transitions one after another, until one ends on neither.
use Rattle.std.specs.Prelude.{◌⊎◌, List, Contains, [], ◌∷◌, ◌++◌, Option, Some, None}
use Rattle.pssm_model.specs.declared.ids.VertexId.{VertexId}
use Rattle.pssm_model.specs.declared.ids.TransId.{TransId}
use Rattle.pssm_model.specs.declared.elements.DraftMachine.{DraftMachine}
use Rattle.pssm_model.specs.declared.elements.VertexKind.TheVariants as kinds
use Rattle.pssm_model.specs.Forest.{HasKind, LiesInRegion}
use Rattle.pssm_model.specs.Legs.{Leaves, Enters}
use Rattle.pssm_model.specs.Routes.{Truth, IsTrueAt}
use Rattle.pssm_model.specs.declared.ids.RegionId.{RegionId}

-- a vertex from which a route goes on over one true transition: a junction or exit point (UML 2.5.1 14.2.3.7, junction and exitPoint)
abbrev pub IsPassedOver : DraftMachine → VertexId → Type 0
IsPassedOver m v = HasKind m v kinds.Junction ⊎ HasKind m v kinds.ExitPoint

-- A way with true guards leads on from the vertex: at once where a route ends or forks, over one true transition out of a junction or exit point, over
-- all transitions out of an entry point (UML 2.5.1 14.2.3.9, enabled transitions; 14.2.3.7, pseudostates).
pub data HasWay (m : DraftMachine) (truth : Truth) : VertexId → Type 0 where
  ends : {v : VertexId} → (IsPassedOver m v → ⊥) → (HasKind m v kinds.EntryPoint → ⊥) → HasWay m truth v
  over : {v w : VertexId} {t : TransId} → IsPassedOver m v → Leaves m t v → IsTrueAt m truth t → Enters m t w → HasWay m truth w → HasWay m truth v
  all : {v : VertexId} → HasKind m v kinds.EntryPoint → ((t : TransId) (w : VertexId) → Leaves m t v → Enters m t w → HasWay m truth w)
      → HasWay m truth v

-- The transition ends on no entry point from which no way leads on: what an open transition asks besides
-- (UML 2.5.1 14.2.3.7, entryPoint; 14.2.3.9, enabled transitions).
abbrev pub CanBePassed : DraftMachine → Truth → TransId → Type 0
CanBePassed m truth t = (v : VertexId) → Enters m t v → HasKind m v kinds.EntryPoint → HasWay m truth v

-- The vertex lies in the region, if one is named: so far a way may go (this profile's own choice).
abbrev pub IsAllowed : DraftMachine → Option RegionId → VertexId → Type 0
IsAllowed m None v = Unit {0}
IsAllowed m (Some r) v = LiesInRegion m v r

-- The transition ends on a junction or an exit point (UML 2.5.1 14.2.3.7, junction and exitPoint).
abbrev pub EndsInside : DraftMachine → TransId → Type 0
EndsInside m t = (v : VertexId) × Enters m t v × IsPassedOver m v

-- The transition is true, ends where it may, and not on an entry point from which no way leads on
-- (UML 2.5.1 14.2.3.8, guards; 14.2.3.9, enabled transitions).
pub record IsOpen (m : DraftMachine) (truth : Truth) (within : Option RegionId) (t : TransId) : Type 0 where
  pub guard : IsTrueAt m truth t
  pub target : (v : VertexId) → Enters m t v → IsAllowed m within v
  pub pass : CanBePassed m truth t

-- Open transitions lead from the transition on, over junctions and exit points, to a vertex that is neither
-- (UML 2.5.1 14.2.3.9, enabled transitions: a path with true guards).
pub data LeadsOut (m : DraftMachine) (truth : Truth) (within : Option RegionId) : TransId → Type 0 where
  ends : {t : TransId} {v : VertexId} → IsOpen m truth within t → Enters m t v → (IsPassedOver m v → ⊥) → LeadsOut m truth within t
  on : {t u : TransId} {v : VertexId} → IsOpen m truth within t → Enters m t v → IsPassedOver m v → Leaves m u v
      → LeadsOut m truth within u → LeadsOut m truth within t

-- a way from the start to a transition: the junctions and exit points that it has passed, the last first and no two of them alike, and its
-- transitions in order (UML 2.5.1 14.2.3.8, compound transitions; that it is so kept is this profile's own choice)
pub data IsWay (m : DraftMachine) (truth : Truth) (within : Option RegionId) (start : TransId) : TransId → List VertexId → List TransId → Type 0 where
  begins : IsOpen m truth within start → IsWay m truth within start start [] (start ∷ [])
  goes_on : {t u : TransId} {v : VertexId} {passed : List VertexId} {path : List TransId} → IsWay m truth within start t passed path
      → Enters m t v → IsPassedOver m v → (Contains passed v → ⊥) → Leaves m u v → IsOpen m truth within u
      → IsWay m truth within start u (v ∷ passed) (path ++ u ∷ [])

-- a way that ends on no junction and no exit point (UML 2.5.1 14.2.3.9, enabled transitions)
pub record IsWayOut (m : DraftMachine) (truth : Truth) (within : Option RegionId) (start last : TransId) (path : List TransId) : Type 0 where
  pub passed : List VertexId
  pub way : IsWay m truth within start last passed path
  pub ends : (v : VertexId) → Enters m last v → IsPassedOver m v → ⊥
