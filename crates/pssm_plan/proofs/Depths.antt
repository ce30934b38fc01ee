-- Where vertices lie: their owners, how deep they lie, and that what is named is there.
use Rattle.std.proofs.Common.{◌≡◌, ◌<◌, ◌≤◌, ℕ, Some, length}
use Rattle.pssm_model.specs.declared.ids.VertexId.{VertexId}
use Rattle.pssm_model.specs.declared.ids.RegionId.{RegionId}
use Rattle.pssm_model.specs.declared.elements.DraftMachine.{DraftMachine}
use Rattle.pssm_model.specs.declared.elements.Vertex.{Vertex}
use Rattle.pssm_model.specs.declared.elements.VertexKind.{VertexKind}
use Rattle.pssm_model.specs.declared.elements.Owner.TheVariants.{Region, State}
use Rattle.pssm_model.specs.Forest.{vertex_at, HasKind, owner_of, LiesInRegion, HasRegionsAbove}
use Rattle.pssm_model.specs.Shapes.{HasShape}
use Rattle.pssm_model.specs.Legs.{Scope, LiesInScope}
use Rattle.pssm_model.specs.Legs.Scope.{Nowhere, Inside, Within}
use Rattle.pssm_model.proofs.ElementLaws.{mapped_some}
use Rattle.pssm_model.proofs.OwnerChains.{owned_is_place, state_down}
use Rattle.pssm_model_laws.proofs.KnownPlaces.{owner_under, depth_under}

-- what stands above a region stands above the State that owns it
pub state_down_region : {m : DraftMachine} (s : VertexId) (r : RegionId) → owner_of m (Region r) ≡ Some (State s) → (n : ℕ)
    → HasRegionsAbove m (Region r) n → HasRegionsAbove m (State s) n
state_down_region {m = m} s r e n above = state_down {m = m} s e above

module _ {m : DraftMachine} (shape : HasShape m) where
  -- every vertex has a depth
  pub depth_of : (v : VertexId) (x : Vertex) → vertex_at m v ≡ Some x → (d : ℕ) × (d ≤ 32) × HasRegionsAbove m (State v) d
  depth_of v x e = (shape.vertices v x e).1

  pub depth_of_kind : (v : VertexId) (k : VertexKind) → HasKind m v k → (d : ℕ) × (d ≤ 32) × HasRegionsAbove m (State v) d
  depth_of_kind v k h = let at = mapped_some (λ (x : Vertex). x.kind) (vertex_at m v) k h in depth_of v at.0 at.1

  -- and so has what lies where a transition exits and enters
  pub depth_in_scope : (v : VertexId) (scope : Scope) → LiesInScope m v scope → (d : ℕ) × (d ≤ 32) × HasRegionsAbove m (State v) d
  depth_in_scope v Nowhere lies = absurd lies
  depth_in_scope v (Inside s) lies = depth_under shape v (Region lies.0) lies.2
  depth_in_scope v (Within r) lies = depth_under shape v (Region r) lies

module _ (m : DraftMachine) where
  -- what is entered or lies in a span is a vertex of the machine
  pub vertex_there : (v : VertexId) (r : RegionId) → LiesInRegion m v r → v.0 < length m.vertices
  vertex_there v r lies = let at = owner_under m (State v) (Region r) lies in owned_is_place m (State v) at.0 at.1

  pub scope_there : (v : VertexId) (scope : Scope) → LiesInScope m v scope → v.0 < length m.vertices
  scope_there v Nowhere lies = absurd lies
  scope_there v (Inside s) lies = vertex_there v lies.0 lies.2
  scope_there v (Within r) lies = vertex_there v r lies
