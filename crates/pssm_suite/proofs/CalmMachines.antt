-- Calm machines: plain ones with one transition out of each vertex, in which each transition out of a State is triggered and stays in a region
-- under which no region lies.
use Rattle.std.proofs.Common.{◌≡◌, ◌⊎◌, ◌≤◌, ◌<◌, ◌+◌, ℕ, [], Some}
use Rattle.pssm_model.specs.declared.ids.VertexId.{VertexId}
use Rattle.pssm_model.specs.declared.ids.RegionId.{RegionId}
use Rattle.pssm_model.specs.declared.ids.TransId.{TransId}
use Rattle.pssm_model.specs.declared.elements.DraftMachine.{DraftMachine}
use Rattle.pssm_model.specs.declared.elements.Vertex.{Vertex}
use Rattle.pssm_model.specs.declared.elements.Transition.{Transition}
use Rattle.pssm_model.specs.declared.elements.VertexKind.TheVariants as kinds
use Rattle.pssm_model.specs.declared.elements.Owner.TheVariants.{Region, State}
use Rattle.pssm_model.specs.Forest.{vertex_at, transition_at, HasKind, owner_of}
use Rattle.pssm_model.specs.Legs.{Leaves}
use Rattle.pssm_suite.specs.GeneratedSetting.{on_go}
use Rattle.pssm_suite.proofs.PlainMachines.{IsPlain}
use Rattle.pssm_suite.proofs.LoneRoutes.{IsBottom}

-- a vertex with the first behaviour at its entry and exit, that does no step and defers nothing
pub record IsCalmVertex (x : Vertex) : Type 0 where
  pub entry : x.entry.0 ≡ 0
  pub exit : x.exit.0 ≡ 0
  pub steps : x.steps ≡ []
  pub defers : x.defers ≡ []

-- The regions in which transitions lead from States have these numbers: from the first, so many.
pub record IsCalm (m : DraftMachine) (first count : ℕ) : Type 0 where
  pub plain : IsPlain m
  pub vertices : (v : VertexId) (x : Vertex) → vertex_at m v ≡ Some x → IsCalmVertex x
  pub triggered : (t : TransId) (x : Transition) → transition_at m t ≡ Some x → HasKind m x.source kinds.Initial ⊎ (x.triggers ≡ on_go)
  pub one_step : (t u : TransId) (v : VertexId) → Leaves m t v → Leaves m u v → t ≡ u
  pub bottom : (t : TransId) (v : VertexId) (r : RegionId) → Leaves m t v → HasKind m v kinds.State → owner_of m (State v) ≡ Some (Region r) → IsBottom m r
  pub within : (t : TransId) (v : VertexId) (r : RegionId) → Leaves m t v → HasKind m v kinds.State → owner_of m (State v) ≡ Some (Region r)
      → (first ≤ r.0) × (r.0 < first + count)
