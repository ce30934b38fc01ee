-- Which vertices are history vertices, States and final states is known.
use Rattle.std.proofs.Common.{◌≡◌, ◌<◌, length, Some, inr}
use Rattle.std.proofs.lemmas.Option.{slice_get_within}
use Rattle.pssm_model.specs.declared.ids.VertexId.{VertexId}
use Rattle.pssm_model.specs.declared.ids.RegionId.{RegionId}
use Rattle.pssm_model.specs.declared.elements.DraftMachine.{DraftMachine}
use Rattle.pssm_model.specs.declared.elements.Vertex.{Vertex}
use Rattle.pssm_model.specs.declared.elements.VertexKind.{VertexKind}
use Rattle.pssm_model.specs.declared.elements.VertexKind.TheVariants as kinds
use Rattle.pssm_model.specs.declared.elements.Owner.TheVariants.{Region, State}
use Rattle.pssm_model.specs.declared.steps.Mode.{Mode}
use Rattle.pssm_model.specs.declared.steps.Mode.TheVariants.{Plain, Shallow, Deep}
use Rattle.pssm_model.specs.Forest.{vertex_at, HasKind, IsStateOrFinal, owner_of}
use Rattle.pssm_model.specs.Shapes.{HasShape}
use Rattle.pssm_plan.specs.inner.OverRoutes.{IsHistoryFor}
use Rattle.pssm_model.proofs.ElementLaws.{mapped_some}
use Rattle.pssm_model_laws.proofs.Known.{Known, known_as, known_both, known_either, known_below}
use Rattle.pssm_model_laws.proofs.KnownPlaces.{vertex_of, known_owner, known_vertex_kind}

module _ {m : DraftMachine} (shape : HasShape m) where
  -- States and final states, and history vertices of a mode
  pub known_state_or_final : (v : VertexId) → Known (IsStateOrFinal m v)
  known_state_or_final v = known_either (known_vertex_kind m v kinds.State) (known_vertex_kind m v kinds.Final)

  pub known_history_kind : (v : VertexId) (mode : Mode) → Known (IsHistoryFor m v mode)
  known_history_kind v Plain = inr (λ none. none)
  known_history_kind v Shallow = known_vertex_kind m v kinds.ShallowHistory
  known_history_kind v Deep = known_vertex_kind m v kinds.DeepHistory

  -- a history vertex of the region
  pub known_history : (r : RegionId) (mode : Mode) → Known ((v : VertexId) × IsHistoryFor m v mode × (owner_of m (State v) ≡ Some (Region r)))
  known_history r mode =
      known_as
      (λ h. (vertex_of h.0, h.2.0, h.2.1))
      (λ h. (h.0.0, history_there h.0 mode h.1, (h.1, h.2)))
      (known_below
      (λ k. IsHistoryFor m (vertex_of k) mode × (owner_of m (State (vertex_of k)) ≡ Some (Region r)))
      (λ k. known_both (known_history_kind (vertex_of k) mode) (known_owner m (State (vertex_of k)) (Region r)))
      (length m.vertices))
    where
      kind_there : (v : VertexId) (kind : VertexKind) → HasKind m v kind → v.0 < length m.vertices
      kind_there v kind h =
          let at = mapped_some (λ (x : Vertex). x.kind) (vertex_at m v) kind h in
          slice_get_within m.vertices v.0 at.0 at.1

      history_there : (v : VertexId) (way : Mode) → IsHistoryFor m v way → v.0 < length m.vertices
      history_there v Plain h = absurd h
      history_there v Shallow h = kind_there v kinds.ShallowHistory h
      history_there v Deep h = kind_there v kinds.DeepHistory h
