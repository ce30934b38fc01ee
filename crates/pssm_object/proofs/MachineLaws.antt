-- The kinds of vertices of a machine that keeps the rules of models, its history vertices, and what leaves its initial vertices and choices.
use Rattle.std.proofs.Common.{◌≡◌, ◌<◌, length, Option, Some, None, option_map, ◌≢◌, ap, inl, inr, ⊎_elim}
use Rattle.std.proofs.lemmas.Option.{slice_get_within}
use Rattle.pssm_model.specs.declared.ids.VertexId.{VertexId}
use Rattle.pssm_model.specs.declared.ids.RegionId.{RegionId}
use Rattle.pssm_model.specs.declared.ids.TransId.{TransId}
use Rattle.pssm_model.specs.declared.elements.DraftMachine.{DraftMachine}
use Rattle.pssm_model.specs.declared.elements.Vertex.{Vertex}
use Rattle.pssm_model.specs.declared.elements.VertexKind.{VertexKind}
use Rattle.pssm_model.specs.declared.elements.VertexKind.TheVariants as kinds
use Rattle.pssm_model.specs.declared.elements.Transition.{Transition}
use Rattle.pssm_model.specs.declared.elements.Owner.TheVariants.{Region, State}
use Rattle.pssm_model.specs.declared.elements.Element.TheVariants as elements
use Rattle.pssm_model.specs.declared.elements.FaultPlace.TheVariants as places
use Rattle.pssm_model.specs.Forest.{vertex_at, transition_at, HasKind, OwnsOfKind}
use Rattle.pssm_model.specs.Legs.{Leaves}
use Rattle.pssm_model.specs.Paths.{HasOut, IsInitialOf}
use Rattle.pssm_model.specs.FiringSets.{IsLateOrigin}
use Rattle.pssm_model.specs.Ways.{IsHistoryOf}
use Rattle.pssm_model.specs.WellFormed.{OwnsTwoOfAKind, KeepsModelRules}
use Rattle.pssm_model.specs.WellFormed.Breaks.{E02, E03, E09}
use Rattle.pssm_model.specs.inner.Listed.{vertex_number, transition_number}
use Rattle.pssm_model.proofs.ElementLaws.{mapped_some}
use Rattle.pssm_model_laws.proofs.Known.{Known, known_as, known_both, known_below, known_vertex}
use Rattle.pssm_model_laws.proofs.KnownPlaces.{known_owner, known_vertex_kind}
use Rattle.pssm_object.specs.inner.Firing.{IsHistoryKind}

-- a mapped option is known to hold a value where that is known of each value
known_mapped : {X Y : Type 0} (f : X → Y) (o : Option X) (y : Y) → ((x : X) → Known (f x ≡ y))
    → Known (option_map f o ≡ Some y)
known_mapped f None y each = inr (λ e. cc)
known_mapped f (Some x) y each = known_as (λ e. ap Some e) (λ e. cc) (each x)

-- what leaves a vertex or is of a kind is of the machine
pub leaving_there : (m : DraftMachine) (t : TransId) (v : VertexId) → Leaves m t v → t.0 < length m.transitions
leaving_there m t v h =
    let at = mapped_some (λ (x : Transition). x.source) (transition_at m t) v h in
    slice_get_within m.transitions t.0 at.0 at.1

pub kind_there : (m : DraftMachine) (v : VertexId) (k : VertexKind) → HasKind m v k → v.0 < length m.vertices
kind_there m v k h =
    let at = mapped_some (λ (x : Vertex). x.kind) (vertex_at m v) k h in
    slice_get_within m.vertices v.0 at.0 at.1

-- whether some transition leaves a vertex, and some vertex is initial in a region
pub known_leaves : (m : DraftMachine) (t : TransId) (v : VertexId) → Known (Leaves m t v)
known_leaves m t v = known_mapped (λ (x : Transition). x.source) (transition_at m t) v (λ x. known_vertex x.source v)

pub known_out : (m : DraftMachine) (v : VertexId) → Known (HasOut m v)
known_out m v =
    known_as
    (λ h. (transition_number h.0, h.2))
    (λ h. (h.0.0, leaving_there m h.0 v h.1, h.1))
    (known_below
    (λ k. Leaves m (transition_number k) v)
    (λ k. known_leaves m (transition_number k) v)
    (length m.transitions))

pub known_initial : (m : DraftMachine) (r : RegionId) → Known ((v : VertexId) × IsInitialOf m r v)
known_initial m r =
    known_as
    (λ h. (vertex_number h.0, h.2))
    (λ h. (h.0.0, kind_there m h.0 kinds.Initial h.1.0, h.1))
    (known_below
    (λ k. IsInitialOf m r (vertex_number k))
    (λ k. known_both (known_vertex_kind m (vertex_number k) kinds.Initial) (known_owner m (State (vertex_number k)) (Region r)))
    (length m.vertices))

-- whether some history vertex of the kind that has a transition is in a region
pub known_history : (m : DraftMachine) (r : RegionId) (kind : VertexKind) → Known ((v : VertexId) × IsHistoryOf m r kind v)
known_history m r kind =
    known_as
    (λ h. (vertex_number h.0, h.2))
    (λ h. (h.0.0, kind_there m h.0 kind h.1.0, h.1))
    (known_below
    (λ k. IsHistoryOf m r kind (vertex_number k))
    (λ k. known_as (λ h. (h.0, h.1.0, h.1.1)) (λ h. (h.0, (h.1, h.2)))
    (known_both (known_vertex_kind m (vertex_number k) kind)
    (known_both (known_owner m (State (vertex_number k)) (Region r)) (known_out m (vertex_number k)))))
    (length m.vertices))

-- a step goes on from a history vertex
pub history_origin : (m : DraftMachine) (v : VertexId) (kind : VertexKind) → IsHistoryKind kind → HasKind m v kind → IsLateOrigin m v
history_origin m v kinds.ShallowHistory is has = inr (inl (inl has))
history_origin m v kinds.DeepHistory is has = inr (inl (inr has))
history_origin m v _ is has = absurd is

-- two of one kind in a region
two_histories : (m : DraftMachine) (r : RegionId) (kind : VertexKind) → IsHistoryKind kind → (v w : VertexId) → v ≢ w
    → OwnsOfKind m r kind v → OwnsOfKind m r kind w → OwnsTwoOfAKind m r
two_histories m r kinds.ShallowHistory is v w apart first second = inr (inl (v, w, apart, first.0, second.0, first.1, second.1))
two_histories m r kinds.DeepHistory is v w apart first second = inr (inr (v, w, apart, first.0, second.0, first.1, second.1))
two_histories m r _ is v w apart first second = absurd is

module _ {m : DraftMachine} (rules : KeepsModelRules m) where
  -- an initial vertex has a transition out, and so has a choice
  pub initial_leads : (v : VertexId) → HasKind m v kinds.Initial → HasOut m v
  initial_leads v k =
      ⊎_elim
      (λ out. out)
      (λ none. absurd (rules (places.At (elements.Vertex v)) 3 (E03 (k, inl (inl none)))))
      (known_out m v)

  pub choice_leads : (v : VertexId) → HasKind m v kinds.Choice → HasOut m v
  choice_leads v k =
      ⊎_elim
      (λ out. out)
      (λ none. absurd (rules (places.At (elements.Vertex v)) 9 (E09 (inr k, inr none))))
      (known_out m v)

  -- a region has one history vertex of a kind at most
  pub one_history : (r : RegionId) (kind : VertexKind) → IsHistoryKind kind → (v w : VertexId) → OwnsOfKind m r kind v → OwnsOfKind m r kind w → v ≡ w
  one_history r kind is v w first second =
      ⊎_elim
      (λ same. same)
      (λ apart. absurd (rules (places.At (elements.Region r)) 2 (E02 (two_histories m r kind is v w apart first second))))
      (known_vertex v w)
