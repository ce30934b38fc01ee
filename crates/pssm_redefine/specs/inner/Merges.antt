-- Vertices and transitions that are put together so far.
use Rattle.std.specs.Prelude.{◌≡◌, ℕ, ◌+◌, ◌*◌, List, length, Some, slice_get}
use Rattle.pssm_model.specs.declared.elements.Owner.{Owner}
use Rattle.pssm_model.specs.declared.elements.Vertex.{Vertex}
use Rattle.pssm_model.specs.declared.elements.Transition.{Transition}
use Rattle.pssm_model.specs.declared.draft_setting.ElementRef.{ElementRef}
use Rattle.pssm_model.specs.declared.draft_setting.Draft.{Draft}
use Rattle.pssm_redefine.specs.declared.parts.Ends.{Ends}
use Rattle.pssm_redefine.specs.Merging.{IsMergedVertex, IsMergedTransition}

-- the vertex with this number
abbrev pub IsVertexNumbered : Draft → (ℕ → ℕ) → List Owner → List (List ElementRef) → ℕ → Vertex → Type 0
IsVertexNumbered draft number owners forms n vertex =
    (owner : Owner) (of : List ElementRef) → slice_get owners n ≡ Some owner → slice_get forms n ≡ Some of
    → IsMergedVertex draft owner (number (3 * n)) (number (3 * n + 1)) (number (3 * n + 2)) of vertex

-- the first vertices
pub record AreVerticesSoFar (draft : Draft) (number : ℕ → ℕ) (owners : List Owner) (forms : List (List ElementRef)) (count : ℕ) (vertices : List Vertex) : Type 0 where
  pub all : length vertices ≡ count
  pub each : (k : ℕ) (owner : Owner) (of : List ElementRef) (vertex : Vertex) → slice_get owners k ≡ Some owner → slice_get forms k ≡ Some of
      → slice_get vertices k ≡ Some vertex → IsMergedVertex draft owner (number (3 * k)) (number (3 * k + 1)) (number (3 * k + 2)) of vertex

-- the transition with this number
abbrev pub IsTransitionNumbered : Draft → (ℕ → ℕ) → ℕ → List Ends → List (List ElementRef) → ℕ → Transition → Type 0
IsTransitionNumbered draft number base ends forms n transition =
    (end : Ends) (of : List ElementRef) → slice_get ends n ≡ Some end → slice_get forms n ≡ Some of
    → IsMergedTransition draft end (number (base + 2 * n)) (number (base + 2 * n + 1)) of transition

-- the first transitions
pub record AreTransitionsSoFar (draft : Draft) (number : ℕ → ℕ) (base : ℕ) (ends : List Ends) (forms : List (List ElementRef)) (count : ℕ) (transitions : List Transition) : Type 0 where
  pub all : length transitions ≡ count
  pub each : (k : ℕ) (end : Ends) (of : List ElementRef) (transition : Transition) → slice_get ends k ≡ Some end → slice_get forms k ≡ Some of
      → slice_get transitions k ≡ Some transition → IsMergedTransition draft end (number (base + 2 * k)) (number (base + 2 * k + 1)) of transition
