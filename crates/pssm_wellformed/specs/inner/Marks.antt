-- Marks by level: from which vertices a walk strays from their place of the level.
use Rattle.std.specs.Prelude.{◌≡◌, ◌↔◌, ◌⊎◌, ◌<◌, ℕ, List, [], Bool, true, false, length, slice_get, slice_index_or, Contains, Vec}
use Rattle.std.specs.Option.{option_map_or}
use Rattle.std.specs.declared.alloc.Global.{Global}
use Rattle.pssm_model.specs.declared.ids.VertexId.{VertexId}
use Rattle.pssm_model.specs.declared.elements.DraftMachine.{DraftMachine}
use Rattle.pssm_model.specs.declared.elements.Owner.{Owner}
use Rattle.pssm_wellformed.specs.declared.walks.Walk.{Walk}
use Rattle.pssm_wellformed.specs.inner.Lists.{list_at}
use Rattle.pssm_wellformed.specs.inner.Reach.{IsReached}
use Rattle.pssm_wellformed.specs.inner.Walks.{AreArrows, LiesIn, Strays}
use Rattle.pssm_wellformed.specs.inner.Levels.{IsLevel, AreLevelsBelow}

-- The second arrows are the first ones below a number turned round.
pub record AreTurnedBelow (n : ℕ) (onward back : List (Vec ℕ Global)) : Type 0 where
  pub width : length back ≡ length onward
  pub arrows : (a b : ℕ) → Contains (list_at back b) a ↔ ((a < n) × Contains (list_at onward a) b)

-- The second arrows are the first ones turned round.
pub record AreTurned (onward back : List (Vec ℕ Global)) : Type 0 where
  pub width : length back ≡ length onward
  pub arrows : (a b : ℕ) → Contains (list_at back b) a ↔ Contains (list_at onward a) b

-- The item has come into the list of each of these numbers.
pub record IsPutToEach (item : ℕ) (keys : List ℕ) (old new : List (Vec ℕ Global)) : Type 0 where
  pub width : length new ≡ length old
  pub puts : (k i : ℕ) → Contains (list_at new k) i ↔ (Contains (list_at old k) i ⊎ ((i ≡ item) × Contains keys k))

-- the marks of a level, of which there are none where there is no such level
abbrev pub marks_at : List (Vec Bool Global) → ℕ → List Bool
marks_at levels k = option_map_or (λ marks. marks.items) (slice_get levels k) []

-- The marks are those of what leads to a vertex whose lowest level is below this one.
pub record AreMarksOf (back : List (Vec ℕ Global)) (lowest : List ℕ) (level : ℕ) (list : List Bool) : Type 0 where
  pub tails : List ℕ
  pub below : (a : ℕ) → Contains tails a ↔ ((a < length lowest) × (slice_index_or lowest a 0 < level))
  pub width : length list ≡ length back
  pub marks : (v : ℕ) → (slice_index_or list v false ≡ true) ↔ IsReached back tails v

-- the marks of each level below a number
pub record AreMarksBelow (back : List (Vec ℕ Global)) (lowest : List ℕ) (n : ℕ) (levels : List (Vec Bool Global)) : Type 0 where
  pub count : length levels ≡ n
  pub marks : (k : ℕ) → k < n → AreMarksOf back lowest k (marks_at levels k)

-- There are marks for each place that holds a vertex, and one for each vertex.
pub record HaveRoom (m : DraftMachine) (levels : List (Vec Bool Global)) : Type 0 where
  pub high : AreLevelsBelow m (length m.vertices) (length levels)
  pub width : (k : ℕ) → k < length levels → length (marks_at levels k) ≡ length m.vertices

-- A vertex in a place has a mark at the level of the place where the walk from it strays from the place.
abbrev pub MarkStrays : DraftMachine → List (Vec ℕ Global) → List (Vec Bool Global) → Type 0
MarkStrays m onward levels =
    (v : VertexId) (p : Owner) (k : ℕ) → v.0 < length m.vertices → LiesIn m v p → IsLevel m p k
    → (slice_index_or (marks_at levels k) v.0 false ≡ true) ↔ Strays m onward v p

-- the marks of a walk by level
pub record AreStrayMarks (m : DraftMachine) (walk : Walk) (levels : List (Vec Bool Global)) : Type 0 where
  pub onward : List (Vec ℕ Global)
  pub arrows : AreArrows m walk onward
  pub room : HaveRoom m levels
  pub marks : MarkStrays m onward levels
