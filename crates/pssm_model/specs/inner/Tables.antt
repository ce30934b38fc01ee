-- The tables that a machine keeps beside its draft.
use Rattle.std.specs.Prelude.{◌≡◌, ◌≤◌, ◌<◌, ℕ, List, length, slice_index_or}
use Rattle.pssm_model.specs.declared.ids.VertexId.{VertexId}
use Rattle.pssm_model.specs.declared.ids.RegionId.{RegionId}
use Rattle.pssm_model.specs.declared.elements.Owner.TheVariants.{Region}
use Rattle.pssm_model.specs.declared.elements.DraftMachine.{DraftMachine}
use Rattle.pssm_model.specs.declared.shape.PlaceKind.TheVariants.{Regions, Vertices}
use Rattle.pssm_model.specs.Forest.{LiesUnder, LiesInRegion, IsWithin, HasRegionsAbove}
use Rattle.pssm_model.specs.Shapes.{HasShape}
use Rattle.pssm_model.specs.inner.Faultless.{AreDepthsOf}

-- The draft has the shape of a machine, and the two lists have the depths of its regions and of its vertices.
pub record AreTables (m : DraftMachine) (regions vertices : List ℕ) : Type 0 where
  pub shape : HasShape m
  pub all_regions : length regions ≡ length m.regions
  pub all_vertices : length vertices ≡ length m.vertices
  pub region_depths : AreDepthsOf m Regions regions
  pub vertex_depths : AreDepthsOf m Vertices vertices

-- The region is the innermost one in which the other is nested.
pub record IsOuter (m : DraftMachine) (q outer : RegionId) : Type 0 where
  pub nested : LiesUnder m (Region q) (Region outer)
  pub innermost : (r : RegionId) → LiesUnder m (Region q) (Region r) → IsWithin m outer r

-- The region is the one in which the first is nested that has at most so many regions above it.
pub record IsRaised (m : DraftMachine) (from : RegionId) (level : ℕ) (at : RegionId) : Type 0 where
  pub within : IsWithin m from at
  pub low : (n : ℕ) → HasRegionsAbove m (Region at) n → n ≤ level
  pub same : (r : RegionId) (n : ℕ) → HasRegionsAbove m (Region r) n → n ≤ level → IsWithin m from r → IsWithin m at r

-- Both regions are the third one, or nested in it.
abbrev pub AreWithin : DraftMachine → RegionId → RegionId → RegionId → Type 0
AreWithin m a b r = IsWithin m a r × IsWithin m b r

-- The region is the innermost one in which both others lie.
pub record IsMeet (m : DraftMachine) (a b meet : RegionId) : Type 0 where
  pub common : AreWithin m a b meet
  pub innermost : (r : RegionId) → AreWithin m a b r → IsWithin m meet r

-- The first and the first few of the vertices lie in the region.
pub record Encloses (m : DraftMachine) (list : List VertexId) (count : ℕ) (r : RegionId) : Type 0 where
  pub first : (d : VertexId) → LiesInRegion m (slice_index_or list 0 d) r
  pub few : (k : ℕ) (d : VertexId) → k < count → LiesInRegion m (slice_index_or list k d) r

-- The region is the innermost one in which these lie.
pub record IsInnermost (m : DraftMachine) (list : List VertexId) (count : ℕ) (r : RegionId) : Type 0 where
  pub encloses : Encloses m list count r
  pub within : (q : RegionId) → Encloses m list count q → IsWithin m r q
