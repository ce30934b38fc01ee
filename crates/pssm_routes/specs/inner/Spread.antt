-- What tells at once that many footprints are apart: the regions that hold them, and those in which their anchors lie.
use Rattle.std.specs.Prelude.{◌≡◌, ◌⊎◌, ◌<◌, List, length, Bool, false, true, slice_index_or, Contains}
use Rattle.pssm_model.specs.declared.ids.VertexId.{VertexId}
use Rattle.pssm_model.specs.declared.ids.RegionId.{RegionId}
use Rattle.pssm_model.specs.declared.elements.DraftMachine.{DraftMachine}
use Rattle.pssm_model.specs.Forest.{LiesInRegion, IsWithin}
use Rattle.pssm_model.specs.Legs.{LiesInScope}
use Rattle.pssm_routes.specs.declared.areas.Footprint.{Footprint}
use Rattle.pssm_legs.specs.Areas.{scope_of}
use Rattle.pssm_routes.specs.inner.Sets.{AreApart}

-- The region is marked.
abbrev pub IsMarkedRegion : List Bool → RegionId → Type 0
IsMarkedRegion marks r = slice_index_or marks r.0 false ≡ true

-- a region that holds the anchor of the footprint and all that its area covers
pub record IsSpan (m : DraftMachine) (a : Footprint) (r : RegionId) : Type 0 where
  pub source : LiesInRegion m a.source r
  pub area : (v : VertexId) → LiesInScope m v (scope_of a.area) → LiesInRegion m v r

-- The footprints are apart; each has a span that is claimed, and the regions in which its anchor lies are met.
pub record AreSpread (m : DraftMachine) (footprints : List Footprint) (claimed met : List Bool) : Type 0 where
  pub apart : AreApart m footprints
  pub spans : (a : Footprint) → Contains footprints a → (r : RegionId) × IsSpan m a r × IsMarkedRegion claimed r
  pub lies : (a : Footprint) (r : RegionId) → Contains footprints a → LiesInRegion m a.source r → IsMarkedRegion met r

-- The regions around the vertex are not claimed, and are met.
pub record IsMetAround (m : DraftMachine) (v : VertexId) (claimed old new : List Bool) : Type 0 where
  pub free : (r : RegionId) → LiesInRegion m v r → IsMarkedRegion claimed r → ⊥
  pub here : (r : RegionId) → LiesInRegion m v r → IsMarkedRegion new r
  pub kept : (r : RegionId) → IsMarkedRegion old r → IsMarkedRegion new r

-- while the regions around the vertex are met, the innermost first: those that are not yet are this one and those around it
pub record IsMeeting (m : DraftMachine) (v : VertexId) (claimed old new : List Bool) (at : RegionId) : Type 0 where
  pub there : at.0 < length m.regions
  pub width : length new ≡ length m.regions
  pub kept : (r : RegionId) → IsMarkedRegion old r → IsMarkedRegion new r
  pub rest : (r : RegionId) → LiesInRegion m v r → ((IsMarkedRegion claimed r → ⊥) × IsMarkedRegion new r) ⊎ IsWithin m at r
