-- Where paths stray, as the rules of paths ask of one transition.
use Rattle.std.specs.Prelude.{◌≡◌, ◌↔◌, List, [], ◌∷◌, true, false, length, slice_index_or, Some}
use Rattle.pssm_model.specs.declared.ids.VertexId.{VertexId}
use Rattle.pssm_model.specs.declared.ids.RegionId.{RegionId}
use Rattle.pssm_model.specs.declared.ids.TransId.{TransId}
use Rattle.pssm_model.specs.declared.elements.DraftMachine.{DraftMachine}
use Rattle.pssm_model.specs.declared.elements.Owner.{Owner}
use Rattle.pssm_model.specs.declared.elements.Owner.TheVariants.{Top, Region, State}
use Rattle.pssm_model.specs.Forest.{owner_of, LiesInRegion}
use Rattle.pssm_model.specs.Legs.{Enters}
use Rattle.pssm_model.specs.Shapes.{HasShape}
use Rattle.pssm_model.specs.FiringSets.{IsLateOrigin}
use Rattle.pssm_model.specs.Paths.{IsJunctionPath, Reaches}
use Rattle.pssm_model.specs.WellFormed.{IsOnCycle, LeavesRegion, HoldsRestOfPath}
use Rattle.pssm_wellformed.specs.declared.paths.VertexMarks.{VertexMarks}
use Rattle.pssm_wellformed.specs.declared.walks.Walk.TheVariants.{Junctions, Inner, Back}
use Rattle.pssm_wellformed.specs.declared.ends.End.TheVariants.{Source, Target}
use Rattle.pssm_wellformed.specs.inner.Apart.{AreApartMarks}
use Rattle.pssm_wellformed.specs.inner.Marks.{AreStrayMarks}

-- Some initial, history or choice vertex reaches the vertex through pseudostates.
abbrev pub IsReachedLate : DraftMachine → VertexId → Type 0
IsReachedLate m v = (w : VertexId) × IsLateOrigin m w × Reaches m w v

-- the marks of a machine
pub record AreVertexMarks (m : DraftMachine) (marks : VertexMarks) : Type 0 where
  pub shape : HasShape m
  pub junctions : AreStrayMarks m Junctions marks.junctions.items
  pub inner : AreStrayMarks m Inner marks.inner.items
  pub back : AreStrayMarks m Back marks.back.items
  pub width : length marks.late.items ≡ length m.vertices
  pub late : (v : VertexId) → (slice_index_or marks.late.items v.0 false ≡ true) ↔ IsReachedLate m v
  pub cyclic_width : length marks.cyclic.items ≡ length m.vertices
  pub cyclic : (v : VertexId) → (slice_index_or marks.cyclic.items v.0 false ≡ true) ↔ IsOnCycle m v
  pub sources_apart : AreApartMarks m Target Source (length m.vertices) marks.sources_apart.items
  pub targets_apart : AreApartMarks m Source Target (length m.vertices) marks.targets_apart.items

-- An inner path that begins with the transition leaves the region of the State in which the transition ends.
abbrev pub LeavesItsRegion : DraftMachine → TransId → VertexId → Type 0
LeavesItsRegion m t s =
    (w : VertexId) × (r : RegionId) × Enters m t w × (owner_of m (Region r) ≡ Some (State s)) × LiesInRegion m w r × LeavesRegion m t r

-- An inner path that begins with the transition leaves the region that owns its source, or the region of the State that does.
abbrev pub StraysFrom : DraftMachine → Owner → TransId → Type 0
StraysFrom m Top t = ⊥
StraysFrom m (Region r) t = LeavesRegion m t r
StraysFrom m (State s) t = LeavesItsRegion m t s

-- The path ends with the transition.
abbrev pub IsLast : List TransId → TransId → Type 0
IsLast [] e = ⊥
IsLast (t ∷ []) e = t ≡ e
IsLast (t ∷ u ∷ rest) e = IsLast (u ∷ rest) e

-- The other vertices of some junction path to the vertex that ends with the transition do not all lie in one region of the State.
abbrev pub ComesFromAfar : DraftMachine → VertexId → VertexId → TransId → Type 0
ComesFromAfar m v s e =
    (path : List TransId) × IsLast path e × IsJunctionPath m path v
    × ((r : RegionId) → owner_of m (Region r) ≡ Some (State s) → HoldsRestOfPath m path v r → ⊥)
