-- What is known of the owner chains of a draft, and when it is right.
use Rattle.std.specs.Prelude.{◌≡◌, ◌≢◌, ◌⊎◌, ◌+◌, ◌≤◌, ◌<◌, ℕ, List, [], ◌∷◌, length, slice_index_or, cond, nat_lt, sum_by, Some, Contains}
use Rattle.pssm_model.specs.declared.elements.DraftMachine.{DraftMachine}
use Rattle.pssm_model.specs.declared.elements.Owner.{Owner}
use Rattle.pssm_model.specs.declared.elements.Owner.TheVariants.{Top, Region, State}
use Rattle.pssm_model.specs.declared.depths.Depth.{Depth}
use Rattle.pssm_model.specs.declared.depths.Depth.TheVariants.{Unknown, Within, Beyond, Nowhere}
use Rattle.pssm_model.specs.declared.depths.Depths.{Depths}
use Rattle.pssm_model.specs.Forest.{owner_of, HasRegionsAbove}

-- The place is a region or vertex of the draft.
abbrev pub IsPlace : DraftMachine → Owner → Type 0
IsPlace m Top = ⊥
IsPlace m (Region r) = r.0 < length m.regions
IsPlace m (State v) = v.0 < length m.vertices

-- This is the depth of the place: how many regions stand on its owner chain, more than 32, or that the chain does not end at the machine.
abbrev pub IsDepthOf : DraftMachine → Owner → Depth → Type 0
IsDepthOf m p Unknown = ⊥
IsDepthOf m p (Within n) = (n ≤ 32) × HasRegionsAbove m p n
IsDepthOf m p Beyond = (n : ℕ) × (32 < n) × HasRegionsAbove m p n
IsDepthOf m p Nowhere = (n : ℕ) → HasRegionsAbove m p n → ⊥

-- This is the depth of everything that the place owns.
abbrev pub IsDepthUnder : DraftMachine → Owner → Depth → Type 0
IsDepthUnder m q depth = (p : Owner) → owner_of m p ≡ Some q → IsDepthOf m p depth

-- one region more
abbrev pub one_deeper : Depth → Depth
one_deeper Unknown = Unknown
one_deeper (Within n) = cond (nat_lt n 32) (Within (n + 1)) Beyond
one_deeper Beyond = Beyond
one_deeper Nowhere = Nowhere

-- the depth of what a place owns, by the depth of the place itself
abbrev pub depth_under : Owner → Depth → Depth
depth_under Top depth = Within 0
depth_under (Region r) depth = one_deeper depth
depth_under (State v) depth = depth

-- what is noted for a place; outside of the draft no chain ends at the machine
abbrev pub noted : Depths → Owner → Depth
noted depths Top = Nowhere
noted depths (Region r) = slice_index_or depths.regions.items r.0 Nowhere
noted depths (State v) = slice_index_or depths.vertices.items v.0 Nowhere

-- Nothing is noted for the place, or its depth is.
abbrev pub IsRight : DraftMachine → Owner → Depth → Type 0
IsRight m p depth = (depth ≡ Unknown) ⊎ IsDepthOf m p depth

-- There is one note for each region and vertex of the draft.
pub record Covers (m : DraftMachine) (depths : Depths) : Type 0 where
  pub regions : length depths.regions.items ≡ length m.regions
  pub vertices : length depths.vertices.items ≡ length m.vertices

-- What is noted is right.
pub record AreDepths (m : DraftMachine) (depths : Depths) : Type 0 where
  pub covers : Covers m depths
  pub right : (p : Owner) → IsRight m p (noted depths p)

-- 1 where nothing is noted, otherwise 0
abbrev pub unknown : Depth → ℕ
unknown Unknown = 1
unknown (Within n) = 0
unknown Beyond = 0
unknown Nowhere = 0

-- for how many places nothing is noted
abbrev pub unknowns : Depths → ℕ
unknowns depths = sum_by unknown depths.regions.items + sum_by unknown depths.vertices.items

-- the place that stands behind the first ones: the front of the path, or where it leads
abbrev pub front_or : List Owner → Owner → Owner
front_or [] at = at
front_or (p ∷ path) at = p

-- The places are a part of an owner chain, each owned by the next, and the last by the place to which they lead.
abbrev pub IsPath : DraftMachine → List Owner → Owner → Type 0
IsPath m [] at = Unit {0}
IsPath m (p ∷ path) at = (owner_of m p ≡ Some (front_or path at)) × IsPath m path at

-- a part of an owner chain that was climbed, each of its places noted as leading nowhere until that is settled
pub record IsClimbed (m : DraftMachine) (path : List Owner) (at : Owner) (depths : Depths) : Type 0 where
  pub covers : Covers m depths
  pub leads : IsPath m path at
  pub right : (p : Owner) → IsRight m p (noted depths p) ⊎ (Contains path p × (noted depths p ≡ Nowhere))

-- a path up to a place whose depth is noted
pub record HasClimbed (m : DraftMachine) (path : List Owner) (depths : Depths) : Type 0 where
  pub end : Owner
  pub climbed : IsClimbed m path end depths
  pub depth : IsDepthOf m end (noted depths end)

-- There is a note for the place.
abbrev pub HasNote : Depths → Owner → Type 0
HasNote depths Top = ⊥
HasNote depths (Region r) = r.0 < length depths.regions.items
HasNote depths (State v) = v.0 < length depths.vertices.items

-- The depth of one place was noted, and nothing else changed.
pub record Notes (place : Owner) (depth : Depth) (old new : Depths) : Type 0 where
  pub here : noted new place ≡ depth
  pub others : (q : Owner) → (q ≡ place) ⊎ (noted new q ≡ noted old q)
  pub regions : length new.regions.items ≡ length old.regions.items
  pub vertices : length new.vertices.items ≡ length old.vertices.items
  pub fewer : noted old place ≡ Unknown → depth ≢ Unknown → unknowns new < unknowns old

-- What was known stays known.
abbrev pub KeepsKnown : Depths → Depths → Type 0
KeepsKnown old new = (p : Owner) → noted new p ≡ Unknown → noted old p ≡ Unknown
