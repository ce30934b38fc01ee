-- Where the ends of several transitions lie.
use Rattle.std.specs.Prelude.{◌≡◌, ◌↔◌, ◌⊎◌, ◌<◌, ◌≤◌, ℕ, List, Bool, true, false, Some, length, slice_index_or, Contains}
use Rattle.pssm_model.specs.declared.ids.VertexId.{VertexId}
use Rattle.pssm_model.specs.declared.ids.RegionId.{RegionId}
use Rattle.pssm_model.specs.declared.ids.TransId.{TransId}
use Rattle.pssm_model.specs.declared.elements.DraftMachine.{DraftMachine}
use Rattle.pssm_model.specs.declared.elements.VertexKind.TheVariants as kinds
use Rattle.pssm_model.specs.declared.elements.Owner.TheVariants.{Region, State}
use Rattle.pssm_model.specs.Forest.{owner_of, LiesInRegion, LiesInState, OwnsOfKind}
use Rattle.pssm_model.specs.WellFormed.{Ends, LieApart}
use Rattle.pssm_wellformed.specs.declared.ends.End.{End}
use Rattle.pssm_wellformed.specs.inner.Ends.{HasEnd, HasRegion, region_number, transition_number}

-- The transition's end lies in the region.
abbrev pub EndLiesIn : DraftMachine → End → RegionId → TransId → Type 0
EndLiesIn m end r t = (w : VertexId) × HasEnd m end t w × LiesInRegion m w r

-- The transition's end lies in the State.
abbrev pub EndLiesInside : DraftMachine → End → VertexId → TransId → Type 0
EndLiesInside m end s t = (w : VertexId) × HasEnd m end t w × LiesInState m w s

-- the ends of these transitions
abbrev pub AreEnds : DraftMachine → End → List TransId → Ends
AreEnds m end ts t w = Contains ts t × HasEnd m end t w

-- The State owns the vertex, or stands beside it.
abbrev pub IsAround : DraftMachine → VertexId → VertexId → Type 0
IsAround m v s = (owner_of m (State v) ≡ Some (State s)) ⊎ ((r : RegionId) × OwnsOfKind m r kinds.State s × (owner_of m (State v) ≡ Some (Region r)))

-- the far ends of the transitions that meet at a vertex
abbrev pub AreOtherEnds : DraftMachine → End → End → VertexId → Ends
AreOtherEnds m near far v t w = HasEnd m near t v × HasEnd m far t w

-- They lie in different regions of a State around it.
abbrev pub LieApartAround : DraftMachine → End → End → VertexId → Type 0
LieApartAround m near far v = (s : VertexId) × IsAround m v s × LieApart m s (AreOtherEnds m near far v)

-- The State is one of some States; and where the ends lie in different regions of any of them, they do so of this one.
abbrev pub IsFitting : DraftMachine → (VertexId → Type 0) → Ends → VertexId → Type 0
IsFitting m These ends s = These s × ((q : VertexId) → These q → LieApart m q ends → LieApart m s ends)

-- a mark for each of the vertices below a number whose ends lie apart
pub record AreApartMarks (m : DraftMachine) (near far : End) (n : ℕ) (marks : List Bool) : Type 0 where
  pub width : length marks ≡ n
  pub apart : (v : VertexId) → v.0 < n → (slice_index_or marks v.0 false ≡ true) ↔ LieApartAround m near far v

-- one stamp by region, none above a number
pub record AreStamps (m : DraftMachine) (most : ℕ) (stamps : List ℕ) : Type 0 where
  pub width : length stamps ≡ length m.regions
  pub low : (r : ℕ) → slice_index_or stamps r 0 ≤ most

-- The transition's end lies in the region, which is one of the State.
abbrev pub EndLiesInOneOf : DraftMachine → End → VertexId → ℕ → TransId → Type 0
EndLiesInOneOf m end s r t = HasRegion m s.0 r × EndLiesIn m end (region_number r) t

-- the transition at a place of a list
abbrev pub placed : List TransId → ℕ → TransId
placed ts k = slice_index_or ts k (transition_number 0)

-- The ends of the first so many transitions lie in different regions of the State, and these regions have the stamp.
pub record AreStamped (m : DraftMachine) (end : End) (s : VertexId) (ts : List TransId) (count stamp : ℕ) (stamps : List ℕ) : Type 0 where
  pub are : AreStamps m stamp stamps
  pub stamped : (r : ℕ) → (slice_index_or stamps r 0 ≡ stamp) ↔ ((k : ℕ) × (k < count) × EndLiesInOneOf m end s r (placed ts k))
  pub inside : (k : ℕ) → k < count → EndLiesInside m end s (placed ts k)
  pub apart : (j k r : ℕ) → j < k → k < count → EndLiesInOneOf m end s r (placed ts j) → EndLiesInOneOf m end s r (placed ts k) → ⊥
