-- How deep places stand, and which of them hold two vertices.
use Rattle.std.specs.Prelude.{◌≡◌, ◌↔◌, ◌⊎◌, ◌<◌, ◌≤◌, ℕ, suc, List, length, Contains, Some, slice_index_or, Vec}
use Rattle.std.specs.declared.alloc.Global.{Global}
use Rattle.pssm_model.specs.declared.ids.VertexId.{VertexId}
use Rattle.pssm_model.specs.declared.elements.DraftMachine.{DraftMachine}
use Rattle.pssm_model.specs.declared.elements.Owner.{Owner}
use Rattle.pssm_model.specs.declared.elements.Owner.TheVariants.{Top}
use Rattle.pssm_model.specs.Forest.{owner_of, LiesUnder}
use Rattle.pssm_wellformed.specs.inner.Lists.{list_at}
use Rattle.pssm_wellformed.specs.inner.Ends.{vertex_number}
use Rattle.pssm_wellformed.specs.inner.Walks.{LiesIn, IsThere}

-- how many places stand over a place: none over the machine, and one more than over its owner over any other
pub data IsLevel (m : DraftMachine) : Owner → ℕ → Type 0 where
  top : IsLevel m Top 0
  over : {p q : Owner} {k : ℕ} → owner_of m p ≡ Some q → IsLevel m q k → IsLevel m p (suc k)

-- The second place is the first one, or stands over it.
abbrev pub IsWithin : DraftMachine → Owner → Owner → Type 0
IsWithin m p q = (p ≡ q) ⊎ LiesUnder m p q

-- The place is the innermost one in which the vertex lies.
pub record IsHome (m : DraftMachine) (v : VertexId) (home : Owner) : Type 0 where
  pub there : IsThere m home
  pub lies : (p : Owner) → LiesIn m v p ↔ IsWithin m home p

-- Of the places that hold the first vertex those up to the level hold the second one too.
abbrev pub IsCommonLevel : DraftMachine → VertexId → VertexId → ℕ → Type 0
IsCommonLevel m v w n = (p : Owner) (k : ℕ) → LiesIn m v p → IsLevel m p k → LiesIn m w p ↔ (k ≤ n)

-- The climb from the first vertex has come to a place, and no place below it holds both vertices.
pub record IsClimbing (m : DraftMachine) (v w : VertexId) (place : Owner) (height : ℕ) : Type 0 where
  pub there : IsThere m place
  pub level : IsLevel m place height
  pub low : height ≤ 65
  pub holds : LiesIn m v place
  pub common : (p : Owner) → LiesIn m v p → LiesIn m w p → IsWithin m place p

-- The climbs from two vertices have come to a place each, and no place below either holds both.
abbrev pub AreClimbing : DraftMachine → VertexId → VertexId → Owner → ℕ → Owner → ℕ → Type 0
AreClimbing m v w place height other_place other_height = IsClimbing m v w place height × IsClimbing m w v other_place other_height

-- The place is a part of the whole, and the vertex lies in it.
abbrev pub IsPartWith : DraftMachine → VertexId → Owner → Owner → Type 0
IsPartWith m v whole part = IsThere m part × (owner_of m part ≡ Some whole) × LiesIn m v part

-- The climb from the vertex has come to a place, and no place below it is a part of the whole.
pub record IsSeeking (m : DraftMachine) (v : VertexId) (whole place : Owner) (height : ℕ) : Type 0 where
  pub there : IsThere m place
  pub level : IsLevel m place height
  pub holds : LiesIn m v place
  pub inner : (part : Owner) → IsPartWith m v whole part → IsWithin m place part

-- Some of these vertices lies outside the place.
abbrev pub SomeLieOutside : DraftMachine → List ℕ → Owner → Type 0
SomeLieOutside m heads p = (b : ℕ) × Contains heads b × (LiesIn m (vertex_number b) p → ⊥)

-- Of the places that hold the vertex those above the level do not hold all of these.
abbrev pub IsLowestLevel : DraftMachine → VertexId → List ℕ → ℕ → Type 0
IsLowestLevel m v heads n = (p : Owner) (k : ℕ) → LiesIn m v p → IsLevel m p k → (n < k) ↔ SomeLieOutside m heads p

-- The places that hold vertices below a number have levels below the count.
abbrev pub AreLevelsBelow : DraftMachine → ℕ → ℕ → Type 0
AreLevelsBelow m n count = (v : VertexId) (p : Owner) (k : ℕ) → v.0 < n → LiesIn m v p → IsLevel m p k → k < count

-- the lowest levels of the vertices below a number, each over its arrows
pub record AreLowestLevels (m : DraftMachine) (onward : List (Vec ℕ Global)) (n : ℕ) (lowest : List ℕ) : Type 0 where
  pub width : length lowest ≡ n
  pub levels : (a : ℕ) → a < n → IsLowestLevel m (vertex_number a) (list_at onward a) (slice_index_or lowest a 0)
