-- What the functions that make the legs know of them while they do.
use Rattle.std.specs.Prelude.{◌≡◌, ◌⊎◌, ◌↔◌, ◌<◌, ◌≤◌, ℕ, List, ◌∷◌, Option, Some, None, Contains, get_or, slice_get, length}
use Rattle.pssm_model.specs.declared.ids.VertexId.{VertexId}
use Rattle.pssm_model.specs.declared.ids.RegionId.{RegionId}
use Rattle.pssm_model.specs.declared.ids.TransId.{TransId}
use Rattle.pssm_model.specs.declared.elements.DraftMachine.{DraftMachine}
use Rattle.pssm_model.specs.declared.elements.VertexKind.TheVariants as kinds
use Rattle.pssm_model.specs.declared.elements.Owner.TheVariants.{Region, State}
use Rattle.pssm_model.specs.declared.steps.Route.{Route}
use Rattle.pssm_model.specs.Forest.{HasKind, owner_of, LiesInRegion, IsScope}
use Rattle.pssm_model.specs.Legs.{On, SameLeg, NextLeg, Leaves, Enters, IsLastVertex}
use Rattle.pssm_model.specs.Items.{PathBefore}
use Rattle.pssm_model.specs.Paths.{IsJunctionPath}
use Rattle.pssm_legs.specs.declared.legs.Leg.{Leg}
use Rattle.pssm_legs.specs.declared.legs.Legs.{Legs}
use Rattle.pssm_legs.specs.LegsOf.{leg_list, IsAt, IsLegIn, IsLegOf, StandsBefore}

-- A leg whose transitions are taken in order begins with the transition: it leaves no junction and no fork, and ends on no join.
pub record BeginsChain (m : DraftMachine) (p : Route) (t : TransId) : Type 0 where
  pub on : On p t
  pub no_junction : (v : VertexId) → Leaves m t v → HasKind m v kinds.Junction → ⊥
  pub no_fork : (v : VertexId) → Leaves m t v → HasKind m v kinds.Fork → ⊥
  pub no_join : (v : VertexId) → Enters m t v → HasKind m v kinds.Join → ⊥

-- The leg takes this transition and then the others in their order, and ends on the vertex.
pub record IsChainOf (m : DraftMachine) (p : Route) (t : TransId) (ts : List TransId) (v : VertexId) : Type 0 where
  pub leg : (u : TransId) → Contains (t ∷ ts) u ↔ SameLeg m p t u
  pub order : (u w : TransId) → Contains (t ∷ ts) u → PathBefore m p u w ↔ StandsBefore (t ∷ ts) u w
  pub path : IsJunctionPath m (t ∷ ts) v
  pub last : (w : VertexId) → IsLastVertex m p t w ↔ (w ≡ v)

-- The vertex is a join and these are all transitions into it, or a fork and these are all out of it.
abbrev pub IsStarAt : DraftMachine → List TransId → VertexId → Type 0
IsStarAt m ts v =
    (HasKind m v kinds.Join × ((t : TransId) → Contains ts t ↔ Enters m t v))
    ⊎ (HasKind m v kinds.Fork × ((t : TransId) → Contains ts t ↔ Leaves m t v))

-- The leg is one of the route, named by this transition, and comes after the one with this place.
pub record IsMade (m : DraftMachine) (p : Route) (t : TransId) (before : Option ℕ) (leg : Leg) : Type 0 where
  pub named : leg.named ≡ t
  pub before_is : leg.before ≡ before
  pub inside : IsLegIn m leg
  pub of : IsLegOf m p leg

-- The leg is the one with which the route starts.
abbrev pub BeginsRoute : DraftMachine → Route → Leg → Type 0
BeginsRoute m p leg = Contains p.starts leg.named × IsMade m p leg.named None leg

-- The leg comes after one with a lower place: one of the first few, or the one with this place, behind which it begins with one of these.
pub record ComesAfterOne (m : DraftMachine) (p : Route) (legs : Legs) (place : ℕ) (Put : TransId → Type 0) (j : ℕ) (b : Leg) : Type 0 where
  pub place_before : ℕ
  pub leg_before : Leg
  pub named : b.before ≡ Some place_before
  pub at : IsAt legs place_before leg_before
  pub leads : NextLeg m p leg_before.named b.named
  pub lower : place_before < j
  pub done : (place_before < place) ⊎ ((place_before ≡ place) × Put b.named)

-- A leg of the list has the transition.
abbrev pub IsListed : DraftMachine → Route → Legs → TransId → Type 0
IsListed m p legs t = (j : ℕ) × (b : Leg) × IsAt legs j b × SameLeg m p b.named t

-- The legs so far: behind the legs with lower places all have been put, and behind that with the place those that begin with one of these.
pub record AreLegsSoFar (m : DraftMachine) (p : Route) (legs : Legs) (place : ℕ) (Put : TransId → Type 0) : Type 0 where
  pub inside : (i : ℕ) (a : Leg) → IsAt legs i a → IsLegIn m a
  pub each : (i : ℕ) (a : Leg) → IsAt legs i a → IsLegOf m p a
  pub start : Contains p.starts legs.first.named × (legs.first.before ≡ None)
  pub after : (j : ℕ) (b : Leg) → IsAt legs j b → 0 < j → ComesAfterOne m p legs place Put j b
  pub apart : (i j : ℕ) (a b : Leg) → IsAt legs i a → IsAt legs j b → SameLeg m p a.named b.named → i ≡ j
  pub put : (t : TransId) → Put t → IsListed m p legs t
  pub done : (i : ℕ) (a : Leg) (t : TransId) → i < place → IsAt legs i a → NextLeg m p a.named t → IsListed m p legs t
  pub reached : place ≤ length (leg_list legs)

-- the transitions that have been put before any is
abbrev pub NothingPut : TransId → Type 0
NothingPut t = ⊥

-- All legs behind those with lower places are in the list.
abbrev pub AreDone : DraftMachine → Route → Legs → ℕ → Type 0
AreDone m p legs place = AreLegsSoFar m p legs place NothingPut

-- The leg with the place ends on the vertex.
abbrev pub EndsLeg : DraftMachine → Route → Legs → ℕ → VertexId → Type 0
EndsLeg m p legs place v = (a : Leg) × IsAt legs place a × (v ≡ a.last) × IsLastVertex m p a.named v

-- one of the first few of the list
abbrev pub IsAmongFirst : List TransId → ℕ → TransId → Type 0
IsAmongFirst ts count t = (i : ℕ) × (i < count) × (slice_get ts i ≡ Some t)

-- The leg with the place ends on the vertex, and behind it those that begin with one of these have been put.
pub record ArePut (m : DraftMachine) (p : Route) (legs : Legs) (place : ℕ) (v : VertexId) (Put : TransId → Type 0) : Type 0 where
  pub ends : EndsLeg m p legs place v
  pub so_far : AreLegsSoFar m p legs place Put

-- a join, an entry or an exit point
abbrev pub BeginsChains : DraftMachine → VertexId → Type 0
BeginsChains m v = HasKind m v kinds.Join ⊎ HasKind m v kinds.EntryPoint ⊎ HasKind m v kinds.ExitPoint

-- the ends of the first transition, and the targets of the first few of the further ones
abbrev pub IsMet : DraftMachine → TransId → List TransId → ℕ → VertexId → Type 0
IsMet m t ts count v =
    (Leaves m t v ⊎ Enters m t v) ⊎ ((i : ℕ) × (u : TransId) × (i < count) × (u ≡ get_or ts i u) × Enters m u v)

-- The region is one of the State that owns the point, and the vertex lies in it.
abbrev pub IsRegionAt : DraftMachine → VertexId → VertexId → RegionId → Type 0
IsRegionAt m point v r =
    (s : VertexId) × (owner_of m (State point) ≡ Some (State s)) × (owner_of m (Region r) ≡ Some (State s)) × LiesInRegion m v r

-- The region is that of the State of the point at which the path begins or ends in which its other vertices lie, and else the innermost one
-- in which all its vertices lie.
abbrev pub IsRegionOfPath : DraftMachine → TransId → List TransId → VertexId → VertexId → RegionId → Type 0
IsRegionOfPath m t ts source last r =
    (HasKind m source kinds.EntryPoint × ((w : VertexId) × Enters m t w × IsRegionAt m source w r))
    ⊎ ((HasKind m source kinds.EntryPoint → ⊥) × HasKind m last kinds.ExitPoint × IsRegionAt m last source r)
    ⊎ ((HasKind m source kinds.EntryPoint → ⊥) × (HasKind m last kinds.ExitPoint → ⊥) × IsScope m (IsMet m t ts (length ts)) r)
