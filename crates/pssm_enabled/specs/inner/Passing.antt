-- How the vertices that routes can pass are found and marked.
use Rattle.std.specs.Prelude.{◌≡◌, ◌⊎◌, ◌↔◌, ◌<◌, ◌≤◌, ℕ, List, length, take, get_or, sum_by, cond, Bool, Contains}
use Rattle.pssm_model.specs.declared.ids.VertexId.{VertexId}
use Rattle.pssm_model.specs.declared.ids.TransId.{TransId}
use Rattle.pssm_model.specs.declared.elements.DraftMachine.{DraftMachine}
use Rattle.pssm_model.specs.declared.elements.VertexKind.TheVariants as kinds
use Rattle.pssm_model.specs.Forest.{HasKind}
use Rattle.pssm_model.specs.Legs.{Leaves, Enters}
use Rattle.pssm_model.specs.Routes.{Truth, IsTrueAt}
use Rattle.pssm_enabled.specs.Ways.{IsPassedOver, HasWay}
use Rattle.pssm_enabled.specs.declared.passing.Points.{Points}
use Rattle.pssm_enabled.specs.inner.Fitting.{IsMarked}

-- Exactly the vertices from which a way leads on are marked.
abbrev pub KnowsWays : DraftMachine → Truth → List Bool → Type 0
KnowsWays m truth good = (v : VertexId) → v.0 < length m.vertices → (IsMarked good v.0 ↔ HasWay m truth v)

-- A way ends at the vertex: a route ends or forks there, or comes to an entry point without transitions out.
pub record EndsWay (m : DraftMachine) (v : VertexId) : Type 0 where
  pub passed : IsPassedOver m v → ⊥
  pub entry : HasKind m v kinds.EntryPoint → (t : TransId) → Leaves m t v → ⊥

-- A way ends at the vertex on which the transition does.
abbrev pub EndsWayBehind : DraftMachine → TransId → Type 0
EndsWayBehind m t = (w : VertexId) → Enters m t w → EndsWay m w

-- Ways end behind all transitions out of the vertex.
abbrev pub AllEndWays : DraftMachine → VertexId → Type 0
AllEndWays m v = (t : TransId) → Leaves m t v → EndsWayBehind m t

-- The transition ends on a marked vertex.
abbrev pub EndsOnMarked : DraftMachine → List Bool → TransId → Type 0
EndsOnMarked m good t = (w : VertexId) → Enters m t w → IsMarked good w.0

-- All transitions out of the vertex end on marked vertices.
abbrev pub AreAllGood : DraftMachine → List Bool → VertexId → Type 0
AreAllGood m good v = (t : TransId) → Leaves m t v → EndsOnMarked m good t

-- The transition is true and leaves a junction or exit point, or all transitions out of the entry point that it leaves end on marked vertices.
abbrev pub LeadsBack : DraftMachine → Truth → List Bool → TransId → Type 0
LeadsBack m truth good t =
    (v : VertexId) × Leaves m t v × ((IsPassedOver m v × IsTrueAt m truth t) ⊎ (HasKind m v kinds.EntryPoint × AreAllGood m good v))

-- the vertices that were found, in that order
abbrev pub found_by : Points → List VertexId
found_by points = take points.count points.found

-- What is marked was found, once, and is of the machine.
pub record IsFoundOnce (m : DraftMachine) (points : Points) : Type 0 where
  pub marks : (v : VertexId) → IsMarked points.good v.0 ↔ Contains (found_by points) v
  pub there : (v : VertexId) → Contains (found_by points) v → v.0 < length m.vertices
  pub counted : points.count ≡ sum_by (λ b. cond b 1 0) points.good
  pub room : points.count ≤ 4096
  pub once : (i j : ℕ) (d : VertexId) → i < j → j < points.count → get_or points.found i d ≡ get_or points.found j d → ⊥

-- more are marked and found, those that were found before at their places
pub record Grows (old new : Points) : Type 0 where
  pub marks : (w : VertexId) → IsMarked old.good w.0 → IsMarked new.good w.0
  pub kept : (n : ℕ) → n ≤ old.count → take n new.found ≡ take n old.found
  pub count : old.count ≤ new.count

-- the vertices with this one, those that were found before at their places
pub record IsFurther (old new : Points) (v : VertexId) : Type 0 where
  pub marks : (w : VertexId) → IsMarked new.good w.0 ↔ (IsMarked old.good w.0 ⊎ (w ≡ v))
  pub kept : (n : ℕ) → n ≤ old.count → take n new.found ≡ take n old.found
  pub count : old.count ≤ new.count

-- with this one, where a way ends there, and else the same
abbrev pub IsFurtherEnd : DraftMachine → Points → Points → VertexId → Type 0
IsFurtherEnd m old new v = (EndsWay m v × IsFurther old new v) ⊎ ((EndsWay m v → ⊥) × (new ≡ old))

-- with the source of the transition, where a way leads from there to its target, and else the same
abbrev pub IsFurtherBack : DraftMachine → Truth → Points → Points → TransId → Type 0
IsFurtherBack m truth old new t =
    ((v : VertexId) × Leaves m t v × LeadsBack m truth old.good t × IsFurther old new v) ⊎ ((LeadsBack m truth old.good t → ⊥) × (new ≡ old))

-- The vertices at which ways end are marked.
abbrev pub HasEnds : DraftMachine → Points → Type 0
HasEnds m points = (v : VertexId) → v.0 < length m.vertices → EndsWay m v → IsMarked points.good v.0

-- A way leads on from each marked vertex.
abbrev pub AllLead : DraftMachine → Truth → Points → Type 0
AllLead m truth points = (v : VertexId) → IsMarked points.good v.0 → HasWay m truth v

-- What leads to the vertices before the place is marked: from a junction or exit point to one of them, from an entry point to them alone.
pub record HasGoneBack (m : DraftMachine) (truth : Truth) (points : Points) (place : ℕ) : Type 0 where
  pub over : (t : TransId) (v w : VertexId) → IsPassedOver m v → Leaves m t v → IsTrueAt m truth t → Enters m t w
      → Contains (take place points.found) w → IsMarked points.good v.0
  pub all : (v : VertexId) → HasKind m v kinds.EntryPoint
      → ((t : TransId) (w : VertexId) → Leaves m t v → Enters m t w → Contains (take place points.found) w) → IsMarked points.good v.0
