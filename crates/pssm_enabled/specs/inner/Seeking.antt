-- What a search keeps true while it goes on from one junction or exit point after another.
use Rattle.std.specs.Prelude.{◌≡◌, ◌⊎◌, ◌↔◌, ◌<◌, ◌≤◌, ℕ, List, [], ◌∷◌, ◌++◌, length, take, Bool, true, false, Option, Some, slice_get, Contains}
use Rattle.pssm_model.specs.declared.ids.VertexId.{VertexId}
use Rattle.pssm_model.specs.declared.ids.RegionId.{RegionId}
use Rattle.pssm_model.specs.declared.ids.TransId.{TransId}
use Rattle.pssm_model.specs.declared.elements.DraftMachine.{DraftMachine}
use Rattle.pssm_model.specs.Legs.{Leaves, Enters}
use Rattle.pssm_model.specs.Routes.{Truth}
use Rattle.pssm_enabled.specs.declared.seeking.Step.{Step}
use Rattle.pssm_enabled.specs.declared.seeking.Search.{Search}
use Rattle.pssm_enabled.specs.Ways.{IsPassedOver, IsOpen, IsWay}
use Rattle.pssm_enabled.specs.Steps.{IsTrail, IsSeen}

-- the steps that the search keeps, in the order in which it came to their targets
abbrev pub kept : Search → List Step
kept search = take search.count search.steps

-- What coming to the target of the step's transition makes of a search, and whether the target is no junction or exit point. One that was
-- not seen before is marked, and the step is kept.
pub data ComesTo (m : DraftMachine) (old : Search) (step : Step) (new : Search) : Bool → Type 0 where
  out : ((v : VertexId) → Enters m step.by v → IsPassedOver m v → ⊥) → new ≡ old → ComesTo m old step new true
  again : {v : VertexId} → Enters m step.by v → IsPassedOver m v → IsSeen old v → new ≡ old → ComesTo m old step new false
  first : {v : VertexId} → Enters m step.by v → IsPassedOver m v → (IsSeen old v → ⊥)
      → ((w : VertexId) → IsSeen new w ↔ (IsSeen old w ⊎ (w ≡ v))) → kept new ≡ kept old ++ step ∷ [] → ComesTo m old step new false

-- What trying the step makes of a search: nothing where its transition is not open.
pub data Tries (m : DraftMachine) (truth : Truth) (within : Option RegionId) (old : Search) (step : Step) (new : Search) : Bool → Type 0 where
  closed : (IsOpen m truth within step.by → ⊥) → new ≡ old → Tries m truth within old step new false
  comes : {ends : Bool} → IsOpen m truth within step.by → ComesTo m old step new ends → Tries m truth within old step new ends

-- Each kept step came to a junction or exit point, and no two of them to the same.
pub record ComesOnce (m : DraftMachine) (search : Search) : Type 0 where
  pub comes : (k : ℕ) (step : Step) → slice_get (kept search) k ≡ Some step
      → (v : VertexId) × Enters m step.by v × IsPassedOver m v × IsSeen search v
  pub once : (i k : ℕ) (a b : Step) (v : VertexId) → i < k → slice_get (kept search) i ≡ Some a → slice_get (kept search) k ≡ Some b
      → Enters m a.by v → Enters m b.by v → ⊥
  pub room : search.count ≤ 4096

-- The kept steps tell a way from the start to the step's transition, over vertices that were seen.
pub record IsLed (m : DraftMachine) (truth : Truth) (within : Option RegionId) (start : TransId) (search : Search) (step : Step) : Type 0 where
  pub passed : List VertexId
  pub path : List TransId
  pub trail : IsTrail (kept search) step path
  pub way : IsWay m truth within start step.by passed path
  pub seen : (v : VertexId) → Contains passed v → IsSeen search v

-- The way to the step's target has not passed it before.
pub record IsLedOn (m : DraftMachine) (truth : Truth) (within : Option RegionId) (start : TransId) (search : Search) (step : Step) : Type 0 where
  pub led : IsLed m truth within start search step
  pub fresh : (v : VertexId) → Enters m step.by v → Contains led.passed v → ⊥

-- Where the transition is open, it ends on a junction or exit point that was seen.
abbrev pub IsTried : DraftMachine → Truth → Option RegionId → Search → TransId → Type 0
IsTried m truth within search u =
    (w : VertexId) → IsOpen m truth within u → Enters m u w → IsPassedOver m w × IsSeen search w

-- Each transition out of the step's target was tried.
abbrev pub IsGoneOnFrom : DraftMachine → Truth → Option RegionId → Search → Step → Type 0
IsGoneOnFrom m truth within search step = (u : TransId) (v : VertexId) → Enters m step.by v → Leaves m u v → IsTried m truth within search u

-- A kept step came to the vertex.
abbrev pub HasStepTo : DraftMachine → Search → VertexId → Type 0
HasStepTo m search v = (k : ℕ) × (step : Step) × (slice_get (kept search) k ≡ Some step) × Enters m step.by v

-- Each kept step tells a way; the search has gone on from those before the place, and has found no way out; it has marked only what the
-- search before had marked, or what a kept step came to.
pub record KeepsWays (m : DraftMachine) (truth : Truth) (within : Option RegionId) (start : TransId) (before search : Search) (place : ℕ) : Type 0 where
  pub led : (k : ℕ) (step : Step) → slice_get (kept search) k ≡ Some step → IsLedOn m truth within start search step
  pub gone : (k : ℕ) (step : Step) → k < place → slice_get (kept search) k ≡ Some step → IsGoneOnFrom m truth within search step
  pub reached : place ≤ length (kept search)
  pub marks : (v : VertexId) → IsSeen search v → IsSeen before v ⊎ HasStepTo m search v

-- The search has tried the start, and has gone on from the kept steps before the place.
pub record IsUnderWay (m : DraftMachine) (truth : Truth) (within : Option RegionId) (start : TransId) (before search : Search) (place : ℕ) : Type 0 where
  pub begun : IsTried m truth within search start
  pub keeps : KeepsWays m truth within start before search place

-- While the search goes on from the kept step with this place, it has tried the transitions before the index.
pub record GoesOn (m : DraftMachine) (Told : Truth → Type 0) (within : Option RegionId) (place : ℕ) (items : List TransId) (initial search : Search)
    (index : ℕ) : Type 0 where
  pub once : ComesOnce m search
  pub here : (truth : Truth) (step : Step) → Told truth → slice_get (kept initial) place ≡ Some step → slice_get (kept search) place ≡ Some step
  pub keeps : (truth : Truth) (start : TransId) (before : Search) → Told truth → IsUnderWay m truth within start before initial place
      → IsUnderWay m truth within start before search place
  pub tried : (truth : Truth) (k : ℕ) (u : TransId) → Told truth → k < index → slice_get items k ≡ Some u → IsTried m truth within search u
