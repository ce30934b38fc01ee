-- What says that all has run that may hold up an item.
use Rattle.std.specs.Prelude.{◌≡◌, ◌⊎◌, ◌<◌, ◌≤◌, ℕ, List, [], IsTrue, length, slice_index_or}
use Rattle.pssm_model.specs.declared.ids.VertexId.{VertexId}
use Rattle.pssm_model.specs.declared.ids.RegionId.{RegionId}
use Rattle.pssm_model.specs.declared.ids.TransId.{TransId}
use Rattle.pssm_model.specs.declared.elements.DraftMachine.{DraftMachine}
use Rattle.pssm_model.specs.declared.elements.VertexKind.{VertexKind}
use Rattle.pssm_model.specs.declared.elements.VertexKind.TheVariants as kinds
use Rattle.pssm_model.specs.declared.steps.Item.{Item}
use Rattle.pssm_model.specs.declared.steps.Item.TheVariants.{Exit}
use Rattle.pssm_model.specs.Forest.{HasKind, LiesInRegion}
use Rattle.pssm_model.specs.Legs.{Leaves, Enters}
use Rattle.pssm_plan.specs.declared.ways.Way.{Way}
use Rattle.pssm_plan.specs.declared.roster.Call.{Call}
use Rattle.pssm_plan.specs.inner.Passes.{ArePassed}

-- The item has run, where it is listed.
abbrev pub IsDone : List Call → Item → Type 0
IsDone calls item = (k : ℕ) (d : Call) → k < length calls → (slice_index_or calls k d).item ≡ item → (IsTrue (slice_index_or calls k d).ran → ⊥) → ⊥

-- The way has one leg, of one transition.
pub record IsLone (way : Way) : Type 0 where
  pub alone : way.legs.more.items ≡ []
  pub single : way.legs.first.further.items ≡ []

-- The item is the exit of what lies in the region.
abbrev pub IsExitIn : DraftMachine → RegionId → Item → Type 0
IsExitIn m r x = (s : VertexId) × (x ≡ Exit s) × LiesInRegion m s r

-- None of the calls from the first of these places on and before the second is such an exit and has not run.
abbrev pub HasNoExitIn : DraftMachine → List Call → RegionId → ℕ → ℕ → Type 0
HasNoExitIn m calls r from place =
    (k : ℕ) (d : Call) → from ≤ k → k < place → k < length calls → IsExitIn m r (slice_index_or calls k d).item
    → (IsTrue (slice_index_or calls k d).ran → ⊥) → ⊥

-- The second transition goes on from the junction on which the first ends.
abbrev pub AreMeeting : DraftMachine → TransId → TransId → Type 0
AreMeeting m t u = (v : VertexId) × HasKind m v kinds.Junction × Enters m t v × Leaves m u v

-- What comes before the second item is the first, or comes before that.
abbrev pub LeadsTo : (Item → Item → Type 0) → Item → Item → Type 0
LeadsTo Comes x y = (z : Item) → Comes z y → (z ≡ x) ⊎ Comes z x

-- Nothing holds up those of the calls before the place that are not blocked.
abbrev pub AreClearBefore : (Item → Item → Type 0) → List Call → ℕ → Type 0
AreClearBefore Comes calls first =
    (k : ℕ) (d : Call) → k < first → k < length calls → (IsTrue (slice_index_or calls k d).blocked → ⊥)
    → ArePassed Comes calls (slice_index_or calls k d).item (length calls)

-- The transition leaves a vertex of the kind.
abbrev pub LeavesKind : DraftMachine → TransId → VertexKind → Type 0
LeavesKind m t kind = (v : VertexId) × HasKind m v kind × Leaves m t v

-- The transition enters a vertex of the kind.
abbrev pub EntersKind : DraftMachine → TransId → VertexKind → Type 0
EntersKind m t kind = (v : VertexId) × HasKind m v kind × Enters m t v
