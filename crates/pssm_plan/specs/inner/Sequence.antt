-- Which of the items that a step calls come before which, in a step that goes by these ways; and the lists of its items.
use Rattle.std.specs.Prelude.{◌⊎◌, ◌↔◌, ◌<◌, ◌≤◌, ◌≢◌, ℕ, List, Contains, AllPairs, drop, length, slice_index_or}
use Rattle.pssm_model.specs.declared.ids.VertexId.{VertexId}
use Rattle.pssm_model.specs.declared.ids.RegionId.{RegionId}
use Rattle.pssm_model.specs.declared.elements.DraftMachine.{DraftMachine}
use Rattle.pssm_model.specs.declared.steps.Item.{Item}
use Rattle.pssm_model.specs.declared.steps.Item.TheVariants.{Exit, Effect, Enter, Opened, Pick}
use Rattle.pssm_model.specs.Forest.{LiesInState}
use Rattle.pssm_legs.specs.Calls.{IsItemIn}
use Rattle.pssm_plan.specs.declared.ways.Way.{Way}
use Rattle.pssm_plan.specs.declared.roster.Call.{Call}
use Rattle.pssm_plan.specs.declared.waiting.Since.{Since}
use Rattle.pssm_plan.specs.inner.ByWays.{calls_by, opens_by, orders_by}
use Rattle.pssm_plan.specs.inner.Marks.{IsListed, IsMarked, IsFresh}

-- One of the ways opens the region of the State.
abbrev pub IsOpenedBySome : DraftMachine → List Way → VertexId → RegionId → Type 0
IsOpenedBySome m ways s r = (way : Way) × Contains ways way × opens_by m way s r

-- One of the ways orders the items so.
abbrev pub IsOrderedBySome : DraftMachine → List Way → Item → Item → Type 0
IsOrderedBySome m ways x y = (way : Way) × Contains ways way × orders_by m way x y

-- exits from within, entries from without
abbrev pub IsNestedPair : DraftMachine → Item → Item → Type 0
IsNestedPair m (Exit s) (Exit q) = LiesInState m s q
IsNestedPair m (Enter s) (Enter q) = LiesInState m q s
IsNestedPair m _ _ = ⊥

-- A leg that is one transition may put items of these kinds in this order: an exit before effects, effects before entries, and both before what is
-- called at the end.
abbrev pub MayOrder : Item → Item → Type 0
MayOrder (Exit s) (Effect t) = Unit {0}
MayOrder (Effect t) (Enter s) = Unit {0}
MayOrder (Effect t) (Opened r mode) = Unit {0}
MayOrder (Effect t) (Pick c) = Unit {0}
MayOrder (Enter s) (Opened r mode) = Unit {0}
MayOrder (Enter s) (Pick c) = Unit {0}
MayOrder _ _ = ⊥

-- The way has more than one leg, or its first leg more than one transition.
abbrev pub IsLong : Way → Type 0
IsLong way = 0 < length way.legs.more.items ⊎ 0 < length way.legs.first.further.items

-- One of the ways is long.
abbrev pub IsSomeLong : List Way → Type 0
IsSomeLong ways = (way : Way) × Contains ways way × IsLong way

-- the number of the kind of an item: exits, effects, entries, openings and picks
abbrev pub kind_number : Item → ℕ
kind_number (Exit s) = 0
kind_number (Effect t) = 1
kind_number (Enter s) = 2
kind_number (Opened r mode) = 3
kind_number (Pick c) = 4

-- The first of two called items comes before the second.
abbrev pub IsSequence : DraftMachine → List Way → Item → Item → Type 0
IsSequence m ways x y = IsNestedPair m x y ⊎ IsOrderedBySome m ways x y

-- Of these calls, no way orders one from this place on and one that stands before the place.
abbrev pub AreApartFrom : DraftMachine → List Way → List Call → ℕ → Type 0
AreApartFrom m ways calls first =
    (j k : ℕ) (d : Call) → j < first → first ≤ k → k < length calls
    → (IsOrderedBySome m ways (slice_index_or calls k d).item (slice_index_or calls j d).item
    ⊎ IsOrderedBySome m ways (slice_index_or calls j d).item (slice_index_or calls k d).item) → ⊥

-- Of these calls, none from the first of these places on and before the second comes before any by where their States lie.
abbrev pub AreLooseUpTo : DraftMachine → List Call → ℕ → ℕ → Type 0
AreLooseUpTo m calls first nests =
    (k : ℕ) (d : Call) (x : Item) → first ≤ k → k < nests → k < length calls → IsNestedPair m (slice_index_or calls k d).item x → ⊥

-- The calls from this place on are new: no way orders one of them and another, and only ways from this place on call them.
pub record AreNewSince (m : DraftMachine) (ways : List Way) (calls : List Call) (since : Since) : Type 0 where
  pub within : since.calls ≤ length calls
  pub ways_within : since.ways ≤ length ways
  pub apart : AreApartFrom m ways calls since.calls
  pub by : (k : ℕ) (d : Call) → since.calls ≤ k → k < length calls → (way : Way) → Contains ways way
      → calls_by m way (slice_index_or calls k d).item → Contains (drop since.ways ways) way

-- The call is one of these.
pub record IsNewCall (m : DraftMachine) (ways : List Way) (calls : List Call) (call : Call) (since : Since) : Type 0 where
  pub within : since.calls ≤ length calls
  pub ways_within : since.ways ≤ length ways
  pub apart : (j : ℕ) (d : Call) → j < since.calls → j < length calls → IsOrderedBySome m ways (slice_index_or calls j d).item call.item → ⊥
  pub by : (way : Way) → Contains ways way → calls_by m way call.item → Contains (drop since.ways ways) way

-- The item is neither an opening nor a pick.
abbrev pub IsNoEnd : Item → Type 0
IsNoEnd (Opened r mode) = ⊥
IsNoEnd (Pick c) = ⊥
IsNoEnd _ = Unit {0}

-- No item comes before this one by where their States lie.
abbrev pub IsNestedInNone : DraftMachine → Item → Type 0
IsNestedInNone m item = (x : Item) → IsNestedPair m x item → ⊥

-- What each listed item names is there.
abbrev pub AreItemsOf : DraftMachine → List Call → Type 0
AreItemsOf m calls = (item : Item) → IsListed calls item → IsItemIn m item

-- The list is that of a roster: its items are there, and none is listed twice.
pub record IsRoster (m : DraftMachine) (calls : List Call) : Type 0 where
  pub items : AreItemsOf m calls
  pub once : AllPairs (λ a b. a.item ≢ b.item) calls

-- The list is that of a roster that has besides the items that these calls have those that are added, which have not run and have not looked
-- at the others yet.
pub record IsExtended (m : DraftMachine) (old : List Call) (Added : Item → Type 0) (calls : List Call) : Type 0 where
  pub roster : IsRoster m calls
  pub listed : (x : Item) → IsListed calls x ↔ (IsListed old x ⊎ Added x)
  pub marked : (x : Item) → IsMarked calls x ↔ IsMarked old x
  pub fresh : (call : Call) → Contains calls call → Contains old call ⊎ IsFresh call
