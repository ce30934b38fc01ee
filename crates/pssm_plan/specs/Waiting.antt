-- Which of its calls a call waits for.
use Rattle.std.specs.Prelude.{◌≡◌, ◌⊎◌, ◌<◌, ◌≤◌, ℕ, List, IsTrue, length, slice_index_or}
use Rattle.pssm_model.specs.declared.steps.Item.{Item}
use Rattle.pssm_plan.specs.declared.roster.Call.{Call}

-- The call holds up the item: it comes before it, in this order, and has not run.
abbrev pub HoldsUp : (Item → Item → Type 0) → Call → Item → Type 0
HoldsUp Comes on item = Comes on.item item × (IsTrue on.ran → ⊥)

-- A call at the first of these places meets the last of them before the second: it looks from its own place down to the first of all, and then from
-- the one behind its own on.
abbrev pub IsMetBefore : ℕ → ℕ → ℕ → Type 0
IsMetBefore place on k = ((on < k) × (k ≤ place)) ⊎ ((place < on) × (k < on))

-- The call at the place says exactly for which of these calls it waits, the nearest that holds it up: none that it meets before that does, and where
-- it is blocked the one that it names does; where it is not, it has met them all.
pub record IsExact (Comes : Item → Item → Type 0) (calls : List Call) (place : ℕ) (call : Call) : Type 0 where
  pub passed : (k : ℕ) (d : Call) → IsMetBefore place call.seen k → k < length calls → HoldsUp Comes (slice_index_or calls k d) call.item → ⊥
  pub waits : IsTrue call.blocked → (call.seen < length calls) × ((d : Call) → HoldsUp Comes (slice_index_or calls call.seen d) call.item)
  pub through : (IsTrue call.blocked → ⊥) → call.seen ≡ length calls
