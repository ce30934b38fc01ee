-- Where the items of a list of calls stand in it, as a table tells.
use Rattle.std.specs.Prelude.{◌≡◌, ◌≢◌, ◌⊎◌, ◌<◌, ◌≤◌, ◌++◌, ◌∷◌, [], ℕ, List, IsTrue, AllPairs, length, slice_index_or}
use Rattle.pssm_model.specs.declared.ids.VertexId.{VertexId}
use Rattle.pssm_model.specs.declared.steps.Item.{Item}
use Rattle.pssm_model.specs.declared.steps.Item.TheVariants.{Exit, Effect, Enter, Opened, Pick}
use Rattle.pssm_model.specs.declared.steps.Mode.TheVariants.{Plain, Shallow, Deep}
use Rattle.pssm_plan.specs.declared.roster.Call.{Call}
use Rattle.pssm_plan.specs.declared.places.Row.{Row}
use Rattle.pssm_plan.specs.inner.Marks.{IsListed}

-- calls in a row
pub record CallList : Type 0 where
  pub items : List Call

-- the number of the vertex, the transition or the region that an item names
abbrev pub item_number : Item → ℕ
item_number (Exit s) = s.0
item_number (Effect t) = t.0
item_number (Enter s) = s.0
item_number (Opened r mode) = r.0
item_number (Pick c) = c.0

-- the place that a row keeps for an item of its number
abbrev pub kept_in : Row → Item → ℕ
kept_in row (Exit s) = row.exit
kept_in row (Effect t) = row.effect
kept_in row (Enter s) = row.entry
kept_in row (Opened r Plain) = row.plain
kept_in row (Opened r Shallow) = row.shallow
kept_in row (Opened r Deep) = row.deep
kept_in row (Pick c) = row.pick

-- the row with another place for an item of its number
abbrev pub with_kept : Row → Item → ℕ → Row
with_kept row (Exit s) place = record row { exit = place }
with_kept row (Effect t) place = record row { effect = place }
with_kept row (Enter s) place = record row { entry = place }
with_kept row (Opened r Plain) place = record row { plain = place }
with_kept row (Opened r Shallow) place = record row { shallow = place }
with_kept row (Opened r Deep) place = record row { deep = place }
with_kept row (Pick c) place = record row { pick = place }

-- the row of a number for which nothing was noted
abbrev pub no_row : Row
no_row = record { exit = 0; effect = 0; entry = 0; plain = 0; shallow = 0; deep = 0; pick = 0 }

-- the place that the table keeps for an item
abbrev pub place_in : List Row → Item → ℕ
place_in rows item = kept_in (slice_index_or rows (item_number item) no_row) item

-- how many calls are looked through, before the table is asked
abbrev pub looked_through : ℕ
looked_through = 4

-- No item is listed twice, and the table keeps the place of each of the calls, but for the first few.
pub record ArePlaced (calls : List Call) (rows : List Row) : Type 0 where
  pub once : AllPairs (λ a b. a.item ≢ b.item) calls
  pub placed : (k : ℕ) (d : Call) → looked_through ≤ k → k < length calls → place_in rows (slice_index_or calls k d).item ≡ k

-- The second list is the first with this call behind the others, or the first itself where its item is listed in it.
abbrev pub IsAdded : List Call → Call → List Call → Type 0
IsAdded old call new = (IsListed old call.item × (new ≡ old)) ⊎ ((IsListed old call.item → ⊥) × (new ≡ old ++ call ∷ []))

-- No call from a place on and before another is of the entry of the State and has not run.
abbrev pub IsEntryFreeFrom : List Call → VertexId → ℕ → ℕ → Type 0
IsEntryFreeFrom calls s from end =
    (k : ℕ) (d : Call) → from ≤ k → k < end → k < length calls → (slice_index_or calls k d).item ≡ Enter s → (IsTrue (slice_index_or calls k d).ran → ⊥) → ⊥
