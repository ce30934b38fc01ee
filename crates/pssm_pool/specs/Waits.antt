-- The pools of all objects: the signals that wait in each, how one more comes, and how one is taken (UML 2.5.1 14.2.3.9, event pool).
use Rattle.std.specs.Prelude.{◌≡◌, ◌<◌, ◌++◌, ℕ, List, [], ◌∷◌, length, Some, slice_get, slice_set}
use Rattle.std.specs.List.{remove, slice_index_or, sum_by}
use Rattle.pssm_semantics.specs.declared.entry.ObjectId.{ObjectId}
use Rattle.pssm_links.specs.declared.slot.SlotId.{SlotId}
use Rattle.pssm_pool.specs.declared.pools.Waiting.{Waiting}

-- what waits, the slots that it stands in, and how many more signals can come without memory being taken
pub record Waits : Type 0 where
  -- for each object, the signals that wait for it in the order in which they came (UML 2.5.1 14.2.3.9, event pool)
  pub waiting : List (List Waiting)
  -- for each object, the slots of these signals
  pub slots : List (List SlotId)
  pub spare : ℕ

-- the signals that wait for an object; none for an object that has no pool
abbrev pub waiting_for : List (List Waiting) → ObjectId → List Waiting
waiting_for waiting o = slice_index_or waiting o.0 []

-- the slots that they stand in
abbrev pub slots_for : List (List SlotId) → ObjectId → List SlotId
slots_for slots o = slice_index_or slots o.0 []

-- how many signals wait in all pools together
abbrev pub held_in : List (List Waiting) → ℕ
held_in waiting = sum_by length waiting

-- the pools once the signal has come to the pool of an object (UML 2.5.1 14.2.3.9, arrival of an event occurrence)
abbrev pub with_arrived : List (List Waiting) → ObjectId → Waiting → List (List Waiting)
with_arrived waiting o w = slice_set waiting o.0 (waiting_for waiting o ++ w ∷ [])

-- the pools once the signal at a place of an object's pool has been taken (UML 2.5.1 14.2.3.9, dispatch of an event occurrence)
abbrev pub without : List (List Waiting) → ObjectId → ℕ → List (List Waiting)
without waiting o k = slice_set waiting o.0 (remove (waiting_for waiting o) k)

-- The slot is that of the signal at a place of an object's pool (this profile's choice).
pub record IsSlotOf (pools : Waits) (slot : SlotId) (o : ObjectId) (k : ℕ) : Type 0 where
  pub place : slice_get (slots_for pools.slots o) k ≡ Some slot
  pub waits : k < length (waiting_for pools.waiting o)

-- It is the slot of a signal that waits.
abbrev pub IsSlot : Waits → SlotId → Type 0
IsSlot pools slot = (o : ObjectId) × (k : ℕ) × IsSlotOf pools slot o k

-- Each signal that waits has a slot.
abbrev pub HaveSlots : Waits → Type 0
HaveSlots pools = (o : ObjectId) (k : ℕ) → k < length (waiting_for pools.waiting o) → (slot : SlotId) × IsSlotOf pools slot o k

-- No two have the same.
abbrev pub HaveOwnSlots : Waits → Type 0
HaveOwnSlots pools =
    (slot : SlotId) (o p : ObjectId) (k j : ℕ) → IsSlotOf pools slot o k → IsSlotOf pools slot p j → (o ≡ p) × (k ≡ j)

-- The signal at a place of an object's pool is this one.
abbrev pub StandsAt : List (List Waiting) → ObjectId → ℕ → Waiting → Type 0
StandsAt waiting o k w = slice_get (waiting_for waiting o) k ≡ Some w
