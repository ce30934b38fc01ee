-- Pools: the signals that wait for an object, and those that one more entry adds.
use Rattle.std.specs.Prelude.{◌≡◌, ◌≢◌, ◌<◌, ◌+◌, ◌==◌, ℕ, List, [], ◌∷◌, if◌then◌else◌, length, map, Option, Some, None, MatchOption, slice_get, slice_set}
use Rattle.std.specs.List.{AllByRecursion, remove}
use Rattle.pssm_semantics.specs.declared.entry.ObjectId.{ObjectId}
use Rattle.pssm_semantics.specs.declared.entry.Entry.{Entry}
use Rattle.pssm_semantics.specs.declared.entry.Entry.TheVariants.{Take}
use Rattle.pssm_semantics.specs.declared.stimulus.Stimulus.{Stimulus}
use Rattle.pssm_semantics.specs.Journal.{object_of}
use Rattle.pssm_pool.specs.declared.pools.Waiting.{Waiting}
use Rattle.pssm_links.specs.declared.slot.SlotId.{SlotId}
use Rattle.pssm_pool.specs.Waits.{Waits, waiting_for, with_arrived, without, IsSlotOf}
use Rattle.pssm_object.specs.Following.{stimulus_of}

-- the first of the signals that has this number
abbrev pub with_number : ℕ → List Waiting → Option Waiting
with_number n [] = None
with_number n (w ∷ rest) = if w.number == n then Some w else with_number n rest

-- the signals without the first that has this number
abbrev pub without_number : ℕ → List Waiting → List Waiting
without_number n [] = []
without_number n (w ∷ rest) = if w.number == n then rest else w ∷ without_number n rest

-- None of the signals has this number.
abbrev pub HasNoNumber : ℕ → List Waiting → Type 0
HasNoNumber n waiting = AllByRecursion (λ w. w.number ≢ n) waiting

-- No two of the signals have the same number.
abbrev pub HaveOwnNumbers : List Waiting → Type 0
HaveOwnNumbers waiting =
    (j k : ℕ) (v w : Waiting) → slice_get waiting j ≡ Some v → slice_get waiting k ≡ Some w → v.number ≡ w.number → j ≡ k

-- the place of the first signal that has this number
pub record IsPlaceOf (n : ℕ) (waiting : List Waiting) (k : ℕ) : Type 0 where
  pub there : k < length waiting
  pub signal : with_number n waiting ≡ slice_get waiting k
  pub others : without_number n waiting ≡ remove waiting k

-- The slot is that of the first signal of the object that has this number.
abbrev pub IsSlotWith : ℕ → Waits → ObjectId → SlotId → Type 0
IsSlotWith n pools o slot = (k : ℕ) × IsSlotOf pools slot o k × IsPlaceOf n (waiting_for pools.waiting o) k

-- the signal that a take takes: the one in its object's pool with the number that the take names
abbrev pub signal_taken : List (List Waiting) → Entry → Option Waiting
signal_taken pools (Take o number firing) = with_number number (waiting_for pools o)
signal_taken pools _ = None

-- the signal with a number as it waits
abbrev pub waiting_as : ℕ → Stimulus → Waiting
waiting_as n x = record { number = n; signal = x.signal; args = x.args }

-- those of the signals that are sent to the object, numbered in order
abbrev pub arriving : ObjectId → ℕ → List Stimulus → List Waiting
arriving o n [] = []
arriving o n (x ∷ rest) = if x.object.0 == o.0 then waiting_as n x ∷ arriving o (n + 1) rest else arriving o (n + 1) rest

-- the pools once the signals have come to those of their objects, numbered in order
abbrev pub delivered : ℕ → List Stimulus → List (List Waiting) → List (List Waiting)
delivered n [] pools = pools
delivered n (x ∷ rest) pools = delivered (n + 1) rest (with_arrived pools x.object (waiting_as n x))

-- the pools once the entry has come: a take takes the signal of its object that it names
abbrev pub left_by : Entry → List (List Waiting) → List (List Waiting)
left_by (Take o number firing) pools = slice_set pools o.0 (without_number number (waiting_for pools o))
left_by _ pools = pools

-- The slot is that of the signal that the entry takes.
pub record IsTakenAt (pools : Waits) (e : Entry) (slot : SlotId) : Type 0 where
  pub object : ObjectId
  pub own : object ≡ object_of e
  pub place : ℕ
  pub is : IsSlotOf pools slot object place
  pub signal : signal_taken pools.waiting e ≡ slice_get (waiting_for pools.waiting object) place
  pub others : left_by e pools.waiting ≡ without pools.waiting object place

-- The entry takes the signal at the slot, or none.
abbrev pub IsSlotTaken : Waits → Entry → Option SlotId → Type 0
IsSlotTaken pools e slot = MatchOption slot ((signal_taken pools.waiting e ≡ None) × (left_by e pools.waiting ≡ pools.waiting)) (IsTakenAt pools e)

-- Each of the signals is sent to an object that has a pool.
abbrev pub HavePools : List Stimulus → ℕ → Type 0
HavePools signals count = AllByRecursion (λ x. x.object.0 < count) signals

-- the waiting signals of an object, each with its number
abbrev pub numbered_for : ObjectId → List Waiting → List (ℕ × Stimulus)
numbered_for o waiting = map (λ w. (w.number, stimulus_of o w)) waiting
