-- How the slots are linked. No public clause cites this module.
use Rattle.std.specs.Prelude.{◌≡◌, ◌≢◌, ◌≤◌, ◌<◌, ◌+◌, ◌^◌, ◌++◌, ℕ, zero, suc, List, [], ◌∷◌, length, map, Option, Some, None, slice_get, slice_set, eqb, cond}
use Rattle.std.specs.List.{AllByRecursion, remove, sum_by, slice_index_or}
use Rattle.std.specs.Option.{option_map_or}
use Rattle.pssm_links.specs.declared.links.Slot.{Slot}
use Rattle.pssm_links.specs.Chained.{Linked, list_of}

-- how often a number stands in a list, and in several
abbrev pub count_of : ℕ → List ℕ → ℕ
count_of k [] = 0
count_of k (x ∷ xs) = cond (eqb x k) 1 0 + count_of k xs

abbrev pub count_in : ℕ → List (List ℕ) → ℕ
count_in k rows = sum_by (count_of k) rows

-- a row; empty for one that there is not
abbrev pub row_of : List (List ℕ) → ℕ → List ℕ
row_of rows l = slice_index_or rows l []

-- the rows without what stands at a place of one of them
abbrev pub less : List (List ℕ) → ℕ → ℕ → List (List ℕ)
less rows r i = slice_set rows r (remove (row_of rows r) i)

-- the rows with one more slot at the end of one of them
abbrev pub more : List (List ℕ) → ℕ → ℕ → List (List ℕ)
more rows slot to = slice_set rows to (row_of rows to ++ slot ∷ [])

-- the rows once the slot at a place of one of them has become the last of one
abbrev pub moved : List (List ℕ) → ℕ → ℕ → ℕ → ℕ → List (List ℕ)
moved rows slot r i to = more (less rows r i) slot to

module _ {T : Type 0} where
  -- the number of the slot after a slot, of the one before it, and the value that stands in it
  abbrev pub next_of : List (Slot T) → ℕ → ℕ
  next_of slots k = option_map_or (λ s. s.next) (slice_get slots k) 0

  abbrev pub prev_of : List (Slot T) → ℕ → ℕ
  prev_of slots k = option_map_or (λ s. s.prev) (slice_get slots k) 0

  abbrev pub value_of : List (Slot T) → ℕ → Option T
  value_of slots k = option_map_or (λ s. s.value) (slice_get slots k) None

  -- a slot in which the value stands, with the links that it has as the last of a ring
  abbrev pub last_slot : List (Slot T) → ℕ → T → Slot T
  last_slot slots l v = record { prev = prev_of slots l; next = l; value = Some v }

  -- One slot has been linked before another, and nothing else has changed.
  pub record Joins (old new : List (Slot T)) (a b : ℕ) : Type 0 where
    pub size : length new ≡ length old
    pub next : next_of new a ≡ b
    pub nexts : (k : ℕ) → k ≢ a → next_of new k ≡ next_of old k
    pub prev : prev_of new b ≡ a
    pub prevs : (k : ℕ) → k ≢ b → prev_of new k ≡ prev_of old k
    pub values : (k : ℕ) → value_of new k ≡ value_of old k

  -- The slot's value has been written, and nothing else has changed.
  pub record IsWritten (old new : List (Slot T)) (at : ℕ) (written : Option T) : Type 0 where
    pub size : length new ≡ length old
    pub nexts : (k : ℕ) → next_of new k ≡ next_of old k
    pub prevs : (k : ℕ) → prev_of new k ≡ prev_of old k
    pub value : value_of new at ≡ written
    pub values : (k : ℕ) → k ≢ at → value_of new k ≡ value_of old k

  -- One slot stands next before another, and both are there.
  pub record IsEdge (slots : List (Slot T)) (a b : ℕ) : Type 0 where
    pub next : next_of slots a ≡ b
    pub prev : prev_of slots b ≡ a
    pub from : a < length slots
    pub to : b < length slots

  -- From one slot the links lead over these slots to another.
  abbrev pub IsPath : List (Slot T) → ℕ → List ℕ → ℕ → Type 0
  IsPath slots a [] b = IsEdge slots a b
  IsPath slots a (k ∷ ks) b = IsEdge slots a k × IsPath slots k ks b

  -- Each row is a ring through the slot with the row's own number, and each other slot stands in at most one row, once.
  pub record AreRings (slots : List (Slot T)) (rows : List (List ℕ)) : Type 0 where
    pub rings : (l : ℕ) → l < length rows → IsPath slots l (row_of rows l) l
    pub once : (k : ℕ) → count_in k rows ≤ 1
    pub apart : (l : ℕ) → l < length rows → count_in l rows ≡ 0
    pub within : (k : ℕ) → length slots ≤ k → count_in k rows ≡ 0
    pub size : length rows + sum_by length rows ≤ length slots
    pub few : length slots ≤ 2 ^ 32

  -- the slot at a place of one row can become the last of another
  pub record CanMove (slots : List (Slot T)) (rows : List (List ℕ)) (slot r i to : ℕ) : Type 0 where
    pub rings : AreRings slots rows
    pub from : r < length rows
    pub into : to < length rows
    pub place : slice_get (row_of rows r) i ≡ Some slot

  -- so many slots, each linked to itself, in which no value stands
  pub record AreEnds (slots : List (Slot T)) (count : ℕ) : Type 0 where
    pub size : length slots ≡ count
    pub few : count ≤ 2 ^ 32
    pub next : (l : ℕ) → l < count → next_of slots l ≡ l
    pub prev : (l : ℕ) → l < count → prev_of slots l ≡ l
    pub values : (l : ℕ) → l < count → value_of slots l ≡ None

  -- these values stand in their slots
  abbrev pub StandThere : List (Slot T) → List (Linked T) → Type 0
  StandThere slots row = AllByRecursion (λ e. value_of slots e.slot.0 ≡ Some e.value) row

  -- the slots of a list
  abbrev pub slots_of : List (Linked T) → List ℕ
  slots_of row = map (λ e. e.slot.0) row

  -- The slots hold these lists, and after them the list of so many slots that no list uses.
  pub record Hold (slots : List (Slot T)) (lists : List (List (Linked T))) (unused : ℕ) : Type 0 where
    pub rows : List (List ℕ)
    pub count : length rows ≡ length lists + 1
    pub rings : AreRings slots rows
    pub same : (l : ℕ) → l < length lists → row_of rows l ≡ slots_of (list_of lists l)
    pub stand : (l : ℕ) → l < length lists → StandThere slots (list_of lists l)
    pub ends : (l : ℕ) → l < length rows → value_of slots l ≡ None
    pub spare : length (row_of rows (length lists)) ≡ unused

  -- the value that stands in a slot and what comes after it; nothing where none stands there
  abbrev pub met : ℕ → Option T → List (Linked T) → List (Linked T)
  met k None rest = []
  met k (Some value) rest = record { slot = record { 0 = k }; value = value } ∷ rest

  -- what one meets from a slot on along the links, until no value stands in a slot, in at most so many steps
  unfoldable pub met_from : List (Slot T) → ℕ → ℕ → List (Linked T)
  met_from slots zero k = []
  met_from slots (suc n) k = met k (value_of slots k) (met_from slots n (next_of slots k))

  -- so many lists, from one on, each as one meets it
  unfoldable pub lists_from : List (Slot T) → ℕ → ℕ → List (List (Linked T))
  lists_from slots l zero = []
  lists_from slots l (suc n) = met_from slots (length slots) (next_of slots l) ∷ lists_from slots (l + 1) n
