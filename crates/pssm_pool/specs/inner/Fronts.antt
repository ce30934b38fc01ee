-- The fronts of the pools: of each so many of its first signals, known by the first of each kind.
use Rattle.std.specs.Prelude.{◌≡◌, ◌≤◌, ◌<◌, ◌+◌, ℕ, List, [], length, Option, Some, None, MatchOption, slice_get}
use Rattle.std.specs.List.{AllByRecursion}
use Rattle.pssm_links.specs.declared.slot.SlotId.{SlotId}
use Rattle.pssm_links.specs.Chained.{Linked, list_of}
use Rattle.pssm_pool.specs.declared.pools.Waiting.{Waiting}
use Rattle.pssm_pool.specs.declared.front.Kind.{Kind}
use Rattle.pssm_pool.specs.declared.front.Front.{Front}
use Rattle.pssm_pool.specs.Telling.{AreAlike}

-- a signal that is alike to one of these, which stands not behind this place
pub record IsKnownBy (row : List (Linked Waiting)) (kinds : List Kind) (j : ℕ) (w : Waiting) : Type 0 where
  pub number : ℕ
  pub kind : Kind
  pub first : Linked Waiting
  pub listed : slice_get kinds number ≡ Some kind
  pub order : kind.place ≤ j
  pub there : slice_get row kind.place ≡ Some first
  pub alike : AreAlike first.value w

-- the slot is that of the signal at the place
pub record IsKindOf (row : List (Linked Waiting)) (count : ℕ) (kind : Kind) : Type 0 where
  pub first : Linked Waiting
  pub before : kind.place < count
  pub there : slice_get row kind.place ≡ Some first
  pub slot_is : first.slot ≡ kind.slot

-- so many of the first signals are known by the first of each kind, in the order of the pool
pub record AreKinds (row : List (Linked Waiting)) (kinds : List Kind) (count : ℕ) : Type 0 where
  pub stand : (i : ℕ) (kind : Kind) → slice_get kinds i ≡ Some kind → IsKindOf row count kind
  pub ascend : (i j : ℕ) (one other : Kind) → i < j → slice_get kinds i ≡ Some one → slice_get kinds j ≡ Some other
      → one.place < other.place
  pub known : (j : ℕ) (e : Linked Waiting) → j < count → slice_get row j ≡ Some e → IsKnownBy row kinds j e.value

-- the slot of the last of so many signals
pub record IsEndAt (row : List (Linked Waiting)) (count : ℕ) (slot : SlotId) : Type 0 where
  pub place : ℕ
  pub last : Linked Waiting
  pub count_is : count ≡ place + 1
  pub there : slice_get row place ≡ Some last
  pub slot_is : last.slot ≡ slot

-- the same, or none where there are none
abbrev pub IsEnd : List (Linked Waiting) → ℕ → Option SlotId → Type 0
IsEnd row count end = MatchOption end (count ≡ 0) (IsEndAt row count)

-- the front of a pool
pub record IsFront (row : List (Linked Waiting)) (front : Front) : Type 0 where
  pub kinds : AreKinds row front.kinds.items front.count
  pub end : IsEnd row front.count front.end

-- each pool has its front
pub record AreFronts (lists : List (List (Linked Waiting))) (fronts : List Front) : Type 0 where
  pub count : length fronts ≡ length lists
  pub each : (l : ℕ) (front : Front) → slice_get fronts l ≡ Some front → IsFront (list_of lists l) front

-- a front of no signals
pub record IsEmpty (front : Front) : Type 0 where
  pub kinds : front.kinds.items ≡ []
  pub count : front.count ≡ 0
  pub end : front.end ≡ None

-- All of them are.
abbrev pub AreEmpty : List Front → Type 0
AreEmpty fronts = AllByRecursion IsEmpty fronts
