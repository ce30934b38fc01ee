-- The search for cycles of arrows: what is open, in which groups, and what is ahead.
use Rattle.std.specs.Prelude.{◌≡◌, ◌↔◌, ◌⊎◌, ◌<◌, ◌≤◌, ◌+◌, ◌++◌, ℕ, suc, List, [], ◌∷◌, Bool, true, false, length, slice_index_or, Contains, AllPairs, Vec}
use Rattle.std.specs.declared.alloc.Global.{Global}
use Rattle.pssm_wellformed.specs.declared.cycles.Stage.{Stage}
use Rattle.pssm_wellformed.specs.declared.cycles.Stage.TheVariants.{New, Open, Closed}
use Rattle.pssm_wellformed.specs.declared.cycles.Group.{Group}
use Rattle.pssm_wellformed.specs.declared.cycles.Search.{Search}
use Rattle.pssm_wellformed.specs.inner.Lists.{list_at}
use Rattle.pssm_wellformed.specs.inner.Reach.{IsReached, StaysWithin}

-- Arrows lead from the number back to itself.
abbrev pub GoesRound : List (Vec ℕ Global) → ℕ → Type 0
GoesRound onward a = IsReached onward (list_at onward a) a

-- the stage of a number
abbrev pub stage_at : List Stage → ℕ → Stage
stage_at stages a = slice_index_or stages a New

-- The number stands in the list at a place or behind it.
abbrev pub StandsFrom : List ℕ → ℕ → ℕ → Type 0
StandsFrom numbers place a = (i : ℕ) × (place ≤ i) × (i < length numbers) × (slice_index_or numbers i 0 ≡ a)

-- The first group begins no later than the second.
abbrev pub IsEarlierGroup : Group → Group → Type 0
IsEarlierGroup x y = (x.first ≤ y.first) × (x.ahead ≤ y.ahead)

-- The group is the last of the list.
abbrev pub IsLastGroup : List Group → Group → Type 0
IsLastGroup groups x = (before : List Group) × (groups ≡ before ++ x ∷ [])

-- An arrow leads from an open number to the end at a place ahead, and the groups of both are the same.
abbrev pub IsLedFromOpen : List (Vec ℕ Global) → List ℕ → List Group → List ℕ → ℕ → Type 0
IsLedFromOpen onward opened groups ahead t =
    (i : ℕ) × (i < length opened) × Contains (list_at onward (slice_index_or opened i 0)) (slice_index_or ahead t 0)
    × ((x : Group) → Contains groups x → (x.first ≤ i) ↔ (x.ahead ≤ t))

-- What holds throughout a search: of its numbers by stage, of its groups, and of the arrows that are walked and those ahead.
pub record IsSearch (onward : List (Vec ℕ Global)) (stages : List Stage) (opened : List ℕ) (groups : List Group) (ahead : List ℕ) (cyclic : List Bool) : Type 0 where
  pub within : StaysWithin onward
  pub stages_width : length stages ≡ length onward
  pub marks_width : length cyclic ≡ length onward
  pub placed : (a i : ℕ) → (stage_at stages a ≡ Open i) ↔ ((i < length opened) × (slice_index_or opened i 0 ≡ a))
  pub closed : (a b : ℕ) → stage_at stages a ≡ Closed → Contains (list_at onward a) b → stage_at stages b ≡ Closed
  pub marks : (a : ℕ) → stage_at stages a ≡ Closed → (slice_index_or cyclic a false ≡ true) ↔ GoesRound onward a
  pub ascending : AllPairs IsEarlierGroup groups
  pub inside : (x : Group) → Contains groups x → (x.first ≤ length opened) × (x.ahead ≤ length ahead)
  pub grouped : (i : ℕ) → i < length opened → (x : Group) × Contains groups x × (x.first ≤ i)
  pub joined : (i j : ℕ) → i < length opened → j < length opened → ((x : Group) → Contains groups x → (x.first ≤ j) ⊎ (i < x.first))
      → IsReached onward (slice_index_or opened i 0 ∷ []) (slice_index_or opened j 0)
  pub walked : (x : Group) → Contains groups x → (a b : ℕ) → StandsFrom opened x.first a → Contains (list_at onward a) b
      → (stage_at stages b ≡ Closed) ⊎ StandsFrom opened x.first b ⊎ StandsFrom ahead x.ahead b
  pub led : (t : ℕ) → t < length ahead → (y : Group) → Contains groups y → y.ahead ≤ t → IsLedFromOpen onward opened groups ahead t
  pub there : (b : ℕ) → Contains ahead b → b < length onward
  pub coming : (a : ℕ) → a < length onward → stage_at stages a ≡ New → Contains ahead a

-- a search as it stands
abbrev pub IsSearching : List (Vec ℕ Global) → Search → Type 0
IsSearching onward search = IsSearch onward search.stages.items search.opened.items search.groups.items search.ahead.items search.cyclic.items

-- a search that has taken from the arrows ahead the end of one that belongs to the last group
pub record IsMeeting (onward : List (Vec ℕ Global)) (search : Search) (number : ℕ) : Type 0 where
  pub before : IsSearch onward search.stages.items search.opened.items search.groups.items (search.ahead.items ++ number ∷ []) search.cyclic.items
  pub last : (x : Group) → Contains search.groups.items x → x.ahead ≤ length search.ahead.items

-- the new numbers, each with its arrows
abbrev pub new_steps : List (Vec ℕ Global) → List Stage → ℕ
new_steps (list ∷ onward) (New ∷ stages) = suc (length list.items + new_steps onward stages)
new_steps (list ∷ onward) (_ ∷ stages) = new_steps onward stages
new_steps _ _ = 0

-- how many steps are still to come at most
abbrev pub steps_left : List (Vec ℕ Global) → Search → ℕ
steps_left onward search = new_steps onward search.stages.items + length search.ahead.items + length search.groups.items

-- The groups that begin past a place are gone, and the others stay.
pub record IsJoined (place : ℕ) (before after : List Group) : Type 0 where
  pub kept : (x : Group) → Contains before x → x.first ≤ place → Contains after x
  pub from : (x : Group) → Contains after x → Contains before x
  pub ascending : AllPairs IsEarlierGroup after
  pub shorter : length after ≤ length before

-- The last group has no arrow ahead.
pub record IsWalkedGroup (search : Search) (group : Group) : Type 0 where
  pub last : IsLastGroup search.groups.items group
  pub none_ahead : group.ahead ≡ length search.ahead.items

-- The numbers of a group are closed and marked, and the others are as before.
pub record IsSettled (onward : List (Vec ℕ Global)) (group : List ℕ) (size : ℕ) (stages stages' : List Stage) (cyclic cyclic' : List Bool) : Type 0 where
  pub stages_width : length stages' ≡ length stages
  pub marks_width : length cyclic' ≡ length cyclic
  pub stages_here : (a : ℕ) → Contains group a → stage_at stages' a ≡ Closed
  pub stages_there : (a : ℕ) → (Contains group a → ⊥) → stage_at stages' a ≡ stage_at stages a
  pub marks_here : (a : ℕ) → Contains group a → (slice_index_or cyclic' a false ≡ true) ↔ ((1 < size) ⊎ Contains (list_at onward a) a)
  pub marks_there : (a : ℕ) → (Contains group a → ⊥) → slice_index_or cyclic' a false ≡ slice_index_or cyclic a false
  pub fewer : new_steps onward stages' ≤ new_steps onward stages
