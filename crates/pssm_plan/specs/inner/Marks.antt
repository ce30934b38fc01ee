-- Which items are listed as called, as run and as waiting for others.
use Rattle.std.specs.Prelude.{◌≡◌, ◌⊎◌, ◌↔◌, ◌<◌, ◌≤◌, ◌++◌, ℕ, List, IsTrue, Contains, length, slice_index_or, slice_set}
use Rattle.pssm_model.specs.declared.steps.Item.{Item}
use Rattle.pssm_plan.specs.declared.roster.Call.{Call}
use Rattle.pssm_plan.specs.declared.waiting.Wait.{Wait}
use Rattle.pssm_plan.specs.Waiting.{HoldsUp, IsMetBefore, IsExact}

-- The item is listed.
abbrev pub IsListed : List Call → Item → Type 0
IsListed calls item = (call : Call) × Contains calls call × (call.item ≡ item)

-- The item is listed as one that has run.
abbrev pub IsMarked : List Call → Item → Type 0
IsMarked calls item = (call : Call) × Contains calls call × (call.item ≡ item) × IsTrue call.ran

-- The second list begins with the first.
abbrev pub IsLonger : {X : Type 0} → List X → List X → Type 0
IsLonger {X} old new = (more : List X) × (new ≡ old ++ more)

-- The call has not looked at the others yet.
abbrev pub IsFresh : Call → Type 0
IsFresh call = (call.seen ≡ 0) × (IsTrue call.blocked → ⊥)

-- The call at the place has not looked at the others yet: it looks at itself first.
abbrev pub IsFreshAt : ℕ → Call → Type 0
IsFreshAt place call = (call.seen ≡ place) × (IsTrue call.blocked → ⊥)

-- The second call is of the same item, has run where the first has or is of this item, and waits where the first does.
pub record IsTold (item : Item) (old new : Call) : Type 0 where
  pub item_is : new.item ≡ old.item
  pub ran : IsTrue new.ran ↔ (IsTrue old.ran ⊎ (old.item ≡ item))
  pub blocked : new.blocked ≡ old.blocked
  pub seen : new.seen ≡ old.seen

-- The second call, at the place, is of the same item, has run where the first has, and has not looked at the others yet.
pub record IsForgotten (place : ℕ) (old new : Call) : Type 0 where
  pub item_is : new.item ≡ old.item
  pub ran : new.ran ≡ old.ran
  pub fresh : IsFreshAt place new

-- The second call is of the same item, and has run where the first has or is of this item.
pub record IsNoted (item : Item) (old new : Call) : Type 0 where
  pub item_is : new.item ≡ old.item
  pub ran : IsTrue new.ran ↔ (IsTrue old.ran ⊎ (old.item ≡ item))

-- None of the calls that this one at its place meets before that which it names holds it up, and where it is blocked, that one comes before it.
pub record HasSeen (Comes : Item → Item → Type 0) (calls : List Call) (place : ℕ) (call : Call) : Type 0 where
  pub within : call.seen ≤ length calls
  pub passed : (k : ℕ) (d : Call) → IsMetBefore place call.seen k → k < length calls → HoldsUp Comes (slice_index_or calls k d) call.item → ⊥
  pub there : IsTrue call.blocked → (d : Call) → call.seen < length calls → Comes (slice_index_or calls call.seen d).item call.item

-- The call at the place has not run.
pub record IsHeldAt (calls : List Call) (place : ℕ) : Type 0 where
  pub inside : place < length calls
  pub waiting : (d : Call) → IsTrue (slice_index_or calls place d).ran → ⊥

-- The second call, at the place, is of the same item, has run where the first has, and says exactly for which of the calls it waits.
pub record IsSettled (Comes : Item → Item → Type 0) (calls : List Call) (place : ℕ) (old new : Call) : Type 0 where
  pub item_is : new.item ≡ old.item
  pub ran : new.ran ≡ old.ran
  pub exact : IsExact Comes calls place new

-- The second call is of the same item and has run where the first has.
pub record IsAlike (old new : Call) : Type 0 where
  pub item_is : new.item ≡ old.item
  pub ran : new.ran ≡ old.ran

-- Such a call is the one that waits so.
abbrev pub IsSettledSo : (Item → Item → Type 0) → List Call → ℕ → Call → Wait → Type 0
IsSettledSo Comes calls place call wait =
    IsSettled Comes calls place call (record { item = call.item; ran = call.ran; blocked = wait.blocked; seen = wait.seen })

-- The second list is the first with another call at the place, which says exactly for which of the calls it waits.
pub record IsSettledAt (Comes : Item → Item → Type 0) (calls : List Call) (place : ℕ) (new : List Call) : Type 0 where
  pub call : Call
  pub put : new ≡ slice_set calls place call
  pub settled : (d : Call) → IsSettled Comes calls place (slice_index_or calls place d) call

-- The lists are equally long, and each call of the second is so to that of the first.
abbrev pub ArePairwise : (Call → Call → Type 0) → List Call → List Call → Type 0
ArePairwise Is old new =
    (length new ≡ length old) × ((k : ℕ) (d : Call) → k < length old → Is (slice_index_or old k d) (slice_index_or new k d))

-- No call but that at the place is of the item.
abbrev pub IsPlaceOf : List Call → Item → ℕ → Type 0
IsPlaceOf calls item place = (k : ℕ) (d : Call) → k < length calls → (slice_index_or calls k d).item ≡ item → k ≡ place

-- The lists are equally long, and each call of the second is so, at its place, to that of the first.
abbrev pub AreForgotten : List Call → List Call → Type 0
AreForgotten old new =
    (length new ≡ length old) × ((k : ℕ) (d : Call) → k < length old → IsForgotten k (slice_index_or old k d) (slice_index_or new k d))

-- All calls before the place have run.
abbrev pub AreRunBefore : List Call → ℕ → Type 0
AreRunBefore calls place = (k : ℕ) (d : Call) → k < place → k < length calls → IsTrue (slice_index_or calls k d).ran

-- So have all before a place of one of them, or behind all.
abbrev pub AreRunUpTo : List Call → ℕ → Type 0
AreRunUpTo calls place = (place ≤ length calls) × AreRunBefore calls place
