-- The calls of a step as they are told, pass after pass, for which one they wait; and where those stand that wait for a call.
use Rattle.std.specs.Prelude.{◌≡◌, ◌⊎◌, ◌<◌, ◌≤◌, ◌+◌, ◌^◌, ℕ, List, Option, IsTrue, MatchOption, length, slice_index_or, slice_set}
use Rattle.pssm_model.specs.declared.elements.DraftMachine.{DraftMachine}
use Rattle.pssm_model.specs.declared.steps.Item.{Item}
use Rattle.pssm_plan.specs.declared.ways.Way.{Way}
use Rattle.pssm_plan.specs.declared.roster.Call.{Call}
use Rattle.pssm_plan.specs.declared.waiting.Wait.{Wait}
use Rattle.pssm_plan.specs.declared.waiters.Span.{Span}
use Rattle.pssm_plan.specs.Waiting.{HoldsUp, IsMetBefore}
use Rattle.pssm_plan.specs.inner.Marks.{HasSeen, IsHeldAt}
use Rattle.pssm_plan.specs.inner.Sequence.{IsOrderedBySome}

-- None of the calls before this place holds up the item.
abbrev pub ArePassed : (Item → Item → Type 0) → List Call → Item → ℕ → Type 0
ArePassed Comes calls item place =
    (k : ℕ) (d : Call) → k < place → k < length calls → HoldsUp Comes (slice_index_or calls k d) item → ⊥

-- None of the calls from a place on and before another holds up the item.
abbrev pub AreFreeFrom : (Item → Item → Type 0) → List Call → Item → ℕ → ℕ → Type 0
AreFreeFrom Comes calls item from end =
    (k : ℕ) (d : Call) → from ≤ k → k < end → k < length calls → HoldsUp Comes (slice_index_or calls k d) item → ⊥

-- None of the calls that the item at the place meets before another place holds it up.
abbrev pub AreMet : (Item → Item → Type 0) → List Call → Item → ℕ → ℕ → Type 0
AreMet Comes calls item place on =
    (k : ℕ) (d : Call) → IsMetBefore place on k → k < length calls → HoldsUp Comes (slice_index_or calls k d) item → ⊥

-- The call at this place holds up the item, and none behind it before another place does; or none from a place on and before the other does.
abbrev pub IsNearestBehind : (Item → Item → Type 0) → List Call → Item → ℕ → ℕ → Option ℕ → Type 0
IsNearestBehind Comes calls item from end nearest =
    MatchOption nearest (AreFreeFrom Comes calls item from end)
    (λ k. (k < end) × ((d : Call) → HoldsUp Comes (slice_index_or calls k d) item) × AreFreeFrom Comes calls item (k + 1) end)

-- The wait is for the first call from the place on that holds up the item; where none does, it is none.
pub record IsNextAhead (Comes : Item → Item → Type 0) (calls : List Call) (item : Item) (from : ℕ) (wait : Wait) : Type 0 where
  pub behind : IsTrue wait.blocked → from ≤ wait.seen
  pub passed : AreFreeFrom Comes calls item from wait.seen
  pub waits : IsTrue wait.blocked → (wait.seen < length calls) × ((d : Call) → HoldsUp Comes (slice_index_or calls wait.seen d) item)
  pub through : (IsTrue wait.blocked → ⊥) → wait.seen ≡ length calls

-- Where the call at the place is blocked, it says which is the nearest of these calls that holds it up; where it is not, none does.
pub record IsSure (Comes : Item → Item → Type 0) (calls : List Call) (place : ℕ) (call : Call) : Type 0 where
  pub passed : IsTrue call.blocked → AreMet Comes calls call.item place call.seen
  pub waits : IsTrue call.blocked → (call.seen < length calls) × ((d : Call) → HoldsUp Comes (slice_index_or calls call.seen d) call.item)
  pub clear : (IsTrue call.blocked → ⊥) → ArePassed Comes calls call.item (length calls)

-- No way orders one of the calls from this place on before the item.
abbrev pub IsOrderedBehindNone : DraftMachine → List Way → List Call → Item → ℕ → Type 0
IsOrderedBehindNone m ways calls item first =
    (k : ℕ) (d : Call) → first ≤ k → k < length calls → IsOrderedBySome m ways (slice_index_or calls k d).item item → ⊥

-- The call at the place waited for the call that has run.
pub record IsWaitingLeft (Comes : Item → Item → Type 0) (first ran place : ℕ) (calls : List Call) (call : Call) : Type 0 where
  pub old : place < first
  pub blocked : IsTrue call.blocked
  pub on : call.seen ≡ ran
  pub seen : HasSeen Comes calls place call

-- The call at the place is not blocked, and none of the calls before the new ones holds it up.
pub record IsFreeLeft (Comes : Item → Item → Type 0) (first place : ℕ) (calls : List Call) (call : Call) : Type 0 where
  pub old : place < first
  pub free : IsTrue call.blocked → ⊥
  pub passed : ArePassed Comes calls call.item first

-- Each of the calls is sure, or is left so.
abbrev pub AreSureBut : (ℕ → List Call → Call → Type 0) → (Item → Item → Type 0) → List Call → Type 0
AreSureBut Left Comes calls =
    (k : ℕ) (d : Call) → k < length calls → IsSure Comes calls k (slice_index_or calls k d) ⊎ Left k calls (slice_index_or calls k d)

-- The calls from a place on are left.
abbrev pub NewLeft : ℕ → ℕ → List Call → Call → Type 0
NewLeft from k calls call = from ≤ k

-- The new ones are left, and of those that waited for the one that has run those from a place on and before another.
abbrev pub WaitingLeft : (Item → Item → Type 0) → ℕ → ℕ → ℕ → ℕ → ℕ → List Call → Call → Type 0
WaitingLeft Comes first ran from end k calls call =
    (first ≤ k) ⊎ ((from ≤ k) × (k < end) × IsWaitingLeft Comes first ran k calls call)

-- The new ones are left, those that waited for the one that has run, and of those that waited for none those from a place on.
abbrev pub FreeLeft : (Item → Item → Type 0) → ℕ → ℕ → ℕ → ℕ → List Call → Call → Type 0
FreeLeft Comes first ran from k calls call =
    (first ≤ k) ⊎ (IsWaitingLeft Comes first ran k calls call ⊎ ((from ≤ k) × IsFreeLeft Comes first k calls call))

-- Where the call at the place is blocked, it stands between the places that are kept with the one that it waits for.
abbrev pub IsCaught : List Span → ℕ → Call → Type 0
IsCaught spans place call =
    IsTrue call.blocked → (call.seen < length spans)
    × ((d : Span) → ((slice_index_or spans call.seen d).first ≤ place) × (place < (slice_index_or spans call.seen d).end))

-- The calls are not too many, there is a span for each, and each is caught by that of the one that it waits for.
pub record AreCaught (spans : List Span) (calls : List Call) : Type 0 where
  pub few : length calls < 2 ^ 32
  pub room : length calls ≤ length spans
  pub caught : (k : ℕ) (d : Call) → k < length calls → IsCaught spans k (slice_index_or calls k d)

-- the call, as it waits
abbrev pub told_wait : Call → Wait → Call
told_wait call wait = record { item = call.item; ran = call.ran; blocked = wait.blocked; seen = wait.seen }

-- The second list is the first with a call at the place that waits so.
abbrev pub IsPut : List Call → ℕ → Wait → List Call → Type 0
IsPut calls place wait new = (d : Call) → new ≡ slice_set calls place (told_wait (slice_index_or calls place d) wait)

-- Each of the calls is sure.
abbrev pub AreAllSure : (Item → Item → Type 0) → List Call → Type 0
AreAllSure Comes calls = (k : ℕ) (d : Call) → k < length calls → IsSure Comes calls k (slice_index_or calls k d)

-- Each of the calls before this place, the first of the new ones, says for which of the calls before it it waits.
pub record IsSureBefore (Comes : Item → Item → Type 0) (first : ℕ) (calls : List Call) (place : ℕ) (call : Call) : Type 0 where
  pub seen : IsTrue call.blocked → HasSeen Comes calls place call
  pub held : IsTrue call.blocked → IsHeldAt calls call.seen
  pub free : (IsTrue call.blocked → ⊥) → ArePassed Comes calls call.item first

-- So is each of the calls before this place.
abbrev pub AreSureBefore : (Item → Item → Type 0) → ℕ → List Call → Type 0
AreSureBefore Comes first calls = (k : ℕ) (d : Call) → k < first → k < length calls → IsSureBefore Comes first calls k (slice_index_or calls k d)
