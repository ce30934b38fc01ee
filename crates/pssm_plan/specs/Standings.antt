-- How an item stands in a step, and which items are ready.
use Rattle.std.specs.Prelude.{◌≡◌, ◌≢◌, ◌↔◌, ◌<◌, ◌≤◌, ◌+◌, ℕ, Bool, List, length, take, AllPairs, ◌&&◌, not, slice_index_or}
use Rattle.std.specs.List.{filter}
use Rattle.pssm_model.specs.declared.elements.DraftMachine.{DraftMachine}
use Rattle.pssm_model.specs.declared.steps.Item.{Item}
use Rattle.pssm_model.specs.Course.{Course, HasRun}
use Rattle.pssm_model.specs.Items.{Called, Before, IsWaiting}
use Rattle.pssm_model.specs.Order.{IsReady}
use Rattle.pssm_plan.specs.declared.roster.Call.{Call}
use Rattle.pssm_plan.specs.declared.ready.ReadyItem.{ReadyItem}
use Rattle.pssm_plan.specs.declared.standing.Standing.{Standing}
use Rattle.pssm_plan.specs.declared.standing.Standing.TheVariants.{Ready, NotCalled, Ran, Waits}
use Rattle.pssm_plan.specs.Agenda.{Agenda}
use Rattle.pssm_plan.specs.Plans.{IsOfCall}

-- The item stands so in the step: it is ready, it is not called, it is called and has run, or it waits for one that is called, comes before it and has
-- not run (UML 2.5.1 14.2.3.9, transition execution sequence).
abbrev pub StandsAs : DraftMachine → Course → Item → Standing → Type 0
StandsAs m course item Ready = IsReady m course item
StandsAs m course item NotCalled = Called m course item → ⊥
StandsAs m course item Ran = Called m course item × HasRun course item
StandsAs m course item (Waits on) = IsWaiting m course item × IsWaiting m course on × Before m course on item

-- whether the call stands as one of an item that is ready
abbrev pub stands_ready : Call → Bool
stands_ready call = not call.ran && not call.blocked

-- the calls of the plan that stand so, in the order of its list (UML 2.5.1 14.2.3.9, transition execution sequence)
abbrev pub ready_calls : Agenda → List Call
ready_calls plan = filter stands_ready plan.calls

-- The item is that of the call with this number.
abbrev pub IsItemAt : List Call → ℕ → Item → Type 0
IsItemAt calls i item = (call : Call) → (slice_index_or calls i call).item ≡ item

-- The calls are exactly those of the ready items, each once (UML 2.5.1 14.2.3.9, transition execution sequence).
pub record ListsReady (m : DraftMachine) (course : Course) (calls : List Call) : Type 0 where
  pub ready : (item : Item) → IsOfCall calls item ↔ IsReady m course item
  pub once : AllPairs (λ a b. a.item ≢ b.item) calls

-- how many of the calls before this place are of ready items
abbrev pub ready_before : List Call → ℕ → ℕ
ready_before calls place = length (filter stands_ready (take place calls))

-- It is the first ready item from this place on, and the place behind it.
pub record IsNextReady (calls : List Call) (place : ℕ) (next : ReadyItem) : Type 0 where
  pub item : IsItemAt (filter stands_ready calls) (ready_before calls place) next.item
  pub within : ready_before calls place < length (filter stands_ready calls)
  pub counted : ready_before calls next.behind ≡ ready_before calls place + 1
  pub further : place < next.behind
  pub listed : next.behind ≤ length calls
