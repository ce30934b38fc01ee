-- What an object may do next, where it stands so.
use Rattle.std.specs.Prelude.{◌≡◌, ◌⊎◌, ◌≤◌, ◌<◌, ℕ, Bool, false, List, [], length, Option, Some, None, IsSomeAnd, IsTrue, slice_get}
use Rattle.pssm_model.specs.declared.ids.VertexId.{VertexId}
use Rattle.pssm_model.specs.declared.elements.DraftMachine.{DraftMachine}
use Rattle.pssm_model.specs.declared.elements.VertexKind.TheVariants as kinds
use Rattle.pssm_model.specs.declared.steps.Firing.{Firing}
use Rattle.pssm_model.specs.declared.steps.How.{How}
use Rattle.pssm_model.specs.declared.steps.How.TheVariants.{By}
use Rattle.pssm_model.specs.declared.steps.Item.{Item}
use Rattle.pssm_model.specs.declared.steps.Item.TheVariants as items
use Rattle.pssm_model.specs.Forest.{HasKind}
use Rattle.pssm_model.specs.Order.{IsReady}
use Rattle.pssm_plan.specs.declared.roster.Call.{Call}
use Rattle.pssm_plan.specs.Agenda.{Agenda, course_of}
use Rattle.pssm_semantics.specs.declared.entry.ObjectId.{ObjectId}
use Rattle.pssm_semantics.specs.declared.entry.Entry.{Entry}
use Rattle.pssm_semantics.specs.declared.entry.Entry.TheVariants.{Start, Take, Done, Exit, Effect, Enter, Opened, Pick, DoStep}
use Rattle.pssm_semantics.specs.declared.setting.Class.{Class}
use Rattle.pssm_semantics.specs.declared.stimulus.Task.{Task}
use Rattle.pssm_semantics.specs.declared.stimulus.Task.TheVariants as tasks
use Rattle.pssm_pool.specs.declared.pools.Waiting.{Waiting}
use Rattle.pssm_object.specs.Doing.{do_tasks}
use Rattle.pssm_object.specs.Standing.{Standing}
use Rattle.pssm_object.specs.inner.Firing.{IsDeferredThere}
use Rattle.pssm_object.specs.inner.Situations.{IsAtRest, first_waiting}
use Rattle.pssm_object.specs.inner.Judging.{FiresHere, Completes, IsWayHere}
use Rattle.pssm_object.specs.inner.Doing.{step_outcome}
use Rattle.pssm_object.specs.inner.Working.{outcome_for}

-- an exit, an effect, an entry, a pick from a choice of the machine, or an opening of a region of the machine
abbrev pub IsItemThere : DraftMachine → Item → Type 0
IsItemThere m (items.Opened r mode) = r.0 < length m.regions
IsItemThere m (items.Pick c) = HasKind m c kinds.Choice
IsItemThere m _ = Unit {0}

-- an opening or a pick
abbrev pub HasWays : Item → Type 0
HasWays (items.Opened r mode) = Unit {0}
HasWays (items.Pick c) = Unit {0}
HasWays _ = ⊥

-- The item is ready, and it is an opening or a pick.
abbrev pub IsReadyChoice : DraftMachine → Agenda → Item → Type 0
IsReadyChoice m plan item = HasWays item × IsReady m (course_of plan) item

-- No opening and no pick of the plan is ready.
abbrev pub HasNoChoice : DraftMachine → Agenda → Type 0
HasNoChoice m plan = (item : Item) → IsReadyChoice m plan item → ⊥

-- the entry of an opening or a pick in this way
abbrev pub GoesBy : ObjectId → Item → How → Entry → Type 0
GoesBy o (items.Opened r mode) how e = e ≡ Opened o r mode how
GoesBy o (items.Pick c) (By route) e = e ≡ Pick o c route
GoesBy o _ how e = ⊥

-- The entry runs the opening or the pick in one of its ways.
abbrev pub GoesSomeWay : Class → Standing → Item → Entry → Type 0
GoesSomeWay class x item e = (how : How) × IsWayHere class x item how × GoesBy x.own item how e

-- a ready opening or pick in one of its ways; none where none is ready
abbrev pub ChoosesWay : Class → Standing → Agenda → Option Entry → Type 0
ChoosesWay class x plan None = HasNoChoice class.machine plan
ChoosesWay class x plan (Some e) = (item : Item) × IsReadyChoice class.machine plan item × GoesSomeWay class x item e

-- the take of the signal with what it fires; none where there is no signal
abbrev pub TakesSignal : Class → Standing → Option Waiting → Option Entry → Type 0
TakesSignal class x signal None = signal ≡ None
TakesSignal class x signal (Some (Take o number firing)) =
    (o ≡ x.own) × ((w : Waiting) × (signal ≡ Some w) × (number ≡ w.number) × FiresHere class x firing.routes w)
TakesSignal class x signal (Some _) = ⊥

-- the dispatch of the completion of the State with what it fires
abbrev pub ServesCompletion : Class → Standing → VertexId → Entry → Type 0
ServesCompletion class x s e = (firing : Firing) × (e ≡ Done x.own s firing) × Completes class x s firing.routes

-- the dispatch of the first completion of the queue; where none waits, the take of the signal
abbrev pub ChoosesNext : Class → Standing → Option Waiting → Option VertexId → Option Entry → Type 0
ChoosesNext class x signal None chosen = TakesSignal class x signal chosen
ChoosesNext class x signal (Some s) chosen = IsSomeAnd chosen (ServesCompletion class x s)

-- where the object rests what comes next, and else a ready opening or pick
abbrev pub ChoosesInStep : Class → Standing → Option Waiting → Agenda → Option Entry → Type 0
ChoosesInStep class x signal plan chosen =
    (IsAtRest class.machine x.plan × ChoosesNext class x signal (first_waiting x) chosen)
    ⊎ ((IsAtRest class.machine x.plan → ⊥) × ChoosesWay class x plan chosen)

-- the start of an object that has not started, and else what comes next
abbrev pub ChoosesLiving : Class → Standing → Option Waiting → Option Agenda → Option Entry → Type 0
ChoosesLiving class x signal None chosen = chosen ≡ Some (Start x.own)
ChoosesLiving class x signal (Some plan) chosen = ChoosesInStep class x signal plan chosen

-- the same; none once the object has ended
abbrev pub Chooses : Class → Standing → Option Waiting → Option Agenda → Option Entry → Type 0
Chooses class x signal plan chosen =
    (IsTrue x.ended × (chosen ≡ None)) ⊎ ((IsTrue x.ended → ⊥) × ChoosesLiving class x signal plan chosen)

-- None of the ready items from one place on and before another is an opening or a pick.
abbrev pub LacksChoices : List Call → ℕ → ℕ → Type 0
LacksChoices calls from to =
    (k : ℕ) (call : Call) → from ≤ k → k < to → slice_get calls k ≡ Some call → HasWays call.item → ⊥

-- the entry of a task with the outputs of its behaviour
abbrev pub DoesTask : Class → Standing → Task → Entry → Type 0
DoesTask class x (tasks.Exit s) e = e ≡ Exit x.own s (outcome_for class x (items.Exit s)).outs
DoesTask class x (tasks.Effect t) e = e ≡ Effect x.own t (outcome_for class x (items.Effect t)).outs
DoesTask class x (tasks.Enter s) e = e ≡ Enter x.own s (outcome_for class x (items.Enter s)).outs
DoesTask class x (tasks.DoStep s k) e = e ≡ DoStep x.own s k (step_outcome class x s k).outs

-- An active State defers the signal.
abbrev pub IsDeferredHere : Class → Standing → Waiting → Type 0
IsDeferredHere class x signal = IsDeferredThere class x.config x.store signal

-- The object has started and its step is finished, no completion waits, and no active State has a do step left.
pub record HasNothingLeft (m : DraftMachine) (x : Standing) : Type 0 where
  pub rests : IsAtRest m x.plan
  pub queue : first_waiting x ≡ None
  pub steps : do_tasks m x.config ≡ []

-- The object has not ended, it has started and its step is finished, and no completion waits.
abbrev pub AwaitsHere : DraftMachine → Standing → Type 0
AwaitsHere m x = (IsTrue x.ended → ⊥) × IsAtRest m x.plan × (first_waiting x ≡ None)

-- It has ended, or it has nothing left and no signal waits.
abbrev pub IsStill : DraftMachine → Standing → Bool → Type 0
IsStill m x waiting = IsTrue x.ended ⊎ ((waiting ≡ false) × HasNothingLeft m x)
