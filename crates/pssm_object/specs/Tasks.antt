-- The ready tasks of an object, and the entry that doing one of them makes.
use Rattle.std.specs.Prelude.{◌≡◌, ◌≢◌, ◌↔◌, ◌++◌, List, [], if◌then◌else◌, Option, Some, None, Contains, AllPairs}
use Rattle.std.specs.List.{filter_map}
use Rattle.pssm_model.specs.declared.elements.DraftMachine.{DraftMachine}
use Rattle.pssm_model.specs.declared.steps.Item.{Item}
use Rattle.pssm_model.specs.declared.steps.Item.TheVariants as items
use Rattle.pssm_plan.specs.Agenda.{Agenda}
use Rattle.pssm_plan.specs.Standings.{ready_calls}
use Rattle.pssm_semantics.specs.declared.entry.ObjectId.{ObjectId}
use Rattle.pssm_semantics.specs.declared.entry.Out.{Out}
use Rattle.pssm_semantics.specs.declared.entry.Entry.{Entry}
use Rattle.pssm_semantics.specs.declared.entry.Entry.TheVariants as entries
use Rattle.pssm_semantics.specs.declared.stimulus.Task.{Task}
use Rattle.pssm_semantics.specs.declared.stimulus.Task.TheVariants as tasks
use Rattle.pssm_semantics.specs.declared.setting.Class.{Class}
use Rattle.pssm_semantics.specs.Tasks.{IsReadyTask}
use Rattle.pssm_object.specs.Standing.{Standing, StandsAfter}
use Rattle.pssm_object.specs.Doing.{do_tasks}

-- the task that an item is: an exit, an effect or an entry (this profile's choice)
abbrev pub task_of : Item → Option Task
task_of (items.Exit s) = Some (tasks.Exit s)
task_of (items.Effect t) = Some (tasks.Effect t)
task_of (items.Enter s) = Some (tasks.Enter s)
task_of _ = None

-- those of the ready items of a plan, in the order of the plan's list
-- (UML 2.5.1 14.2.3.9, transition execution sequence)
abbrev pub tasks_of_plan : Option Agenda → List Task
tasks_of_plan None = []
tasks_of_plan (Some plan) = filter_map (λ call. task_of call.item) (ready_calls plan)

-- those of an object: the ready exits, effects and entries of its step, and then the next do steps of its active States; none
-- once it has ended (UML 2.5.1 14.2.3.9, transition execution sequence; 14.2.3.4, doActivity)
abbrev pub ready_tasks : DraftMachine → Standing → List Task
ready_tasks m x = if x.ended then [] else (tasks_of_plan x.plan ++ do_tasks m x.config)

-- The tasks are exactly the ready ones of the object, each once (UML 2.5.1 14.2.3.9, transition execution sequence).
pub record ListsTasks (m : DraftMachine) (J : List Entry) (o : ObjectId) (listed : List Task) : Type 0 where
  pub each : (task : Task) → Contains listed task ↔ IsReadyTask m J o task
  pub once : AllPairs (λ a b. a ≢ b) listed

-- After all entries after which the object stands so, these are its ready tasks, each once
-- (UML 2.5.1 14.2.3.9, transition execution sequence).
abbrev pub AreReadyTasks : Class → Standing → List Task → Type 0
AreReadyTasks class x listed = (J : List Entry) → StandsAfter class J x → ListsTasks class.machine J x.own listed

-- the entry that doing the task makes, with these outputs (this profile's choice of entries)
abbrev pub entry_of : ObjectId → Task → List Out → Entry
entry_of o (tasks.Exit s) outs = entries.Exit o s outs
entry_of o (tasks.Effect t) outs = entries.Effect o t outs
entry_of o (tasks.Enter s) outs = entries.Enter o s outs
entry_of o (tasks.DoStep s k) outs = entries.DoStep o s k outs

-- The entry does the task (this profile's choice of entries).
abbrev pub Does : ObjectId → Task → Entry → Type 0
Does o task e = (outs : List Out) × (e ≡ entry_of o task outs)
