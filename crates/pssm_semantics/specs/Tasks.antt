-- What can be done next in a run by who runs behaviours.
use Rattle.std.specs.Prelude.{List}
use Rattle.pssm_model.specs.declared.elements.DraftMachine.{DraftMachine}
use Rattle.pssm_model.specs.declared.steps.Item.{Item}
use Rattle.pssm_model.specs.declared.steps.Item.TheVariants as items
use Rattle.pssm_model.specs.Configuration.{IsNextDoStep}
use Rattle.pssm_model.specs.Order.{IsReady}
use Rattle.pssm_semantics.specs.declared.entry.ObjectId.{ObjectId}
use Rattle.pssm_semantics.specs.declared.entry.Entry.{Entry}
use Rattle.pssm_semantics.specs.declared.stimulus.Task.{Task}
use Rattle.pssm_semantics.specs.declared.stimulus.Task.TheVariants as tasks
use Rattle.pssm_semantics.specs.Journal.{configuration_after}
use Rattle.pssm_semantics.specs.Steps.{StepAt, IsLastStep, course_of}
use Rattle.pssm_semantics.specs.Completion.{HasEnded}

-- an item that is ready in the object's last step (UML 2.5.1 14.2.3.9, transition execution sequence)
pub record IsReadyItem (m : DraftMachine) (J : List Entry) (o : ObjectId) (item : Item) : Type 0 where
  pub step : StepAt
  pub last : IsLastStep J o step
  pub ready : IsReady m (course_of m o step) item

-- what makes the work of a task ready (this profile's choice)
abbrev pub IsReadyWork : DraftMachine → List Entry → ObjectId → Task → Type 0
IsReadyWork m J o (tasks.Exit s) = IsReadyItem m J o (items.Exit s)
IsReadyWork m J o (tasks.Effect t) = IsReadyItem m J o (items.Effect t)
IsReadyWork m J o (tasks.Enter s) = IsReadyItem m J o (items.Enter s)
IsReadyWork m J o (tasks.DoStep s k) = IsNextDoStep m (configuration_after m J o) s k

-- a task of an object that has not ended: a ready exit, effect or entry, or the next do step of an active State (this profile's choice)
abbrev pub IsReadyTask : DraftMachine → List Entry → ObjectId → Task → Type 0
IsReadyTask m J o task = (HasEnded m J o → ⊥) × IsReadyWork m J o task
