-- The steps of an object, and how far each has come, read off the journal.
use Rattle.std.specs.Prelude.{◌==◌, List, [], if◌then◌else◌, Option, Some, None, filter_map}
use Rattle.std.specs.List.{AllByRecursion}
use Rattle.pssm_model.specs.declared.elements.DraftMachine.{DraftMachine}
use Rattle.pssm_model.specs.declared.steps.How.{How}
use Rattle.pssm_model.specs.declared.steps.How.TheVariants.{By, Nothing}
use Rattle.pssm_model.specs.declared.steps.Item.{Item}
use Rattle.pssm_model.specs.declared.steps.Item.TheVariants as items
use Rattle.pssm_model.specs.Course.{Head, Course}
use Rattle.pssm_model.specs.Course.Head.{Starts, Fires}
use Rattle.pssm_semantics.specs.declared.entry.ObjectId.{ObjectId}
use Rattle.pssm_semantics.specs.declared.entry.Entry.{Entry}
use Rattle.pssm_semantics.specs.declared.entry.Entry.TheVariants.{Start, Take, Done, Exit, Effect, Enter, Opened, Pick}
use Rattle.pssm_semantics.specs.Journal.{Splits, Heads, object_of, configuration_after}

-- a step of an object: the entries before its head, the head, and the later ones (UML 2.5.1 14.2.3.9, run to completion)
pub record StepAt : Type 0 where
  pub before : List Entry
  pub head : Entry
  pub after : List Entry

-- the object's last step: no later entry begins another (UML 2.5.1 14.2.3.9, run to completion)
pub record IsLastStep (J : List Entry) (o : ObjectId) (step : StepAt) : Type 0 where
  pub splits : Splits J step.before step.head step.after
  pub heads : Heads step.head o
  pub last : AllByRecursion (λ e. Heads e o → ⊥) step.after

-- how an entry begins a step: a start by itself, and a take or a done by the routes that it fires (UML 2.5.1 14.2.3.9, transition selection)
abbrev pub head_of : Entry → Head
head_of (Start object) = Starts
head_of (Take object number firing) = Fires firing.routes
head_of (Done object state firing) = Fires firing.routes
head_of _ = Fires []

-- the item that an entry runs, with its way (this profile's choice of items)
abbrev pub item_of : Entry → Option (Item × How)
item_of (Exit object state outs) = Some (items.Exit state, Nothing)
item_of (Effect object transition outs) = Some (items.Effect transition, Nothing)
item_of (Enter object state outs) = Some (items.Enter state, Nothing)
item_of (Opened object region mode how) = Some (items.Opened region mode, how)
item_of (Pick object choice route) = Some (items.Pick choice, By route)
item_of _ = None

-- the same where the entry is one of the object (this profile's choice of items)
abbrev pub item_by : ObjectId → Entry → Option (Item × How)
item_by o e = if (object_of e).0 == o.0 then item_of e else None

-- how far the step of the object has come (UML 2.5.1 14.2.3.9, run to completion)
abbrev pub course_of : DraftMachine → ObjectId → StepAt → Course
course_of m o step = record {
  head = head_of step.head;
  at_head = configuration_after m step.before o;
  ran = filter_map (item_by o) step.after;
}
