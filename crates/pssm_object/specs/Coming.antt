-- How far an object has come in a journal, as the journal alone shows it.
use Rattle.std.specs.Prelude.{◌≡◌, ◌⊎◌, List, Option, IsSome}
use Rattle.pssm_model.specs.declared.elements.DraftMachine.{DraftMachine}
use Rattle.pssm_model.specs.declared.steps.How.{How}
use Rattle.pssm_model.specs.declared.steps.Item.{Item}
use Rattle.pssm_model.specs.Course.{Head}
use Rattle.pssm_semantics.specs.declared.entry.ObjectId.{ObjectId}
use Rattle.pssm_semantics.specs.declared.entry.Entry.{Entry}
use Rattle.pssm_semantics.specs.declared.entry.Entry.TheVariants.{Take}
use Rattle.pssm_semantics.specs.declared.entry.Rule.{Rule}
use Rattle.pssm_semantics.specs.declared.setting.Class.{Class}
use Rattle.pssm_semantics.specs.declared.stimulus.Stimulus.{Stimulus}
use Rattle.pssm_semantics.specs.Journal.{object_of, configuration_after}
use Rattle.pssm_semantics.specs.Pool.{told_by}
use Rattle.pssm_semantics.specs.Rules.{KeepsOwn}
use Rattle.pssm_object.specs.Standing.{IsUnderWay, HasNotStarted}

-- The object has started, and its last step is under way: it began in the configuration after these entries, and these items have run
-- (UML 2.5.1 14.2.3.9, run to completion).
pub record HasCourse (m : DraftMachine) (J : List Entry) (o : ObjectId) : Type 0 where
  pub head : Head
  pub before : List Entry
  pub ran : List (Item × How)
  pub under_way : IsUnderWay m J o head (configuration_after m before o) ran

-- The object has not started, or its last step is under way (UML 2.5.1 14.2.3.9, run to completion).
abbrev pub HasCome : DraftMachine → List Entry → ObjectId → Type 0
HasCome m J o = HasNotStarted m J o ⊎ HasCourse m J o

-- The signal of a take is known (UML 2.5.1 14.2.3.9, event pool).
abbrev pub KnowsSignal : Option Stimulus → Entry → Type 0
KnowsSignal signal (Take o number firing) = IsSome signal
KnowsSignal signal _ = Unit {0}

-- an entry of the object that keeps every rule as far as the object shows it, where the signal of a take is known
-- (UML 2.5.1 14.2.3.9, run to completion)
pub record Continues (class : Class) (J : List Entry) (o : ObjectId) (signal : Option Stimulus) (e : Entry) : Type 0 where
  pub own : object_of e ≡ o
  pub knows : KnowsSignal signal e
  pub keeps : (rule : Rule) → KeepsOwn class (told_by J) signal rule J e
