-- What contracts see of one object of a run: where it stands, and after which entries of all objects it stands so.
use Rattle.std.specs.Prelude.{◌≡◌, ◌⊎◌, ◌↔◌, ◌≤◌, ℕ, Bool, List, length, filter_map, Option, Some, None, Contains, IsTrue}
use Rattle.std.specs.List.{AllByRecursion}
use Rattle.pssm_model.specs.declared.ids.VertexId.{VertexId}
use Rattle.pssm_model.specs.declared.ids.RegionId.{RegionId}
use Rattle.pssm_model.specs.declared.elements.DraftMachine.{DraftMachine}
use Rattle.pssm_model.specs.declared.steps.Firing.{Firing}
use Rattle.pssm_model.specs.declared.steps.How.{How}
use Rattle.pssm_model.specs.declared.steps.Item.{Item}
use Rattle.pssm_model.specs.Configuration.{Configuration}
use Rattle.pssm_model.specs.Changes.{Agree, nothing_yet}
use Rattle.pssm_model.specs.Course.{Head}
use Rattle.pssm_model.specs.Order.{HasGone}
use Rattle.pssm_config.specs.Tables.{Tables, Fits, configuration_of}
use Rattle.pssm_plan.specs.Agenda.{Agenda}
use Rattle.pssm_plan.specs.Plans.{IsPlanOf}
use Rattle.pssm_plan.specs.Steadiness.{BeginsWell, changed_along}
use Rattle.pssm_semantics.specs.declared.entry.ObjectId.{ObjectId}
use Rattle.pssm_semantics.specs.declared.entry.Entry.{Entry}
use Rattle.pssm_semantics.specs.declared.entry.Entry.TheVariants.{Take}
use Rattle.pssm_semantics.specs.declared.setting.Class.{Class}
use Rattle.pssm_semantics.specs.declared.stimulus.Stimulus.{Stimulus}
use Rattle.pssm_semantics.specs.Journal.{IsPost, IsStart, object_of, configuration_after}
use Rattle.pssm_semantics.specs.Steps.{StepAt, IsLastStep, head_of, item_by}
use Rattle.pssm_semantics.specs.Values.{Store, Params}
use Rattle.pssm_semantics.specs.Pool.{told_by}
use Rattle.pssm_semantics.specs.Behaviours.{store_of, params_of}
use Rattle.pssm_semantics.specs.Completion.{HasEnded}
use Rattle.pssm_object.specs.Queue.{CompletionQueue, IsQueueOf}
use Rattle.pssm_object.specs.Doing.{AreDoersBelow}

-- an object: which one it is, the tables of its configuration, the plan of its last step, the values of its variables, the
-- parameters of its step, its completion queue, whether it has ended, and a number below which all vertices with do steps are
-- (UML 2.5.1 14.2.3.9, run to completion)
pub record Standing : Type 0 where
  pub own : ObjectId
  pub config : Tables
  pub plan : Option Agenda
  pub store : Store
  pub params : Params
  pub queue : CompletionQueue
  pub ended : Bool
  pub doers : ℕ

-- What is active in the one is active in the other (UML 2.5.1 14.2.3.4, State configurations).
abbrev pub AreActiveAlike : Configuration → Configuration → Type 0
AreActiveAlike a b = (s : VertexId) → a.Active s ↔ b.Active s

-- The object has started, and its last step began so, in this configuration, and has come so far; what is active is what the
-- items that have run leave active; and what was active and remembered at its beginning is known (UML 2.5.1 14.2.3.9, run to completion).
pub record IsUnderWay (m : DraftMachine) (J : List Entry) (o : ObjectId) (head : Head) (at_head : Configuration)
    (ran : List (Item × How)) : Type 0 where
  pub step : StepAt
  pub start : Entry
  pub started : Contains J start × IsStart start o
  pub last : IsLastStep J o step
  pub head_is : head ≡ head_of step.head
  pub at_head_is : Agree at_head (configuration_after m step.before o)
  pub ran_is : ran ≡ filter_map (item_by o) step.after
  pub gone : HasGone m head at_head ran
  pub begins : BeginsWell m head at_head
  pub known : (s : VertexId) → at_head.Active s ⊎ (at_head.Active s → ⊥)
  pub memory_known : (r : RegionId) (s : VertexId) → at_head.Remembers r s ⊎ (at_head.Remembers r s → ⊥)
  pub along : AreActiveAlike (configuration_after m J o) (changed_along m at_head ran)

-- The object has not started: its entries are posts alone, and nothing is active, remembered or left empty
-- (PSSM 1.0 8.5, the initial run-to-completion step).
pub record HasNotStarted (m : DraftMachine) (J : List Entry) (o : ObjectId) : Type 0 where
  pub posts : AllByRecursion (λ f. (object_of f ≡ o) → IsPost f) J
  pub nothing : Agree (configuration_after m J o) nothing_yet

-- The plan is that of the object's last step; there is none where the object has not started
-- (UML 2.5.1 14.2.3.9, run to completion).
abbrev pub IsStepOf : DraftMachine → List Entry → ObjectId → Option Agenda → Type 0
IsStepOf m J o None = HasNotStarted m J o
IsStepOf m J o (Some plan) = IsPlanOf m plan × IsUnderWay m J o plan.head (configuration_of plan.at_head) plan.ran

-- The journal has each signal that the object has taken (UML 2.5.1 14.2.3.9, event pool).
abbrev pub HasSignalsTaken : List Entry → ObjectId → Type 0
HasSignalsTaken J o =
    (number : ℕ) (firing : Firing) → Contains J (Take o number firing) → (x : Stimulus) × (told_by J number ≡ Some x)

-- The object of the class stands so after these entries, which are those of all objects
-- (UML 2.5.1 14.2.3.9, run to completion).
pub record StandsAfter (class : Class) (J : List Entry) (x : Standing) : Type 0 where
  pub fits : Fits class.machine x.config
  pub now_is : Agree (configuration_of x.config) (configuration_after class.machine J x.own)
  pub step_is : IsStepOf class.machine J x.own x.plan
  pub told : HasSignalsTaken J x.own
  pub store_is : x.store ≡ store_of class (told_by J) J x.own
  pub params_is : x.params ≡ params_of (told_by J) J x.own
  pub room : length class.machine.vertices ≤ x.queue.room
  pub queue_is : IsQueueOf class.machine J x.own x.queue.states
  pub ended_is : IsTrue x.ended ↔ HasEnded class.machine J x.own
  pub doers_is : AreDoersBelow class.machine x.doers

-- There are entries after which the object of the class stands so (UML 2.5.1 14.2.3.9, run to completion).
abbrev pub Stands : Class → Standing → Type 0
Stands class x = (J : List Entry) × StandsAfter class J x
