-- When a State becomes complete, which completion comes next, when a step is finished, and when an object has ended.
use Rattle.std.specs.Prelude.{◌≡◌, ◌⊎◌, ◌≤◌, ◌++◌, ℕ, List, [], ◌∷◌, length, Contains}
use Rattle.std.specs.List.{AllByRecursion}
use Rattle.pssm_model.specs.declared.ids.VertexId.{VertexId}
use Rattle.pssm_model.specs.declared.ids.TransId.{TransId}
use Rattle.pssm_model.specs.declared.elements.DraftMachine.{DraftMachine}
use Rattle.pssm_model.specs.declared.elements.VertexKind.TheVariants as kinds
use Rattle.pssm_model.specs.Forest.{HasKind}
use Rattle.pssm_model.specs.Legs.{Leaves, Enters}
use Rattle.pssm_model.specs.Configuration.{IsComplete, AllTopsAreFinal}
use Rattle.pssm_model.specs.Routes.{HasNoTrigger}
use Rattle.pssm_model.specs.Items.{HasRunOut}
use Rattle.pssm_semantics.specs.declared.entry.ObjectId.{ObjectId}
use Rattle.pssm_semantics.specs.declared.entry.Entry.{Entry}
use Rattle.pssm_semantics.specs.declared.entry.Entry.TheVariants.{Done, Effect}
use Rattle.pssm_semantics.specs.Steps.{StepAt, IsLastStep, course_of}
use Rattle.pssm_semantics.specs.Journal.{Splits, IsActive, EntersAt, configuration_after}

-- The entry dispatches the completion of the State (UML 2.5.1 14.2.3.8, completion events).
abbrev pub DonesAt : Entry → ObjectId → VertexId → Type 0
DonesAt (Done object state firing) o s = (object ≡ o) × (state ≡ s)
DonesAt _ o s = ⊥

-- The entry runs the effect of the transition (UML 2.5.1 14.2.3.8, effects).
abbrev pub EffectsAt : Entry → ObjectId → TransId → Type 0
EffectsAt (Effect object transition outs) o t = (object ≡ o) × (transition ≡ t)
EffectsAt _ o t = ⊥

-- The State is complete after the entry, and was not before it or is entered by it (UML 2.5.1 14.2.3.8, completion events).
abbrev pub BecomesComplete : DraftMachine → List Entry → Entry → ObjectId → VertexId → Type 0
BecomesComplete m before e o s = IsComplete m (configuration_after m (before ++ e ∷ []) o) s × ((IsComplete m (configuration_after m before o) s → ⊥) ⊎ EntersAt e o s)

-- A transition without triggers leaves the State (UML 2.5.1 14.2.3.8, completion transitions).
abbrev pub HasCompletionTransition : DraftMachine → VertexId → Type 0
HasCompletionTransition m s = (t : TransId) × Leaves m t s × HasNoTrigger m t

-- an active State whose completion waits since this position, from 1: it became complete there, at its last entry or later and after its
-- last completion was dispatched (UML 2.5.1 14.2.3.8, completion events)
pub record IsQueuedAt (m : DraftMachine) (J : List Entry) (o : ObjectId) (s : VertexId) (position : ℕ) : Type 0 where
  pub active : IsActive J o s
  pub transition : HasCompletionTransition m s
  pub before : List Entry
  pub entry : Entry
  pub after : List Entry
  pub splits : Splits J before entry after
  pub position_is : position ≡ length (before ++ entry ∷ [])
  pub becomes : BecomesComplete m before entry o s
  pub since_entered : AllByRecursion (λ f. EntersAt f o s → ⊥) after
  pub since_done : AllByRecursion (λ f. DonesAt f o s → ⊥) (entry ∷ after)

-- the first of the queue, which is in the order of the least such positions (UML 2.5.1 14.2.3.8, completion events; the order is this profile's choice)
abbrev pub IsQueueHead : DraftMachine → List Entry → ObjectId → VertexId → Type 0
IsQueueHead m J o s =
    (i : ℕ) × IsQueuedAt m J o s i × ((q : VertexId) (j : ℕ) → IsQueuedAt m J o q j → i ≤ j)

-- No completion waits (UML 2.5.1 14.2.3.8, completion events).
abbrev pub IsQueueEmpty : DraftMachine → List Entry → ObjectId → Type 0
IsQueueEmpty m J o = (s : VertexId) (i : ℕ) → IsQueuedAt m J o s i → ⊥

-- The effect of a transition into a terminate vertex has run (UML 2.5.1 14.2.3.7, terminate).
abbrev pub HasTerminated : DraftMachine → List Entry → ObjectId → Type 0
HasTerminated m J o =
    (e : Entry) × (t : TransId) × (v : VertexId) × Contains J e × EffectsAt e o t × Enters m t v × HasKind m v kinds.Terminate

-- The object has terminated, or every top region has an active final state of its own (UML 2.5.1 14.2.3.6 and 14.2.3.7, final states and terminate).
abbrev pub HasEnded : DraftMachine → List Entry → ObjectId → Type 0
HasEnded m J o = HasTerminated m J o ⊎ AllTopsAreFinal m (configuration_after m J o)

-- Every item that the object's last step calls has run, or the object has ended (UML 2.5.1 14.2.3.9, run to completion).
abbrev pub IsStepFinished : DraftMachine → List Entry → ObjectId → Type 0
IsStepFinished m J o =
    ((step : StepAt) → IsLastStep J o step → HasRunOut m (course_of m o step)) ⊎ HasEnded m J o
