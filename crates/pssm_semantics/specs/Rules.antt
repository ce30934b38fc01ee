-- What each rule of a run asks of an entry after the entries before it.
use Rattle.std.specs.Prelude.{◌≡◌, ◌++◌, ℕ, List, ◌∷◌, Option, Some, None, IfSome, Contains}
use Rattle.std.specs.List.{AllByRecursion}
use Rattle.pssm_model.specs.declared.elements.DraftMachine.{DraftMachine}
use Rattle.pssm_model.specs.declared.steps.Firing.{Firing}
use Rattle.pssm_model.specs.declared.steps.Event.{Event}
use Rattle.pssm_model.specs.declared.steps.Event.TheVariants.{Signal, Completion}
use Rattle.pssm_model.specs.declared.steps.Item.{Item}
use Rattle.pssm_model.specs.Configuration.{IsNextDoStep}
use Rattle.pssm_model.specs.FiringSets.{IsFiring}
use Rattle.pssm_model.specs.Items.{IsWaiting, IsCleared}
use Rattle.pssm_model.specs.Ways.{IsWay}
use Rattle.pssm_semantics.specs.declared.entry.ObjectId.{ObjectId}
use Rattle.pssm_semantics.specs.declared.entry.Entry.{Entry}
use Rattle.pssm_semantics.specs.declared.entry.Entry.TheVariants.{Post, Start, Take, Done, DoStep}
use Rattle.pssm_semantics.specs.declared.entry.Rule.{Rule}
use Rattle.pssm_semantics.specs.declared.entry.Rule.TheVariants.{A1, A2, A3, A4, A5, A6, A7, A8, A9, A10, A11, A12}
use Rattle.pssm_semantics.specs.declared.stimulus.Stimulus.{Stimulus}
use Rattle.pssm_semantics.specs.declared.setting.Class.{Class}
use Rattle.pssm_semantics.specs.declared.setting.Setting.{Setting}
use Rattle.pssm_semantics.specs.Settings.{class_of}
use Rattle.pssm_semantics.specs.Journal.{IsPost, IsStart, object_of, configuration_after}
use Rattle.pssm_semantics.specs.Steps.{StepAt, IsLastStep, item_of, course_of}
use Rattle.pssm_semantics.specs.Values.{Params, eight_of, no_params}
use Rattle.pssm_semantics.specs.Pool.{KnownSignals, told_by, pool_of, outs_of}
use Rattle.pssm_semantics.specs.Completion.{HasEnded, IsQueueHead, IsQueueEmpty}
use Rattle.pssm_semantics.specs.Behaviours.{store_of, guards_under, guards_at, outcome_at}
use Rattle.pssm_semantics.specs.Deferral.{IsDeferred}
use Rattle.pssm_semantics.specs.Completion.{IsStepFinished}
use Rattle.pssm_semantics.specs.Known.{NamesKnown}

-- The object has not ended; a post may come after its end (UML 2.5.1 14.2.3.6 and 14.2.3.7, final states and terminate).
abbrev pub KeepsEnd : DraftMachine → List Entry → Entry → Type 0
KeepsEnd m J (Post o signal args) = Unit {0}
KeepsEnd m J e = HasEnded m J (object_of e) → ⊥

-- The entry is a post, or it is the object's start and the object has no other entry but posts, or the object has started
-- (PSSM 1.0 8.5, the initial run-to-completion step).
abbrev pub KeepsStart : List Entry → Entry → Type 0
KeepsStart J (Post o signal args) = Unit {0}
KeepsStart J (Start o) = AllByRecursion (λ f. (object_of f ≡ o) → IsPost f) J
KeepsStart J e = (f : Entry) × Contains J f × IsStart f (object_of e)

-- The object's step is finished before the next begins (UML 2.5.1 14.2.3.9, run to completion).
abbrev pub KeepsStep : DraftMachine → List Entry → Entry → Type 0
KeepsStep m J (Take o number firing) = IsStepFinished m J o
KeepsStep m J (Done o state firing) = IsStepFinished m J o
KeepsStep m J _ = Unit {0}

-- Completions are dispatched in their order and before all signals (UML 2.5.1 14.2.3.8, completion events; the order is this profile's choice).
abbrev pub KeepsQueue : DraftMachine → List Entry → Entry → Type 0
KeepsQueue m J (Take o number firing) = IsQueueEmpty m J o
KeepsQueue m J (Done o state firing) = IsQueueHead m J o state
KeepsQueue m J _ = Unit {0}

-- The number is that of the first signal in the object's pool that is not deferred (UML 2.5.1 14.2.3.9, event pool; the order is this profile's choice).
abbrev pub IsFirstWaiting : Class → List Entry → ObjectId → ℕ → Type 0
IsFirstWaiting class J o number =
    (held rest : List (ℕ × Stimulus)) × (x : Stimulus) × (pool_of J o ≡ held ++ (number, x) ∷ rest)
    × AllByRecursion (λ w. IsDeferred class (told_by J) J o w.1) held × (IsDeferred class (told_by J) J o x → ⊥)

-- A take names this signal (UML 2.5.1 14.2.3.9, event pool).
abbrev pub KeepsPool : Class → List Entry → Entry → Type 0
KeepsPool class J (Take o number firing) = IsFirstWaiting class J o number
KeepsPool class J _ = Unit {0}

-- The firing is what the event fires for the object after these entries, with guards under these parameters (UML 2.5.1 14.2.3.9, transition selection).
abbrev pub IsWhatFires : Class → KnownSignals → List Entry → ObjectId → Params → Event → Firing → Type 0
IsWhatFires class told J o params event firing =
    IsFiring class.machine (configuration_after class.machine J o) (guards_under class (store_of class told J o) params) event firing.routes

-- A take lists what its signal fires, where the signal is known, and a done what the completion fires (UML 2.5.1 14.2.3.9, transition selection).
abbrev pub KeepsFiring : Class → KnownSignals → Option Stimulus → List Entry → Entry → Type 0
KeepsFiring class told signal J (Take o number firing) =
    (x : Stimulus) → signal ≡ Some x → IsWhatFires class told J o (eight_of x.args) (Signal x.signal) firing
KeepsFiring class told signal J (Done o state firing) = IsWhatFires class told J o no_params (Completion state) firing
KeepsFiring class told signal J _ = Unit {0}

-- an item that waits in the object's last step (UML 2.5.1 14.2.3.9, transition execution sequence)
pub record IsCalledItem (m : DraftMachine) (J : List Entry) (o : ObjectId) (item : Item) : Type 0 where
  pub step : StepAt
  pub last : IsLastStep J o step
  pub waits : IsWaiting m (course_of m o step) item

-- The item that the entry runs is called and has not run (UML 2.5.1 14.2.3.9, transition execution sequence).
abbrev pub KeepsCalls : DraftMachine → List Entry → Entry → Type 0
KeepsCalls m J e = IfSome (item_of e) (λ x. IsCalledItem m J (object_of e) x.0)

-- The item is cleared in the object's last step (UML 2.5.1 14.2.3.9, transition execution sequence).
abbrev pub IsClearedItem : DraftMachine → List Entry → ObjectId → Item → Type 0
IsClearedItem m J o item = (step : StepAt) → IsLastStep J o step → IsCleared m (course_of m o step) item

-- All called items that come before the one that the entry runs have run (UML 2.5.1 14.2.3.9, transition execution sequence).
abbrev pub KeepsOrder : DraftMachine → List Entry → Entry → Type 0
KeepsOrder m J e = IfSome (item_of e) (λ x. IsClearedItem m J (object_of e) x.0)

-- The way that the entry has is one of its item's ways: of an opening or a pick
-- (UML 2.5.1 14.2.3.2, 14.2.3.4 and 14.2.3.7).
abbrev pub KeepsWay : Class → KnownSignals → List Entry → Entry → Type 0
KeepsWay class told J e =
    IfSome (item_of e)
    (λ x. IsWay class.machine (guards_at class told J (object_of e)) (configuration_after class.machine J (object_of e)).Remembers x.0 x.1)

-- A do entry is the next step of its State (UML 2.5.1 14.2.3.4, doActivity).
abbrev pub KeepsDoSteps : DraftMachine → List Entry → Entry → Type 0
KeepsDoSteps m J (DoStep o state step outs) = IsNextDoStep m (configuration_after m J o) state step
KeepsDoSteps m J _ = Unit {0}

-- The outputs are those of the behaviour on the store and parameters; an entry without behaviour has none (UML 2.5.1 13.2.3, behaviours).
abbrev pub KeepsOuts : Class → KnownSignals → List Entry → Entry → Type 0
KeepsOuts class told J e = outs_of e ≡ (outcome_at class told J e (store_of class told J (object_of e))).outs

-- The entry keeps the rule as far as the object itself shows it, where these signals are known and this one is handed in with a take
-- (the list of rules is this profile's choice).
abbrev pub KeepsOwn : Class → KnownSignals → Option Stimulus → Rule → List Entry → Entry → Type 0
KeepsOwn class told signal A1 J e = Unit {0}
KeepsOwn class told signal A2 J e = KeepsEnd class.machine J e
KeepsOwn class told signal A3 J e = KeepsStart J e
KeepsOwn class told signal A4 J e = KeepsStep class.machine J e
KeepsOwn class told signal A5 J e = KeepsQueue class.machine J e
KeepsOwn class told signal A6 J e = Unit {0}
KeepsOwn class told signal A7 J e = KeepsFiring class told signal J e
KeepsOwn class told signal A8 J e = KeepsCalls class.machine J e
KeepsOwn class told signal A9 J e = KeepsOrder class.machine J e
KeepsOwn class told signal A10 J e = KeepsWay class told J e
KeepsOwn class told signal A11 J e = KeepsDoSteps class.machine J e
KeepsOwn class told signal A12 J e = KeepsOuts class told J e

-- the signal that a take names, where it is known (this profile's choice)
abbrev pub taken_by : KnownSignals → Entry → Option Stimulus
taken_by told (Take o number firing) = told number
taken_by told _ = None

-- The entry keeps the rule in a journal of all objects, which shows the pools (the list of rules is this profile's choice).
abbrev pub KeepsShared : Class → Rule → List Entry → Entry → Type 0
KeepsShared class A6 J e = KeepsPool class J e
KeepsShared class rule J e = KeepsOwn class (told_by J) (taken_by (told_by J) e) rule J e

-- The entry keeps the rule after these entries in the setting (the list of rules is this profile's choice).
abbrev pub Holds : Setting → Rule → List Entry → Entry → Type 0
Holds setting A1 J e = (class : Class) × (class_of setting (object_of e) ≡ Some class) × NamesKnown setting class e
Holds setting rule J e = (class : Class) → class_of setting (object_of e) ≡ Some class → KeepsShared class rule J e
