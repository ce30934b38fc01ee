-- What is kept once one more entry has come.
use Rattle.std.specs.Prelude.{◌≡◌, ◌+◌, ◌++◌, List, ℤ, [], ◌∷◌, Option, Some, slice_get}
use Rattle.pssm_model.specs.declared.ids.SignalId.{SignalId}
use Rattle.pssm_semantics.specs.declared.entry.ObjectId.{ObjectId}
use Rattle.pssm_semantics.specs.declared.entry.Entry.{Entry}
use Rattle.pssm_semantics.specs.declared.entry.Rule.{Rule}
use Rattle.pssm_semantics.specs.declared.stimulus.Stimulus.{Stimulus}
use Rattle.pssm_semantics.specs.declared.setting.Class.{Class}
use Rattle.pssm_semantics.specs.declared.setting.Setting.{Setting}
use Rattle.pssm_semantics.specs.Settings.{class_of}
use Rattle.pssm_semantics.specs.Journal.{object_of}
use Rattle.pssm_semantics.specs.Pool.{told_by}
use Rattle.pssm_semantics.specs.Rules.{KeepsOwn}
use Rattle.pssm_pool.specs.declared.pools.Waiting.{Waiting}
use Rattle.pssm_pool.specs.Waits.{with_arrived}
use Rattle.pssm_object.specs.Standing.{Standing}
use Rattle.pssm_object.specs.Following.{NamesSignal, IsTold, stimulus_for, made_by}
use Rattle.pssm_semantics.specs.Admissible.{MayFollow}
use Rattle.pssm_system.specs.declared.situation.Situation.{Situation}
use Rattle.pssm_system.specs.inner.Pooling.{waiting_as}
use Rattle.pssm_system.specs.inner.Keeping.{AreObjects, StandsSo}

-- an entry that one of the objects may go on by under this signal
pub record CanStep (setting : Setting) (objects : List Standing) (signal : Option Waiting) (e : Entry) : Type 0 where
  pub before : List Entry
  pub are : AreObjects setting before objects
  pub class : Class
  pub class_is : class_of setting (object_of e) ≡ Some class
  pub names : NamesSignal signal e
  pub keeps : (rule : Rule) → KeepsOwn class (told_by before) (stimulus_for (object_of e) signal) rule before e

-- After each journal after which the objects stood as they did they stand so once the entry has come, if the journal has
-- its signal.
abbrev pub HaveStepped : Setting → List Standing → Option Waiting → Entry → List Standing → Type 0
HaveStepped setting old signal e new =
    (J : List Entry) → AreObjects setting J old → IsTold J (stimulus_for (object_of e) signal) e
    → AreObjects setting (J ++ e ∷ []) new

-- These are the values that the behaviour of the entry leaves to the variables of its object, one of these.
abbrev pub AreMade : Setting → List Standing → Entry → List ℤ → Type 0
AreMade setting objects e store =
    (class : Class) (x : Standing) → class_of setting (object_of e) ≡ Some class → slice_get objects (object_of e).0 ≡ Some x
    → store ≡ (made_by class x e).store

-- the signal that is posted so
abbrev pub posted : ObjectId → SignalId → List ℤ → Stimulus
posted object signal args = record { object = object; signal = signal; args = args }

-- A signal that was posted is the last of its object's pool, and nothing else has changed.
pub record HasPosted (old : Situation) (x : Stimulus) (new : Situation) : Type 0 where
  pub objects : new.objects.items ≡ old.objects.items
  pub pools : new.pools.waiting ≡ with_arrived old.pools.waiting x.object (waiting_as (old.told + 1) x)
  pub told : new.told ≡ old.told + 1

-- After each journal of which the first was kept and after which the entry may follow, the second is kept of the longer one.
abbrev pub Brings : Setting → Situation → Entry → Situation → Type 0
Brings setting old e new =
    (J : List Entry) → StandsSo setting J old → MayFollow setting J e → StandsSo setting (J ++ e ∷ []) new
