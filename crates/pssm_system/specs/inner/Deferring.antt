-- The signal that an object may take next.
use Rattle.std.specs.Prelude.{◌≡◌, ◌⊎◌, ◌++◌, ◌==◌, ℕ, List, ◌∷◌, if◌then◌else◌, true, false, Option, Some, None, slice_get}
use Rattle.std.specs.List.{AllByRecursion}
use Rattle.pssm_semantics.specs.declared.entry.ObjectId.{ObjectId}
use Rattle.pssm_semantics.specs.declared.entry.Entry.{Entry}
use Rattle.pssm_semantics.specs.declared.entry.Entry.TheVariants.{Take}
use Rattle.pssm_semantics.specs.declared.setting.Class.{Class}
use Rattle.pssm_semantics.specs.declared.setting.Setting.{Setting}
use Rattle.pssm_semantics.specs.Settings.{class_of}
use Rattle.pssm_pool.specs.declared.pools.Waiting.{Waiting}
use Rattle.pssm_pool.specs.Waits.{waiting_for}
use Rattle.pssm_object.specs.Standing.{Standing}
use Rattle.pssm_object.specs.Following.{Defers, TellsWait}
use Rattle.pssm_system.specs.declared.situation.Situation.{Situation}

-- The object defers each of the signals (UML 2.5.1 14.2.3.4, deferred events).
abbrev pub AreDeferred : Class → Standing → List Waiting → Type 0
AreDeferred class x waiting = AllByRecursion (λ w. Defers class x w true) waiting

-- a signal of a pool that the object does not defer, where it defers all before it (UML 2.5.1 14.2.3.4, deferred events)
pub record ComesFirst (class : Class) (x : Standing) (waiting : List Waiting) (w : Waiting) : Type 0 where
  pub held : List Waiting
  pub behind : List Waiting
  pub waiting_is : waiting ≡ held ++ w ∷ behind
  pub deferred : AreDeferred class x held
  pub free : Defers class x w false

-- the first signal of a pool that the object does not defer, or none where it defers all of them
-- (UML 2.5.1 14.2.3.4, deferred events)
abbrev pub IsFirstFree : Class → Standing → List Waiting → Option Waiting → Type 0
IsFirstFree class x waiting None = AreDeferred class x waiting
IsFirstFree class x waiting (Some w) = ComesFirst class x waiting w

-- the signal, if it has this number
abbrev pub if_numbered : ℕ → Option Waiting → Option Waiting
if_numbered n None = None
if_numbered n (Some w) = if w.number == n then Some w else None

-- the first signal that waits for an object of the setting and that it does not defer, or none where there is none
abbrev pub IsFirstFor : Setting → Situation → ObjectId → Option Waiting → Type 0
IsFirstFor setting s o signal =
    (class : Class) (x : Standing) → class_of setting o ≡ Some class → slice_get s.objects.items o.0 ≡ Some x
    → IsFirstFree class x (waiting_for s.pools.waiting o) signal

-- The object waits for no signal (UML 2.5.1 14.2.3.9, run to completion).
abbrev pub AwaitsNothing : Setting → Situation → ObjectId → Type 0
AwaitsNothing setting s o =
    (class : Class) (x : Standing) → class_of setting o ≡ Some class → slice_get s.objects.items o.0 ≡ Some x → TellsWait class x false

-- the first signal that waits for an object of the setting and that it does not defer; none where the object waits for no signal
abbrev pub IsAwaited : Setting → Situation → ObjectId → Option Waiting → Type 0
IsAwaited setting s o signal = IsFirstFor setting s o signal ⊎ ((signal ≡ None) × AwaitsNothing setting s o)

-- the signal with which an entry comes: a take with the first that is not deferred, if it has the number that the take names
abbrev pub ComesWith : Setting → Situation → Entry → Option Waiting → Type 0
ComesWith setting s (Take o number firing) signal =
    (first : Option Waiting) × IsFirstFor setting s o first × (signal ≡ if_numbered number first)
ComesWith setting s _ signal = signal ≡ None
