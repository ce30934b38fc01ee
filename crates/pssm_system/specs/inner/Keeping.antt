-- What a system keeps true of its parts.
use Rattle.std.specs.Prelude.{◌≡◌, ◌+◌, ◌≤◌, ◌<◌, List, [], length, map, flat_map, Some, slice_get}
use Rattle.std.specs.List.{AllByRecursion}
use Rattle.std.specs.Option.{option_map_or}
use Rattle.pssm_semantics.specs.declared.entry.ObjectId.{ObjectId}
use Rattle.pssm_semantics.specs.declared.entry.Entry.{Entry}
use Rattle.pssm_semantics.specs.declared.setting.Class.{Class}
use Rattle.pssm_semantics.specs.declared.setting.Setting.{Setting}
use Rattle.pssm_semantics.specs.declared.stimulus.Task.{Task}
use Rattle.pssm_semantics.specs.Settings.{class_of}
use Rattle.pssm_semantics.specs.Pool.{signals_of_entry, signals_of, pool_of}
use Rattle.pssm_semantics.specs.Proper.{IsWellFormed}
use Rattle.pssm_semantics.specs.Admissible.{MayFollow, IsAdmissibleIn, KeepsJournalLimits}
use Rattle.pssm_pool.specs.declared.pools.Waiting.{Waiting}
use Rattle.pssm_pool.specs.Waits.{held_in}
use Rattle.pssm_object.specs.Standing.{Standing, StandsAfter}
use Rattle.pssm_object.specs.Tasks.{ready_tasks}
use Rattle.pssm_system.specs.declared.situation.Situation.{Situation}
use Rattle.pssm_semantics.specs.Forms.{IsRunEntry}
use Rattle.pssm_system.specs.inner.Pooling.{numbered_for}

-- The object of the class is this one, and stands so after these entries.
pub record IsObject (class : Class) (J : List Entry) (o : ObjectId) (x : Standing) : Type 0 where
  pub own : x.own ≡ o
  pub stands : StandsAfter class J x

-- each object of the setting stands so after these entries
pub record AreObjects (setting : Setting) (J : List Entry) (objects : List Standing) : Type 0 where
  pub count : length objects ≡ length setting.objects
  pub each : (o : ObjectId) (class : Class) (x : Standing) → class_of setting o ≡ Some class
      → slice_get objects o.0 ≡ Some x → IsObject class J o x

-- for each object of the setting these signals wait after these entries
pub record ArePools (setting : Setting) (J : List Entry) (pools : List (List Waiting)) : Type 0 where
  pub count : length pools ≡ length setting.objects
  pub each : (o : ObjectId) (waiting : List Waiting) → slice_get pools o.0 ≡ Some waiting → pool_of J o ≡ numbered_for o waiting

-- what is kept of a journal is so of it, and no more signals wait than were told
pub record StandsSo (setting : Setting) (J : List Entry) (s : Situation) : Type 0 where
  pub objects : AreObjects setting J s.objects.items
  pub pools : ArePools setting J s.pools.waiting
  pub told : s.told ≡ length (signals_of J)
  pub held : held_in s.pools.waiting ≤ s.told

-- There are entries of which it is.
abbrev pub Stands : Setting → Situation → Type 0
Stands setting s = (J : List Entry) × StandsSo setting J s

-- an entry that may come next, with no more signals than can be numbered and kept
pub record CanCome (setting : Setting) (s : Situation) (e : Entry) : Type 0 where
  pub before : List Entry
  pub stands : StandsSo setting before s
  pub follows : MayFollow setting before e
  pub few : s.told + length (signals_of_entry e) < 4_294_967_295

-- nothing has changed but room
pub record IsUnchanged (old new : Situation) : Type 0 where
  pub objects : new.objects.items ≡ old.objects.items
  pub pools : new.pools.waiting ≡ old.pools.waiting
  pub told : new.told ≡ old.told

-- the ready tasks of an object of the setting
abbrev pub tasks_for : Setting → Standing → List Task
tasks_for setting x = option_map_or (λ class. ready_tasks class.machine x) (class_of setting x.own) []

-- those of the objects, in their order
abbrev pub tasks_of : Setting → List Standing → List (ObjectId × Task)
tasks_of setting objects = flat_map (λ x. map (λ task. (x.own, task)) (tasks_for setting x)) objects

-- a well-formed setting, a journal of an admissible run of it within the limits, and what is kept of the journal
pub record KeepsRun (setting : Setting) (J : List Entry) (s : Situation) : Type 0 where
  pub well_formed : IsWellFormed setting
  pub admissible : IsAdmissibleIn setting J
  pub limits : KeepsJournalLimits J
  pub entries : AllByRecursion IsRunEntry J
  pub stands : StandsSo setting J s
