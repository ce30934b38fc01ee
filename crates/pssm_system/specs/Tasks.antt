-- What can be done next in a run.
use Rattle.std.specs.Prelude.{◌≡◌, ◌≢◌, ◌≤◌, ◌↔◌, ◌==◌, List, filter_map, if◌then◌else◌, Some, None, Contains, AllPairs}
use Rattle.pssm_semantics.specs.declared.entry.ObjectId.{ObjectId}
use Rattle.pssm_semantics.specs.declared.entry.Entry.{Entry}
use Rattle.pssm_semantics.specs.declared.setting.Class.{Class}
use Rattle.pssm_semantics.specs.declared.setting.Setting.{Setting}
use Rattle.pssm_semantics.specs.declared.stimulus.Task.{Task}
use Rattle.pssm_semantics.specs.Settings.{class_of}
use Rattle.pssm_semantics.specs.Journal.{IsPost, object_of}
use Rattle.pssm_semantics.specs.Tasks.{IsReadyTask}
use Rattle.pssm_semantics.specs.Admissible.{MayFollow}
use Rattle.pssm_object.specs.Following.{IsMove}

-- a ready task of an object of the setting (this profile's choice)
pub record IsReadyOf (setting : Setting) (J : List Entry) (o : ObjectId) (task : Task) : Type 0 where
  pub class : Class
  pub class_is : class_of setting o ≡ Some class
  pub ready : IsReadyTask class.machine J o task

-- the ready tasks of all objects, each once, in the order of the objects (this profile's choice)
pub record AreReady (setting : Setting) (J : List Entry) (tasks : List (ObjectId × Task)) : Type 0 where
  pub each : (o : ObjectId) (task : Task) → Contains tasks (o, task) ↔ IsReadyOf setting J o task
  pub once : AllPairs (λ a b. a ≢ b) tasks
  pub in_order : AllPairs (λ (a b : ObjectId × Task). a.0.0 ≤ b.0.0) tasks

-- of the tasks of all objects those of one, in the same order (this profile's choice)
abbrev pub own_tasks : ObjectId → List (ObjectId × Task) → List Task
own_tasks o tasks = filter_map (λ at. if at.0.0 == o.0 then Some at.1 else None) tasks

-- the ready tasks of one object, each once; none where the setting has no such object (this profile's choice)
pub record AreReadyFor (setting : Setting) (J : List Entry) (o : ObjectId) (tasks : List Task) : Type 0 where
  pub each : (task : Task) → Contains tasks task ↔ IsReadyOf setting J o task
  pub once : AllPairs (λ a b. a ≢ b) tasks

-- No start, take, done, opening or pick may follow (this profile's choice).
abbrev pub HasNoMove : Setting → List Entry → Type 0
HasNoMove setting J = (e : Entry) → IsMove e → MayFollow setting J e → ⊥

-- No start, take, done, opening or pick of this object may follow (this profile's choice).
abbrev pub HasNoMoveOf : Setting → List Entry → ObjectId → Type 0
HasNoMoveOf setting J o = (e : Entry) → object_of e ≡ o → IsMove e → MayFollow setting J e → ⊥

-- No entry of this object but a post may follow (UML 2.5.1 14.2.3.9, run to completion).
abbrev pub IsQuietOf : Setting → List Entry → ObjectId → Type 0
IsQuietOf setting J o = (e : Entry) → object_of e ≡ o → (IsPost e → ⊥) → MayFollow setting J e → ⊥
