-- What `commit` may come to.
use Rattle.std.specs.Prelude.{◌≡◌, ◌≢◌, ◌<◌, ◌↔◌, ◌++◌, ℕ, ℤ, List, [], ◌∷◌, length, Some, slice_get, Contains}
use Rattle.pssm_semantics.specs.declared.entry.ObjectId.{ObjectId}
use Rattle.pssm_semantics.specs.declared.stimulus.Task.{Task}
use Rattle.pssm_semantics.specs.Work.{Work, outcome_from}
use Rattle.pssm_object.specs.Tasks.{entry_of}
use Rattle.pssm_system.specs.History.{History}
use Rattle.pssm_system.specs.Tasks.{IsReadyOf}
use Rattle.pssm_book.specs.Contents.{Contents}
use Rattle.pssm_book.specs.Works.{behaviour_in, store_in, params_in}

-- The task is handed out and still ready, and this is what was run for it: its behaviour, on the parameters that its entry has, and on as many
-- values as the object has variables (UML 2.5.1 13.2.3, executions of behaviours).
pub record IsItsWork (run : History) (claims : List (ObjectId × Task)) (task : Task) (work : Work) : Type 0 where
  pub claimed : Contains claims (work.own, task)
  pub ready : IsReadyOf run.setting run.journal work.own task
  pub act : behaviour_in run.setting work.own task ≡ Some work.act
  pub params : work.params ≡ params_in run.journal work.own task
  pub size : length work.store ≡ length (store_in run.setting run.journal work.own)

-- the first place at which two lists of values differ, and the values there (this profile's choice)
pub record DifferFirst (kept carried : List ℤ) (place : ℕ) (here there : ℤ) : Type 0 where
  pub kept_is : slice_get kept place ≡ Some here
  pub carried_is : slice_get carried place ≡ Some there
  pub differ : here ≢ there
  pub earlier : (i : ℕ) → i < place → slice_get kept i ≡ slice_get carried i

-- The work is that of the task, but the object has other values now; this variable is the first that has one (this profile's choice).
pub record IsStale (run : History) (claims : List (ObjectId × Task)) (task : Task) (work : Work) (variable : ℕ) (kept carried : ℤ) : Type 0 where
  pub work_is : IsItsWork run claims task work
  pub differ : DifferFirst (store_in run.setting run.journal work.own) work.store variable kept carried

-- The work is that of the task, on the values that the object has now (this profile's choice).
pub record IsUpToDate (run : History) (claims : List (ObjectId × Task)) (task : Task) (work : Work) : Type 0 where
  pub work_is : IsItsWork run claims task work
  pub store : work.store ≡ store_in run.setting run.journal work.own

-- The journal has the entry of the task more, with the outputs that the work made (UML 2.5.1 14.2.3.9, run to completion).
abbrev pub HasDone : Contents → Task → Work → Contents → Type 0
HasDone old task work new = new.run.journal ≡ old.run.journal ++ entry_of work.own task (outcome_from work).outs ∷ []

-- the same claims but this one (this profile's choice)
abbrev pub IsWithout : List (ObjectId × Task) → ObjectId × Task → List (ObjectId × Task) → Type 0
IsWithout old at new = (claim : ObjectId × Task) → Contains new claim ↔ (Contains old claim × (claim ≢ at))
