-- What clauses see of a system.
use Rattle.std.specs.Prelude.{List}
use Rattle.pssm_semantics.specs.declared.entry.ObjectId.{ObjectId}
use Rattle.pssm_semantics.specs.declared.entry.Entry.{Entry}
use Rattle.pssm_semantics.specs.declared.setting.Setting.{Setting}
use Rattle.pssm_semantics.specs.declared.stimulus.Task.{Task}

-- a setting, the journal of a run of it, and the tasks that are ready after it, in the order in which they are listed
-- (UML 2.5.1 14.2.3.9, run to completion)
pub record History : Type 0 where
  pub setting : Setting
  pub journal : List Entry
  pub tasks : List (ObjectId × Task)
