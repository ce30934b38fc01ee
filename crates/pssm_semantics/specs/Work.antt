-- What was run.
use Rattle.std.specs.Prelude.{ℤ, List}
use Rattle.pssm_semantics.specs.declared.entry.ObjectId.{ObjectId}
use Rattle.pssm_semantics.specs.declared.setting.Outcome.{Outcome}
use Rattle.pssm_semantics.specs.declared.tree.Act.{Act}
use Rattle.pssm_semantics.specs.Values.{outcome_of}

-- a behaviour of an object, run on values of the variables and on parameters (UML 2.5.1 13.2.3, executions of behaviours)
pub record Work : Type 0 where
  pub own : ObjectId
  pub act : Act
  pub store : List ℤ
  pub params : List ℤ

-- what it makes (UML 2.5.1 13.2.3, executions of behaviours)
abbrev pub outcome_from : Work → Outcome
outcome_from work = outcome_of work.act work.own work.store work.params
