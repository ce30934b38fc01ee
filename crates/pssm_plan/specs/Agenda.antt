-- What contracts see of a plan: the step as far as it has come, and the items that it calls.
use Rattle.std.specs.Prelude.{List}
use Rattle.pssm_model.specs.declared.steps.Item.{Item}
use Rattle.pssm_model.specs.declared.steps.How.{How}
use Rattle.pssm_model.specs.Course.{Head, Course}
use Rattle.pssm_config.specs.Tables.{Tables, configuration_of}
use Rattle.pssm_plan.specs.declared.roster.Call.{Call}
use Rattle.pssm_plan.specs.declared.ways.Way.{Way}
use Rattle.pssm_plan.specs.declared.progress.Restored.{Restored}

-- the head of the step, the tables of the configuration at its head, the items that have run, in order, each with its way, the items that are
-- called, each once, the ways of the routes by which the step goes, and what was restored in it (UML 2.5.1 14.2.3.9, run to completion)
pub record Agenda : Type 0 where
  pub head : Head
  pub at_head : Tables
  pub ran : List (Item × How)
  pub calls : List Call
  pub ways : List Way
  pub restored : List Restored

-- the step as far as it has come (UML 2.5.1 14.2.3.9, run to completion)
abbrev pub course_of : Agenda → Course
course_of plan = record { head = plan.head; at_head = configuration_of plan.at_head; ran = plan.ran }
