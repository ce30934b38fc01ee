-- The steps of which the laws speak.
use Rattle.pssm_model.specs.declared.elements.DraftMachine.{DraftMachine}
use Rattle.pssm_model.specs.Shapes.{HasShape}
use Rattle.pssm_model.specs.WellFormed.{KeepsModelRules}
use Rattle.pssm_model.specs.Course.{Course}
use Rattle.pssm_model.specs.Order.{HasGone}
use Rattle.pssm_plan.specs.Steadiness.{BeginsWell}

-- A step of a machine that has its shape and keeps the rules of models has begun well and has come so far: no two of the routes that fire conflict. Two
-- that conflict could wait for one another (UML 2.5.1 14.2.3.9, run to completion and conflicting transitions).
pub record IsStep (m : DraftMachine) (course : Course) : Type 0 where
  pub shape : HasShape m
  pub rules : KeepsModelRules m
  pub gone : HasGone m course.head course.at_head course.ran
  pub begins : BeginsWell m course.head course.at_head
