-- what is chosen before the end
use Rattle.std.specs.Option.{option_copied}
use Rattle.std.proofs.lemmas.Result.{IfOk-weaker}
use Rattle.pssm_object.specs.inner.Situations.{standing_of}
use Rattle.pssm_object.proofs.PlanItems.{plan_is}
use Rattle.pssm_object.proofs.ChoiceLists.{chooses_on}
use Rattle.pssm_object.proofs.situation.Situation.choose_move.Goals as goal

pub choose_in_step-requires-clause-plan : goal.choose_in_step-requires-clause-plan
choose_in_step-requires-clause-plan c = plan_is c.args.class.now.machine c.args.self.now.plan c.in-Some.plan c.in-Some.is c.requires.plan

pub returns-in-Some : goal.returns-in-Some
returns-in-Some c =
    IfOk-weaker c.choose_in_step.result _ _ (chooses_on c.args.class.now (standing_of c.args.self.now) (option_copied c.args.signal) c.in-Some.plan c.in-Some.is c.if-self.false) c.choose_in_step.ensures
