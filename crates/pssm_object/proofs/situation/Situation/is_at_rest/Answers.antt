-- the object rests exactly where its plan is finished
use Rattle.pssm_object.proofs.PlanItems.{plan_is, rests_where}
use Rattle.pssm_object.proofs.situation.Situation.is_at_rest.Goals as goal

pub returns-in-Some : goal.returns-in-Some
returns-in-Some c = λ m h.
    let is = c.finished.ensures m (plan_is m c.args.self.now.plan c.in-Some.plan c.in-Some.is h) in (
      λ yes. (c.in-Some.plan, c.in-Some.is, is.0 yes),
      λ rests. is.1 (rests_where m c.args.self.now.plan c.in-Some.plan c.in-Some.is rests),
    )
