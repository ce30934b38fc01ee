-- an item is ready in the plan that there is, or not at all
use Rattle.pssm_object.proofs.PlanItems.{plan_is}
use Rattle.pssm_object.proofs.TasksReady.{ready_where}
use Rattle.pssm_object.proofs.situation.Situation.is_item_ready.Goals as goal

pub returns-in-Some : goal.returns-in-Some
returns-in-Some c = λ m h.
    let is = c.is_ready.ensures m (plan_is m c.args.self.now.plan c.in-Some.plan c.in-Some.is h) in (
      λ yes. (c.in-Some.plan, c.in-Some.is, is.0 yes),
      λ at. is.1 (ready_where m c.args.self.now.plan c.in-Some.plan c.args.item c.in-Some.is at),
    )
