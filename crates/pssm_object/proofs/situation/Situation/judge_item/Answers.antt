-- an item that does not stand ready does not wait, or is not cleared
use Rattle.pssm_plan.specs.Agenda.{course_of}
use Rattle.pssm_object.proofs.PlanItems.{plan_is, not_waiting, not_cleared}
use Rattle.pssm_object.proofs.situation.Situation.judge_item.Goals as goal

pub returns-in-NotCalled : goal.returns-in-NotCalled
returns-in-NotCalled c =
    λ m h. (
      c.in-Some.plan,
      c.in-Some.is,
      not_waiting m (course_of c.in-Some.plan) c.args.item c.standing.result c.in-NotCalled.is
          (c.standing.ensures m (plan_is m c.args.self.now.plan c.in-Some.plan c.in-Some.is h)),
    )

pub returns-in-Waits : goal.returns-in-Waits
returns-in-Waits c =
    λ m h.
    let waits = c.in-Waits.ensures m (plan_is m c.args.self.now.plan c.in-Some.plan c.in-Some.is h) in (
      c.in-Some.plan,
      c.in-Some.is,
      waits.0,
      not_cleared m (course_of c.in-Some.plan) c.in-Waits.on c.args.item waits.1 waits.2,
    )
