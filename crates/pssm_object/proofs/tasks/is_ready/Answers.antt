-- an item that stands otherwise is not ready
use Rattle.std.proofs.lemmas.Bool.{false≢true}
use Rattle.pssm_plan.specs.Agenda.{course_of}
use Rattle.pssm_object.proofs.PlanItems.{not_waiting, not_cleared}
use Rattle.pssm_object.proofs.tasks.is_ready.Goals as goal

pub returns-in-NotCalled : goal.returns-in-NotCalled
returns-in-NotCalled c =
    λ m h. (
      λ no. absurd (false≢true no),
      λ r.
          absurd (not_waiting m (course_of c.args.plan.now) c.args.item c.standing.result c.in-NotCalled.is (c.standing.ensures m h) r.waiting),
    )

pub returns-in-Waits : goal.returns-in-Waits
returns-in-Waits c =
    λ m h.
    let waits = c.in-Waits.ensures m h in (
      λ no. absurd (false≢true no),
      λ r. absurd (not_cleared m (course_of c.args.plan.now) c.in-Waits.on c.args.item waits.1 waits.2 r.cleared),
    )
