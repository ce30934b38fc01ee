use Rattle.pssm_plan.specs.inner.Sequence.{IsSequence}
use Rattle.pssm_plan.proofs.ClearCalls.{clear_settled}
use Rattle.pssm_plan.proofs.waiting.look_over.Goals as goal

pub returns-then-is_clear_of_many : goal.returns-then-is_clear_of_many
returns-then-is_clear_of_many c =
    clear_settled (IsSequence c.args.machine.now c.args.ways.now) c.args.calls.now c.args.at.place c.args.call.now
    (c.is_clear_of_many.ensures c.if-is_clear_of_many.true)
