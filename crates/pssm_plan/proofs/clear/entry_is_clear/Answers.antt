use Rattle.pssm_plan.proofs.ClearCalls.{entry_passed}
use Rattle.pssm_plan.proofs.clear.entry_is_clear.Goals as goal

pub returns-then-are_around : goal.returns-then-are_around
returns-then-are_around c = λ ok.
    entry_passed c.args.machine.now c.args.ways.now c.args.calls.now c.args.s (c.are_around.ensures c.if-are_around.true) (c.is_led.ensures ok)
