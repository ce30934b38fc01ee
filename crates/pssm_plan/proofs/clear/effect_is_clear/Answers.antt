use Rattle.pssm_plan.proofs.ClearCalls.{effect_passed}
use Rattle.pssm_plan.proofs.clear.effect_is_clear.Goals as goal

pub returns-then-is_within : goal.returns-then-is_within
returns-then-is_within c = λ ok.
    effect_passed c.args.machine.now c.args.ways.now c.args.calls.now c.args.t c.in-Region.r c.args.done (c.is_within.ensures c.if-is_within.true)
    (c.has_no_exit_in.ensures ok) c.requires.done
