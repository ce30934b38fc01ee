-- no ready item is an opening or a pick
use Rattle.std.proofs.Common.{length, refl, arith}
use Rattle.pssm_plan.specs.Standings.{ready_calls}
use Rattle.pssm_object.proofs.ChoiceLists.{no_choice}
use Rattle.pssm_object.proofs.choosing.first_choice.Goals as goal

pub returns-clause-none : goal.returns-clause-none
returns-clause-none c = λ m plan.
    no_choice m c.args.plan.now plan 0 (length (ready_calls c.args.plan.now)) refl
    (λ k call from before at. c.loop-next.invariant k call from (omega (arith, c.in_default.ensures.none)) at)
    (λ k call from before at ways. absurd (omega arith))
