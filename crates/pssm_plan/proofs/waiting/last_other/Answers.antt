use Rattle.std.proofs.Common.{get_or}
use Rattle.pssm_plan.proofs.StandingItems.{is_false}
use Rattle.pssm_plan.proofs.waiting.last_other.Goals as goal

pub returns-else-may_wait-clause-none : goal.returns-else-may_wait-clause-none
returns-else-may_wait-clause-none c = λ k d low high inside up.
    c.may_wait.ensures (is_false c.may_wait.result c.if-may_wait.false) (get_or c.args.calls.now k d).item up.0
