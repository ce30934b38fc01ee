use Rattle.pssm_plan.proofs.RunBefore.{run_none}
use Rattle.pssm_plan.proofs.waiters.look_once_more.Goals as goal

pub look_on-wait-requires-clause-done : goal.look_on-wait-requires-clause-done
look_on-wait-requires-clause-done c = run_none c.args.calls.now
