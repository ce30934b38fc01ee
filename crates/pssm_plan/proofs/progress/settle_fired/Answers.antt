use Rattle.pssm_plan.proofs.RunBefore.{run_none}
use Rattle.pssm_plan.proofs.StandingItems.{is_false}
use Rattle.pssm_plan.proofs.progress.settle_fired.Goals as goal

pub settle-requires-clause-new : goal.settle-requires-clause-new
settle-requires-clause-new c = c.requires.new (is_false c.args.anew c.if-anew.false)

pub settle-requires-clause-done : goal.settle-requires-clause-done
settle-requires-clause-done c = run_none c.args.roster.now.calls.items
