use Rattle.pssm_plan.specs.inner.Calling.{IsTopOpening}
use Rattle.pssm_plan.proofs.FiredWays.{made_settled}
use Rattle.pssm_plan.proofs.progress.Progress.of_start.Goals as goal

pub returns-clause-made : goal.returns-clause-made
returns-clause-made c =
    made_settled c.args.machine.now _ (IsTopOpening c.args.machine.now) _ _ _ c.new-progress.ensures.calls c.in_ok-list_tops.ensures.added
    c.in_ok-settle_first.ensures.alike c.in_ok-settle_first.ensures.sure
