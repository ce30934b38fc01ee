use Rattle.std.proofs.Common.{refl}
use Rattle.std.proofs.lemmas.Result.{on_ok_weaker}
use Rattle.pssm_plan.proofs.Growing.{longer_same}
use Rattle.pssm_plan.proofs.Following.{longer_progress, plainly_followed}
use Rattle.pssm_plan.proofs.progress.Progress.follow_plainly.Goals as goal

pub list_entered-requires-clause-ways : goal.list_entered-requires-clause-ways
list_entered-requires-clause-ways c = rw c.as_slice-ways.ensures.value c.requires.ways

pub returns-clause-longer : goal.returns-clause-longer
returns-clause-longer c = longer_progress _ _ c.list_entered.ensures.calls (longer_same _) (longer_same _) (longer_same _)

pub returns-clause-followed : goal.returns-clause-followed
returns-clause-followed c =
    on_ok_weaker c.list_entered.result
    (λ added. plainly_followed c.args.machine.now c.args.self.now _ c.args.item c.as_slice-ways.result.now c.as_slice-restored.result.now
    c.as_slice-ways.ensures.value c.as_slice-restored.ensures.value refl refl added)
    c.list_entered.ensures.added
