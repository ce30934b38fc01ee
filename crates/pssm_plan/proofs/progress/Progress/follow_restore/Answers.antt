use Rattle.std.proofs.Common.{refl}
use Rattle.pssm_plan.proofs.Growing.{longer_same}
use Rattle.pssm_plan.proofs.Following.{longer_progress, longer_kept, longer_by}
use Rattle.pssm_plan.proofs.progress.Progress.follow_restore.Goals as goal

pub returns-in_err-list_restored-clause-longer : goal.returns-in_err-list_restored-clause-longer
returns-in_err-list_restored-clause-longer c = longer_progress _ _ c.list_restored.ensures.calls (longer_same _) (longer_same _) (longer_same _)

pub returns-in_err-push-clause-longer : goal.returns-in_err-push-clause-longer
returns-in_err-push-clause-longer c =
    longer_progress _ _ c.list_restored.ensures.calls (longer_same _) (longer_kept _ _ c.in_err-push.ensures.items) (longer_same _)

pub returns-clause-longer : goal.returns-clause-longer
returns-clause-longer c = longer_progress _ _ c.list_restored.ensures.calls (longer_same _) (longer_by _ _ _ c.in_ok-push.ensures.items) (longer_same _)

pub returns-clause-followed : goal.returns-clause-followed
returns-clause-followed c = record { ways = refl; restored = c.in_ok-push.ensures.items; extended = c.in_ok-list_restored.ensures.added }
