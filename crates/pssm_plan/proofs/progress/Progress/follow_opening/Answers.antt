use Rattle.std.proofs.lemmas.Result.{on_ok_weaker}
use Rattle.pssm_plan.proofs.progress.Progress.follow_opening.Goals as goal

pub unreachable-requires : goal.unreachable-requires
unreachable-requires c = c.in_default.not-Opened c.requires.way.1.0 c.requires.way.1.1 c.requires.way.1.2

pub returns-clause-followed : goal.returns-clause-followed
returns-clause-followed c = on_ok_weaker c.follow_restore.result (λ h. (_, _, c.in-Opened.is, h)) c.follow_restore.ensures.followed
