use Rattle.pssm_judge.proofs.PieceLaws.{none_made}
use Rattle.pssm_judge.proofs.judging.judge_path.Goals as goal

-- Nothing was read.
pub returns-in_err-text-clause-grows : goal.returns-in_err-text-clause-grows
returns-in_err-text-clause-grows g c = none_made _

pub returns-in_err-spare-clause-grows : goal.returns-in_err-spare-clause-grows
returns-in_err-spare-clause-grows g c = none_made _
