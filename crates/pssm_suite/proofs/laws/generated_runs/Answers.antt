use Rattle.pssm_suite.proofs.RunCounts.{few_entries, never_full}
use Rattle.pssm_suite.proofs.laws.generated_runs.Goals as goal

pub returns-clause-few : goal.returns-clause-few
returns-clause-few c = few_entries

pub returns-clause-never_full : goal.returns-clause-never_full
returns-clause-never_full c = never_full
