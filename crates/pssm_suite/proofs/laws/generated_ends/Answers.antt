use Rattle.pssm_suite.proofs.RunEnds.{all_entries}
use Rattle.pssm_suite.proofs.laws.generated_ends.Goals as goal

pub returns : goal.returns
returns c = all_entries
