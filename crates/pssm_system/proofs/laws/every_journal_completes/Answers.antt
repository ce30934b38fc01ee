-- every journal completes
use Rattle.pssm_system.proofs.Completing.{completes}
use Rattle.pssm_system.proofs.laws.every_journal_completes.Goals as goal

pub returns : goal.returns
returns c = λ setting J b admissible. completes b J admissible
