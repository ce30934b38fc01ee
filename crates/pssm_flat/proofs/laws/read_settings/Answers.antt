use Rattle.pssm_flat.proofs.ProperLaws.{flat_proper}
use Rattle.pssm_flat.proofs.SpelledLaws.{flat_spelled}
use Rattle.pssm_flat.proofs.laws.read_settings.Goals as goal

pub returns-clause-proper : goal.returns-clause-proper
returns-clause-proper c = flat_proper

pub returns-clause-spelled : goal.returns-clause-spelled
returns-clause-spelled c = flat_spelled
