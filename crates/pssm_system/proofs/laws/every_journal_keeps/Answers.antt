-- what every journal keeps
use Rattle.pssm_system.proofs.Regions.{keeps_regions}
use Rattle.pssm_system.proofs.Takes.{admissible-keeps_takes}
use Rattle.pssm_system.proofs.laws.every_journal_keeps.Goals as goal

pub returns : goal.returns
returns c = λ setting J admissible. (admissible-keeps_takes setting J admissible, λ b. keeps_regions b admissible)
