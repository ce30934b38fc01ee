use Rattle.pssm_suite.proofs.LoadedSetting.{generated_well_formed, stimuli_fit}
use Rattle.pssm_suite.proofs.laws.generated_settings.Goals as goal

pub returns-clause-well_formed : goal.returns-clause-well_formed
returns-clause-well_formed c = generated_well_formed

pub returns-clause-stimuli : goal.returns-clause-stimuli
returns-clause-stimuli c n = stimuli_fit n n
