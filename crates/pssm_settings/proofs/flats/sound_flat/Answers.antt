use Rattle.pssm_settings.proofs.FlatNames.{flat_names}
use Rattle.pssm_settings.proofs.FlatSignals.{flat_defers, flat_triggers}
use Rattle.pssm_settings.proofs.flats.sound_flat.Goals as goal

pub returns-clause-names : goal.returns-clause-names
returns-clause-names c = flat_names

pub returns-clause-defers : goal.returns-clause-defers
returns-clause-defers c = λ draft class flat range flattens. flat_defers draft range class flat flattens

pub returns-clause-triggers : goal.returns-clause-triggers
returns-clause-triggers c = λ draft class flat range flattens. flat_triggers draft range class flat flattens
