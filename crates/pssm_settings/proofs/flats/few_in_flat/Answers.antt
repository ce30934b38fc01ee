use Rattle.pssm_settings.proofs.FlatBodies.{flat_bodies_few}
use Rattle.pssm_settings.proofs.FlatVars.{flat_vars_few}
use Rattle.pssm_settings.proofs.flats.few_in_flat.Goals as goal

pub returns-clause-bodies : goal.returns-clause-bodies
returns-clause-bodies c = flat_bodies_few

pub returns-clause-vars : goal.returns-clause-vars
returns-clause-vars c = flat_vars_few
