use Rattle.pssm_bodies.proofs.FitLaws.{program_fits, marks_named}
use Rattle.pssm_bodies.proofs.fitting.programs_fit.Goals as goal

pub returns-clause-fits : goal.returns-clause-fits
returns-clause-fits c = program_fits

pub returns-clause-marks : goal.returns-clause-marks
returns-clause-marks c = marks_named
