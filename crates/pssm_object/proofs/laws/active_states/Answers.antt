-- what is active, and what becomes complete
use Rattle.pssm_object.proofs.Coming.{come_consistent}
use Rattle.pssm_object.proofs.Regions.{one_becomes}
use Rattle.pssm_object.proofs.laws.active_states.Goals as goal

pub returns-clause-consistent : goal.returns-clause-consistent
returns-clause-consistent c = λ class J o b come. come_consistent b come

pub returns-clause-one_completes : goal.returns-clause-one_completes
returns-clause-one_completes c = λ m before e o s q first second. one_becomes m before e o s q first second
