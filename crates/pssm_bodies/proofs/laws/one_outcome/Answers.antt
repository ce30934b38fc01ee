use Rattle.pssm_bodies.proofs.OneOutcome.{one_program, one_body_fault}
use Rattle.pssm_bodies.proofs.Apart.{not_both}
use Rattle.pssm_bodies.proofs.laws.one_outcome.Goals as goal

pub returns-clause-program : goal.returns-clause-program
returns-clause-program c = one_program

pub returns-clause-fault : goal.returns-clause-fault
returns-clause-fault c = one_body_fault

pub returns-clause-apart : goal.returns-clause-apart
returns-clause-apart c = not_both
