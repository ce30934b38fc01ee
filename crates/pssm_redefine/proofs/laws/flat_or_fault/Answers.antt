use Rattle.pssm_redefine.proofs.OneLaws.{apart, same_fault_of_class}
use Rattle.pssm_redefine.proofs.laws.flat_or_fault.Goals as goal

pub returns-clause-apart : goal.returns-clause-apart
returns-clause-apart c = apart

pub returns-clause-fault : goal.returns-clause-fault
returns-clause-fault c = same_fault_of_class
