use Rattle.pssm_lines.proofs.OneFault.{one_reading, no_fault_at_all, one_text}
use Rattle.pssm_lines.proofs.laws.one_fault.Goals as goal

pub returns-clause-lines : goal.returns-clause-lines
returns-clause-lines c = λ text lines others fault other p q. (one_reading text lines others fault other p q).lines

pub returns-clause-fault : goal.returns-clause-fault
returns-clause-fault c = λ text lines others fault other p q. (one_reading text lines others fault other p q).fault

pub returns-clause-none : goal.returns-clause-none
returns-clause-none c = no_fault_at_all

pub returns-clause-same : goal.returns-clause-same
returns-clause-same c = one_text
