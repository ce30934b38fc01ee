use Rattle.pssm_heritage.proofs.OneLaws.{same_chain, not_both, same_fault}
use Rattle.pssm_heritage.proofs.laws.one_chain.Goals as goal

pub returns-clause-chain : goal.returns-clause-chain
returns-clause-chain c = λ draft m one other f g. same_chain f g

pub returns-clause-apart : goal.returns-clause-apart
returns-clause-apart c = not_both

pub returns-clause-fault : goal.returns-clause-fault
returns-clause-fault c = same_fault
