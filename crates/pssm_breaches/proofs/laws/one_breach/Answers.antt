use Rattle.pssm_breaches.proofs.OneLaws.{one_rule, one_first}
use Rattle.pssm_breaches.proofs.laws.one_breach.Goals as goal

pub returns-clause-rule : goal.returns-clause-rule
returns-clause-rule c = λ draft m kind e r s f g. one_rule f g

pub returns-clause-first : goal.returns-clause-first
returns-clause-first c = one_first
