-- nothing is marked
use Rattle.pssm_enabled.proofs.Sought.{nothing_marked}
use Rattle.pssm_enabled.proofs.seeking.Search.new.Goals as goal

pub returns-clause-nothing : goal.returns-clause-nothing
returns-clause-nothing c = λ m truth within v u h leaves leads. absurd (nothing_marked 4096 v.0 h)
