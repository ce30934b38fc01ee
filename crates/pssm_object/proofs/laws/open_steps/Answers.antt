-- what is left of a step
use Rattle.pssm_object.proofs.Completing.{step_known, finishes}
use Rattle.pssm_object.proofs.laws.open_steps.Goals as goal

pub returns-clause-known : goal.returns-clause-known
returns-clause-known c = λ class J o b come. step_known class b come

pub returns-clause-finishes : goal.returns-clause-finishes
returns-clause-finishes c = λ class J o b come. finishes class b come
