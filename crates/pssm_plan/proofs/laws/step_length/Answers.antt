-- the law is a lemma
use Rattle.pssm_model.specs.Order.{known_course}
use Rattle.pssm_plan.proofs.StepLengths.{step_length}
use Rattle.pssm_plan.proofs.laws.step_length.Goals as goal

pub returns : goal.returns
returns c = λ m head now ran step. step_length m (known_course head now ran) step
