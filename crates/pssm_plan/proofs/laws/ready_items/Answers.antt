-- the laws are lemmas
use Rattle.pssm_plan.proofs.KnownItems.{known_ready, step_finished}
use Rattle.pssm_model.specs.Order.{known_course}
use Rattle.pssm_plan.proofs.laws.ready_items.Goals as goal

pub returns-clause-waiting : goal.returns-clause-waiting
returns-clause-waiting c = λ m head now ran item step waits. known_ready m head now ran item step waits

pub returns-clause-finished : goal.returns-clause-finished
returns-clause-finished c = λ m head now ran step none. step_finished m (known_course head now ran) step none
