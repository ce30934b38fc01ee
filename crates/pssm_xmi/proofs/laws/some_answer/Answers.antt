use Rattle.pssm_xmi.proofs.SomeAnswer.{some_answer}
use Rattle.pssm_xmi.proofs.laws.some_answer.Goals as goal

pub returns : goal.returns
returns c = some_answer
