use Rattle.pssm_tool.proofs.AlwaysDue.{always_due}
use Rattle.pssm_tool.proofs.laws.always_due.Goals as goal

pub returns : goal.returns
returns c = always_due c.some_load.ensures c.generated_texts.ensures.read
