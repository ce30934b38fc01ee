use Rattle.pssm_load.proofs.SomeLoad.{some_load}
use Rattle.pssm_load.proofs.laws.some_load.Goals as goal

pub returns : goal.returns
returns c = some_load c.one_role.ensures c.some_answer.ensures c.some_setting.ensures
