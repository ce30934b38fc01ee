use Rattle.pssm_settings.proofs.SomeSetting.{some_setting}
use Rattle.pssm_settings.proofs.laws.some_setting.Goals as goal

pub returns : goal.returns
returns c = some_setting c.some_flat.ensures
