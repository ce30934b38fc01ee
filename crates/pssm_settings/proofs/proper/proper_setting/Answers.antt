use Rattle.pssm_settings.proofs.ProperSettings.{setting_proper, setting_spelled}
use Rattle.pssm_settings.proofs.proper.proper_setting.Goals as goal

pub returns-clause-proper : goal.returns-clause-proper
returns-clause-proper c = setting_proper

pub returns-clause-spelled : goal.returns-clause-spelled
returns-clause-spelled c = setting_spelled
