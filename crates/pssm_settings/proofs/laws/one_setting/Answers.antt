use Rattle.pssm_settings.proofs.SameSettings.{one_setting, set_or_failed, one_failure}
use Rattle.pssm_settings.proofs.laws.one_setting.Goals as goal

pub returns-clause-setting : goal.returns-clause-setting
returns-clause-setting c = one_setting

pub returns-clause-apart : goal.returns-clause-apart
returns-clause-apart c = set_or_failed

pub returns-clause-fault : goal.returns-clause-fault
returns-clause-fault c = one_failure
