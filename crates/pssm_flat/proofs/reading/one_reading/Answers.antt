use Rattle.pssm_flat.proofs.EveryText.{setting_or_fault}
use Rattle.pssm_flat.proofs.FaultLaws.{one_setting, one_fault, not_both}
use Rattle.pssm_flat.proofs.reading.one_reading.Goals as goal

pub returns-clause-one_setting : goal.returns-clause-one_setting
returns-clause-one_setting c = one_setting

pub returns-clause-one_fault : goal.returns-clause-one_fault
returns-clause-one_fault c = one_fault

pub returns-clause-not_both : goal.returns-clause-not_both
returns-clause-not_both c = not_both

pub returns-clause-some : goal.returns-clause-some
returns-clause-some c = setting_or_fault
