use Rattle.pssm_suite.proofs.GeneratedSize.{generated_small}
use Rattle.pssm_suite.proofs.SettingText.{generated_text_is}
use Rattle.pssm_suite.proofs.LoadedSetting.{generated_read}
use Rattle.pssm_suite.proofs.laws.generated_texts.Goals as goal

pub returns-clause-small : goal.returns-clause-small
returns-clause-small c = generated_small

pub returns-clause-text : goal.returns-clause-text
returns-clause-text c = generated_text_is

pub returns-clause-read : goal.returns-clause-read
returns-clause-read c = generated_read
