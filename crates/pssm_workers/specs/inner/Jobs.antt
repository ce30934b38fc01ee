-- What is known of a job by the setting of its book.
use Rattle.std.specs.Prelude.{◌≡◌, Some}
use Rattle.pssm_semantics.specs.declared.setting.Setting.{Setting}
use Rattle.pssm_book.specs.declared.answers.Job.{Job}
use Rattle.pssm_book.specs.declared.answers.Claimed.{Claimed}
use Rattle.pssm_book.specs.declared.answers.Claimed.TheVariants as answers
use Rattle.pssm_book.specs.Claiming.{CanRun}
use Rattle.pssm_book.specs.Works.{behaviour_in}

-- The job carries the behaviour that its task has in the setting, and can be run.
pub record IsJobIn (setting : Setting) (job : Job) : Type 0 where
  pub act : behaviour_in setting job.object job.task ≡ Some job.act
  pub runs : CanRun job

-- A job that is handed out is such a one.
abbrev pub HandsOutIn : Setting → Claimed → Type 0
HandsOutIn setting (answers.Job job) = IsJobIn setting job
HandsOutIn setting _ = Unit {0}
