-- Where a run stands that one thread goes on with, and what may come next.
use Rattle.std.specs.Prelude.{◌≡◌, ℕ, List, Option, None}
use Rattle.pssm_semantics.specs.declared.setting.Setting.{Setting}
use Rattle.pssm_semantics.specs.declared.stimulus.Stimulus.{Stimulus}
use Rattle.pssm_semantics.specs.Admissible.{IsQuiet}
use Rattle.pssm_system.specs.History.{History}
use Rattle.pssm_book.specs.inner.Keeping.{IsRunning}
use Rattle.pssm_workers.specs.declared.finishing.Course.{Course}

-- No stimulus waits, and nothing else may happen.
pub record IsOver (run : History) (waiting : Option Stimulus) : Type 0 where
  pub none : waiting ≡ None
  pub quiet : IsQuiet run.setting run.journal

-- The course is one of this setting with these stimuli and this limit, and its counts are right.
abbrev pub IsCourseOf : Setting → List Stimulus → ℕ → Course → Type 0
IsCourseOf setting stimuli limit course = IsRunning setting stimuli limit course.system course.posted course.outputs
