-- How a run ends, and from where it goes on.
use Rattle.std.specs.Prelude.{◌≡◌, ◌≤◌, ◌++◌, ℕ, List, length}
use Rattle.pssm_semantics.specs.declared.entry.Entry.{Entry}
use Rattle.pssm_semantics.specs.declared.setting.Setting.{Setting}
use Rattle.pssm_semantics.specs.declared.stimulus.Stimulus.{Stimulus}
use Rattle.pssm_semantics.specs.Admissible.{IsFull, FitsStimuli, HasEndedQuietly}
use Rattle.pssm_book.specs.Contents.{Contents}
use Rattle.pssm_workers.specs.declared.ended.Ended.{Ended}
use Rattle.pssm_workers.specs.declared.ended.Ended.TheVariants.{Quiet, Limit}

-- The journal ends as it should: nothing more can happen, or it is full (this profile's choice).
abbrev pub EndsAs : Setting → List Stimulus → ℕ → List Entry → Ended → Type 0
EndsAs setting stimuli limit J Quiet = HasEndedQuietly setting stimuli limit J
EndsAs setting stimuli limit J Limit = IsFull limit J

-- The journal posts the stimuli in order, as far as it comes, and has no more entries than the limit; and it ends as it should
-- (this profile's choice).
pub record EndsRun (setting : Setting) (stimuli : List Stimulus) (limit : ℕ) (J : List Entry) (ended : Ended) : Type 0 where
  pub fits : FitsStimuli J stimuli
  pub few : length J ≤ limit
  pub ends : EndsAs setting stimuli limit J ended

-- the book of a run of this setting with these stimuli and this limit (this profile's choice)
pub record IsBookOf (setting : Setting) (stimuli : List Stimulus) (limit : ℕ) (book : Contents) : Type 0 where
  pub setting_is : book.run.setting ≡ setting
  pub stimuli_are : book.stimuli ≡ stimuli
  pub limit_is : book.limit ≡ limit

-- The one journal begins with the other (this profile's choice).
abbrev pub GoesOnFrom : List Entry → List Entry → Type 0
GoesOnFrom before J = (more : List Entry) × (J ≡ before ++ more)
