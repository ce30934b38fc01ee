-- How many entries and takes the runs of a generated model have.
use Rattle.std.specs.Prelude.{◌≡◌, ◌≤◌, ◌+◌, ◌*◌, ℕ, Bool, true, false, List, length, count_by}
use Rattle.pssm_semantics.specs.declared.entry.Entry.{Entry}
use Rattle.pssm_semantics.specs.declared.entry.Entry.TheVariants.{Take}
use Rattle.pssm_semantics.specs.Pool.{posts_of}
use Rattle.pssm_semantics.specs.Admissible.{IsAdmissibleIn, IsQuiet, FitsStimuli}
use Rattle.pssm_suite.specs.Generated.{generated_stimuli}
use Rattle.pssm_suite.specs.GeneratedSetting.{generated_setting}

-- whether the entry takes a signal
abbrev pub takes_signal : Entry → Bool
takes_signal (Take object number firing) = true
takes_signal _ = false

-- how many entries take a signal
abbrev pub take_count : List Entry → ℕ
take_count J = count_by takes_signal J

-- a journal of the generated setting, as far as it has come: it breaks no rule, and posts the stimuli in order
pub record IsGeneratedRun (n : ℕ) (J : List Entry) : Type 0 where
  pub admissible : IsAdmissibleIn (generated_setting n) J
  pub fits : FitsStimuli J (generated_stimuli n)

-- such a journal with all stimuli posted, after which nothing more can happen
pub record IsGeneratedEnd (n : ℕ) (J : List Entry) : Type 0 where
  pub admissible : IsAdmissibleIn (generated_setting n) J
  pub all_posted : posts_of J ≡ generated_stimuli n
  pub quiet : IsQuiet (generated_setting n) J

-- at most 12 n + 14 entries, and at most 2 n takes among them
pub record HasFewEntries (n : ℕ) (J : List Entry) : Type 0 where
  pub entries : length J ≤ 12 * n + 14
  pub takes : take_count J ≤ 2 * n

-- exactly 12 n + 14 entries, and exactly 2 n takes among them
pub record HasAllEntries (n : ℕ) (J : List Entry) : Type 0 where
  pub entries : length J ≡ 12 * n + 14
  pub takes : take_count J ≡ 2 * n
