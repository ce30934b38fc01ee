-- Where the judging of a journal's bytes stands.
use Rattle.std.specs.Prelude.{◌≡◌, ◌⊎◌, ◌<◌, ℕ, ◌+◌, Bool, true, List, ◌++◌, length, MatchOption}
use Rattle.pssm_semantics.specs.declared.line.Line.{Line}
use Rattle.pssm_semantics.specs.declared.setting.Setting.{Setting}
use Rattle.pssm_semantics.specs.Admissible.{IsAdmissibleIn, KeepsJournalLimits}
use Rattle.pssm_lines.specs.Faults.{IsOpen}
use Rattle.pssm_lines.specs.Reading.{stream_of, AreSoFar, next_number}
use Rattle.pssm_journal.specs.Entries.{AreEntries}
use Rattle.pssm_journal.specs.Judged.{IsJudged}
use Rattle.pssm_system.specs.History.{History}
use Rattle.pssm_judge.specs.declared.run.Stop.{Stop}
use Rattle.pssm_judge.specs.declared.lines.Turn.{Turn}
use Rattle.pssm_judge.specs.declared.lines.Turn.TheVariants.{On, Open, Stop as Ended}
use Rattle.pssm_judge.specs.declared.place.Place.{Place}
use Rattle.pssm_judge.specs.declared.place.Behind.{Behind}
use Rattle.pssm_judge.specs.inner.Answers.{said_at}

-- The run has taken the lines that were read so far, and the rest of the bytes is still to be read, from the line with this number on.
pub record IsJudging (setting : Setting) (bytes rest : List ℕ) (begun : Bool) (number : ℕ) (run : History) : Type 0 where
  pub setting_is : run.setting ≡ setting
  pub lines : List Line
  pub so_far : AreSoFar begun lines
  pub numbered : number ≡ next_number begun lines
  pub entries : AreEntries setting lines run.journal
  pub admissible : IsAdmissibleIn setting run.journal
  pub limits : KeepsJournalLimits run.journal
  pub stream : bytes ≡ stream_of begun lines rest

-- What the judging stopped at is to be said of the bytes, however they go on.
abbrev pub IsSaid : Setting → List ℕ → Stop → Type 0
IsSaid setting bytes stop = (more : List ℕ) → IsJudged setting (bytes ++ more) (said_at stop)

-- At this place the judging goes on with the rest, or it has ended.
abbrev pub IsPlaced : Setting → List ℕ → List ℕ → Place → History → Type 0
IsPlaced setting bytes rest place run = MatchOption place.stop (IsJudging setting bytes rest place.begun place.line run) (λ stop. IsSaid setting bytes stop)

-- Behind a line the judging goes on with what follows it; at one that is open it stands where it stood; or it ends.
abbrev pub IsTurn : Setting → List ℕ → Bool → ℕ → List ℕ → History → Turn → Type 0
IsTurn setting bytes begun number rest run (On after) = IsJudging setting bytes after.now true (number + 1) run
IsTurn setting bytes begun number rest run Open = IsJudging setting bytes rest begun number run
IsTurn setting bytes begun number rest run (Ended stop) = IsSaid setting bytes stop

-- Less is left, or the line is open.
abbrev pub IsShorter : Bool → List ℕ → Turn → Type 0
IsShorter begun bytes (On rest) = length rest.now < length bytes
IsShorter begun bytes Open = IsOpen begun bytes
IsShorter begun bytes (Ended stop) = Unit {0}

-- Where the judging goes on, fewer bytes are left than so many, or they are an open line.
abbrev pub IsFewer : ℕ → Behind → Type 0
IsFewer left behind = MatchOption behind.place.stop ((length behind.rest.now < left) ⊎ IsOpen behind.place.begun behind.rest.now) (λ stop. Unit {0})

-- Less is left, where it goes on, or an open line.
abbrev pub IsLessLeft : List ℕ → Behind → Type 0
IsLessLeft bytes behind = IsFewer (length bytes) behind

-- Where the judging goes on, an open line is left.
abbrev pub IsOver : Behind → Type 0
IsOver behind = MatchOption behind.place.stop (IsOpen behind.place.begun behind.rest.now) (λ stop. Unit {0})
