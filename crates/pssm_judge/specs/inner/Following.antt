-- What a line does to a run, and at which line the judging ends.
use Rattle.std.specs.Prelude.{◌≡◌, ℕ, ◌+◌, List, [], ◌∷◌, ◌++◌, length}
use Rattle.pssm_semantics.specs.declared.entry.Entry.{Entry}
use Rattle.pssm_semantics.specs.declared.line.Line.{Line}
use Rattle.pssm_semantics.specs.declared.setting.Setting.{Setting}
use Rattle.pssm_semantics.specs.Admissible.{IsAdmissibleIn, KeepsJournalLimits}
use Rattle.pssm_journal.specs.Entries.{IsEntryOf, KeepsNames}
use Rattle.pssm_journal.specs.Judged.{line_output_count, BreaksRule, PassesLimits}
use Rattle.pssm_system.specs.History.{History}
use Rattle.pssm_judge.specs.declared.run.Stop.{Stop}
use Rattle.pssm_judge.specs.declared.run.Stop.TheVariants.{Limit, Refuse, Text}

-- The run has taken the entry that the line writes, is admissible and keeps the limits.
pub record TakesLine (old new : History) (line : Line) : Type 0 where
  pub entry : Entry
  pub is : IsEntryOf old.setting line entry
  pub setting_is : new.setting ≡ old.setting
  pub journal_is : new.journal ≡ old.journal ++ entry ∷ []
  pub admissible : IsAdmissibleIn new.setting new.journal
  pub limits : KeepsJournalLimits new.journal

-- The line writes the entry, as the one at this position; its names are known, and the journal does not pass the limits by it.
pub record IsTold (run : History) (line : Line) (position outputs : ℕ) (entry : Entry) : Type 0 where
  pub admissible : IsAdmissibleIn run.setting run.journal
  pub writes : IsEntryOf run.setting line entry
  pub known : KeepsNames run.setting entry
  pub within : PassesLimits run.journal line → ⊥
  pub placed : position ≡ length run.journal + 1
  pub counted : outputs ≡ line_output_count line

-- Behind the journal the judging ends at this line of the grammar: the limits are asked first, and then the rules.
abbrev pub StopsAt : Setting → List Entry → Line → Stop → Type 0
StopsAt setting J line (Limit entry) = (entry ≡ length J + 1) × PassesLimits J line
StopsAt setting J line (Refuse entry rule) = (entry ≡ length J + 1) × (PassesLimits J line → ⊥) × BreaksRule setting J line rule
StopsAt setting J line (Text fault) = ⊥
