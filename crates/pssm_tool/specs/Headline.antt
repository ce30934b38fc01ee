-- The headline: which journals are accepted.
use Rattle.std.specs.Prelude.{◌≡◌, ◌⊎◌, ℕ, List, Option}
use Rattle.std.specs.List.{AllByRecursion}
use Rattle.std.specs.Io.KnownBytes.{Appends}
use Rattle.pssm_base.specs.History.{History}
use Rattle.pssm_base.specs.Reading.{Given, until, onward, ReadsWhole}
use Rattle.pssm_semantics.specs.declared.entry.Entry.{Entry}
use Rattle.pssm_semantics.specs.declared.line.Line.{Line}
use Rattle.pssm_semantics.specs.declared.setting.Setting.{Setting}
use Rattle.pssm_semantics.specs.Admissible.{KeepsJournalLimits, IsPrefixOfRun}
use Rattle.pssm_semantics.specs.Laws.{CompletesInTime}
use Rattle.pssm_lines.specs.LineText.{journal_text}
use Rattle.pssm_lines.specs.Faults.{IsJournalLine}
use Rattle.pssm_journal.specs.Entries.{AreEntries}
use Rattle.pssm_journal.specs.Judged.{Accepted, IsJudged}
use Rattle.pssm_tool.specs.Words.{Judges, Means}
use Rattle.pssm_tool.specs.Answers.{IsFailure}
use Rattle.pssm_tool.specs.Due.{most_bytes, File, HasModel, BeginsWithModel}

-- The path has the text of a journal of these entries, whose names are the setting's, within the limits.
pub record HoldsJournal (given : Given) (path : List ℕ) (setting : Setting) (J : List Entry) : Type 0 where
  pub bytes : List ℕ
  pub lines : List Line
  pub reads : ReadsWhole given path most_bytes bytes
  pub text : bytes ≡ journal_text lines
  pub lines_are : AllByRecursion IsJournalLine lines
  pub entries_are : AreEntries setting lines J
  pub limits : KeepsJournalLimits J

-- The model was read first, and behind it the journal's path, which has such a text, and the entries are a prefix of a complete run of the setting.
pub record HoldsPrefix (given : Given) (model journal : List ℕ) (setting : Setting) : Type 0 where
  pub moment : History
  pub entries : List Entry
  pub model_is : HasModel (until moment given) (File model) setting
  pub holds : HoldsJournal (onward moment given) journal setting entries
  pub prefix : IsPrefixOfRun setting entries

-- The journal is accepted exactly where its path has the text of a prefix of a complete run of the model, unless reading, writing or memory failed.
abbrev pub AcceptsPrefixes : List (List ℕ) → Given → ℕ → Type 0
AcceptsPrefixes words given code =
    (model journal : List ℕ) (setting : Setting) → Means words (Judges model journal) → BeginsWithModel given (File model) setting
    → (code ≡ 0 → HoldsPrefix given model journal setting) × (HoldsPrefix given model journal setting → (code ≡ 0) ⊎ IsFailure code)

-- The journal is a prefix of a complete run of the model, which no more further entries reach than its open steps need at most.
pub record IsContinued (given : Given) (model journal : List ℕ) : Type 0 where
  pub setting : Setting
  pub entries : List Entry
  pub moment : History
  pub model_is : HasModel (until moment given) (File model) setting
  pub holds : HoldsJournal (onward moment given) journal setting entries
  pub completes : CompletesInTime setting entries

-- A text was written that the judge accepts as a journal of the model.
pub record IsAcceptedText (given : Given) (model : List ℕ) (before after : Option (List ℕ)) : Type 0 where
  pub setting : Setting
  pub text : List ℕ
  pub model_is : HasModel given (File model) setting
  pub written : Appends before after text
  pub accepted : (entries : ℕ) × IsJudged setting text (Accepted entries)
