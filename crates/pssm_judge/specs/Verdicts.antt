-- What the judge's answers say of a journal.
use Rattle.std.specs.Prelude.{◌≡◌, ℕ, List, length}
use Rattle.pssm_base.specs.Faults.{Rose}
use Rattle.pssm_base.specs.Reading.{Given, ReadsWhole, HoldsMore}
use Rattle.pssm_semantics.specs.declared.entry.Entry.{Entry}
use Rattle.pssm_semantics.specs.declared.line.Line.{Line}
use Rattle.pssm_semantics.specs.declared.setting.Setting.{Setting}
use Rattle.pssm_semantics.specs.Laws.{CompletesInTime}
use Rattle.pssm_lines.specs.LineText.{journal_text}
use Rattle.pssm_journal.specs.Judged.{Judged, Accepted, Refused, Limited, BadText, IsKept, IsJudged}
use Rattle.pssm_judge.specs.declared.verdict.Verdict.{Verdict}
use Rattle.pssm_judge.specs.declared.verdict.Verdict.TheVariants.{Accept, Refuse}
use Rattle.pssm_judge.specs.declared.verdict.JudgeFault.{JudgeFault}
use Rattle.pssm_judge.specs.declared.verdict.JudgeFault.TheVariants.{Text, Limit, TooLarge, ReadFault, NoMemory}

-- The bytes are the text of an admissible journal that can be continued to a complete run, by no more entries than its open steps need at most.
pub record IsPrefixText (setting : Setting) (bytes : List ℕ) (entries : ℕ) : Type 0 where
  pub lines : List Line
  pub journal : List Entry
  pub text : bytes ≡ journal_text lines
  pub kept : IsKept setting lines journal
  pub entries_are : entries ≡ length journal
  pub completes : CompletesInTime setting journal

-- what the bytes deserve, as a verdict; an accepted journal can be continued to a complete run
abbrev pub IsVerdictOn : Setting → List ℕ → Verdict → Type 0
IsVerdictOn setting bytes (Accept entries) = IsJudged setting bytes (Accepted entries) × IsPrefixText setting bytes entries
IsVerdictOn setting bytes (Refuse entry rule) = IsJudged setting bytes (Refused entry rule)

-- The path was read whole, and its bytes deserve the verdict.
pub record IsVerdictFor (setting : Setting) (given : Given) (path : List ℕ) (verdict : Verdict) : Type 0 where
  pub bytes : List ℕ
  pub reads : ReadsWhole given path 16777216 bytes
  pub says : IsVerdictOn setting bytes verdict

-- The path was read whole, and this is to be said of its bytes.
abbrev pub ReadsJudged : Setting → Given → List ℕ → Judged → Type 0
ReadsJudged setting given path judged = (bytes : List ℕ) × ReadsWhole given path 16777216 bytes × IsJudged setting bytes judged

-- Why there is no verdict: the text has this fault, or passes the limits; the path holds too much; or the count of its faults rose. Want of memory is told without a cause.
abbrev pub IsFaultFor : Setting → Given → ℕ → ℕ → List ℕ → JudgeFault → Type 0
IsFaultFor setting given before after path (Text fault) = ReadsJudged setting given path (BadText fault)
IsFaultFor setting given before after path (Limit entry) = ReadsJudged setting given path (Limited entry)
IsFaultFor setting given before after path TooLarge = HoldsMore given path 16777216
IsFaultFor setting given before after path ReadFault = Rose before after
IsFaultFor setting given before after path NoMemory = Unit {0}
