-- What is to be said of the bytes of a journal.
use Rattle.std.specs.Prelude.{◌≡◌, ◌⊎◌, ◌<◌, ℕ, ◌+◌, List, [], ◌∷◌, ◌++◌, length}
use Rattle.std.specs.List.{AllByRecursion}
use Rattle.pssm_semantics.specs.declared.entry.Entry.{Entry}
use Rattle.pssm_semantics.specs.declared.entry.Rule.{Rule}
use Rattle.pssm_semantics.specs.declared.entry.Rule.TheVariants.{A1}
use Rattle.pssm_semantics.specs.declared.line.Line.{Line}
use Rattle.pssm_semantics.specs.declared.line.Line.TheVariants.{Post, Exit, Effect, Enter, DoStep}
use Rattle.pssm_semantics.specs.declared.setting.Setting.{Setting}
use Rattle.pssm_semantics.specs.Rules.{Holds}
use Rattle.pssm_semantics.specs.Pool.{output_count}
use Rattle.pssm_semantics.specs.Admissible.{IsAdmissibleIn, KeepsJournalLimits}
use Rattle.pssm_semantics.specs.Verdict.{IsFirstBroken}
use Rattle.pssm_lines.specs.declared.fault.LineFault.{LineFault}
use Rattle.pssm_lines.specs.LineText.{journal_text}
use Rattle.pssm_lines.specs.Faults.{IsJournalLine, HasFault}
use Rattle.pssm_journal.specs.Entries.{IsEntryOf, BreaksNames, AreEntries}

-- accepted with the number of its entries, refused at an entry, from 1, by a rule, over the limits at an entry, or no text of a journal, with its first fault
pub data Judged : Type 0 where
  Accepted : ℕ → Judged
  Refused : ℕ → Rule → Judged
  Limited : ℕ → Judged
  BadText : LineFault → Judged

-- how many posts, sends and marks a line writes
abbrev pub line_output_count : Line → ℕ
line_output_count (Post object signal args) = 1
line_output_count (Exit object state outs) = length outs
line_output_count (Effect object transition outs) = length outs
line_output_count (Enter object state outs) = length outs
line_output_count (DoStep object state step outs) = length outs
line_output_count _ = 0

-- With one more line there are more than 1,000,000 entries, or more than 2,000,000 posts, sends and marks.
abbrev pub PassesLimits : List Entry → Line → Type 0
PassesLimits J line = (1000000 < length J + 1) ⊎ (2000000 < output_count J + line_output_count line)

-- Lines that a journal may have write entries that break no rule, and no more than the limits allow.
pub record IsKept (setting : Setting) (lines : List Line) (J : List Entry) : Type 0 where
  pub lines_are : AllByRecursion IsJournalLine lines
  pub entries_are : AreEntries setting lines J
  pub admissible : IsAdmissibleIn setting J
  pub limits : KeepsJournalLimits J

-- The line's entry breaks this rule first; a line whose names are not the setting's breaks the first rule.
pub data BreaksRule (setting : Setting) (J : List Entry) (line : Line) (rule : Rule) : Type 0 where
  by_entry : (e : Entry) → IsEntryOf setting line e → IsFirstBroken (Holds setting) J e rule → BreaksRule setting J line rule
  by_names : BreaksNames setting line → rule ≡ A1 → BreaksRule setting J line rule

-- The bytes are the text of a journal that breaks no rule and keeps the limits.
pub record IsAccepted (setting : Setting) (bytes : List ℕ) (entries : ℕ) : Type 0 where
  pub lines : List Line
  pub journal : List Entry
  pub text : bytes ≡ journal_text lines
  pub kept : IsKept setting lines journal
  pub entries_are : entries ≡ length journal

-- The bytes begin with a journal whose last entry, and no earlier one, breaks a rule, this one first; no entry passes the limits.
pub record IsRefusedText (setting : Setting) (bytes : List ℕ) (position : ℕ) (rule : Rule) : Type 0 where
  pub lines : List Line
  pub journal : List Entry
  pub line : Line
  pub rest : List ℕ
  pub text : bytes ≡ journal_text (lines ++ line ∷ []) ++ rest
  pub kept : IsKept setting lines journal
  pub is_line : IsJournalLine line
  pub within : PassesLimits journal line → ⊥
  pub breaks : BreaksRule setting journal line rule
  pub position_is : position ≡ length journal + 1

-- The bytes begin with a journal that passes the limits by its last entry and no earlier one; no earlier entry breaks a rule.
pub record IsOverLimit (setting : Setting) (bytes : List ℕ) (position : ℕ) : Type 0 where
  pub lines : List Line
  pub journal : List Entry
  pub line : Line
  pub rest : List ℕ
  pub text : bytes ≡ journal_text (lines ++ line ∷ []) ++ rest
  pub kept : IsKept setting lines journal
  pub is_line : IsJournalLine line
  pub passes : PassesLimits journal line
  pub position_is : position ≡ length journal + 1

-- The bytes are no text of a journal and have this fault, and no entry before it breaks a rule or passes the limits.
pub record IsBadJournal (setting : Setting) (bytes : List ℕ) (fault : LineFault) : Type 0 where
  pub lines : List Line
  pub journal : List Entry
  pub bad : HasFault bytes lines fault
  pub kept : IsKept setting lines journal

-- what is to be said of the bytes: of each line in order it is first asked whether it is one, then whether it passes the limits, then what it writes
abbrev pub IsJudged : Setting → List ℕ → Judged → Type 0
IsJudged setting bytes (Accepted entries) = IsAccepted setting bytes entries
IsJudged setting bytes (Refused position rule) = IsRefusedText setting bytes position rule
IsJudged setting bytes (Limited position) = IsOverLimit setting bytes position
IsJudged setting bytes (BadText fault) = IsBadJournal setting bytes fault
