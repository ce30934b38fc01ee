-- What the text of a run's journal is, and when words name no stimuli.
use Rattle.std.specs.Prelude.{◌≡◌, ℕ, List}
use Rattle.pssm_semantics.specs.declared.entry.Entry.{Entry}
use Rattle.pssm_semantics.specs.declared.setting.Setting.{Setting}
use Rattle.pssm_semantics.specs.declared.stimulus.Stimulus.{Stimulus}
use Rattle.pssm_semantics.specs.declared.line.Line.{Line}
use Rattle.pssm_lines.specs.LineText.{journal_text}
use Rattle.pssm_journal.specs.Judged.{IsKept}
use Rattle.pssm_tool.specs.Stimuli.{AreStimuli}

-- The bytes are the text of a journal: its lines are lines of the grammar, and its entries break no rule and keep the limits.
pub record IsTextOf (setting : Setting) (J : List Entry) (bytes : List ℕ) : Type 0 where
  pub lines : List Line
  pub text : bytes ≡ journal_text lines
  pub kept : IsKept setting lines J

-- Some word names no stimulus of the setting.
abbrev pub NameNoStimuli : Setting → List (List ℕ) → Type 0
NameNoStimuli setting words = (stimuli : List Stimulus) → AreStimuli setting words stimuli → ⊥
