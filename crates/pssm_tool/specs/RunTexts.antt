-- What a run of a setting with stimuli comes to.
use Rattle.std.specs.Prelude.{◌≡◌, ℕ, List}
use Rattle.pssm_semantics.specs.declared.entry.Entry.{Entry}
use Rattle.pssm_semantics.specs.declared.line.Line.{Line}
use Rattle.pssm_semantics.specs.declared.setting.Setting.{Setting}
use Rattle.pssm_semantics.specs.declared.stimulus.Stimulus.{Stimulus}
use Rattle.pssm_lines.specs.LineText.{journal_text}
use Rattle.pssm_journal.specs.Judged.{IsKept}
use Rattle.pssm_workers.specs.declared.ended.Ended.{Ended}
use Rattle.pssm_workers.specs.Endings.{EndsRun}

-- The bytes are the text of a journal of a run of the setting with these stimuli and this limit, which ends so:
-- its lines are lines of the grammar, and its entries break no rule and keep the limits.
pub record IsRunText (setting : Setting) (stimuli : List Stimulus) (limit : ℕ) (bytes : List ℕ) (ended : Ended) : Type 0 where
  pub journal : List Entry
  pub lines : List Line
  pub text : bytes ≡ journal_text lines
  pub kept : IsKept setting lines journal
  pub run : EndsRun setting stimuli limit journal ended
