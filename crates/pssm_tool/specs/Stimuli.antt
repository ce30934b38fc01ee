-- The stimuli that words name in a setting.
use Rattle.std.specs.Prelude.{ℕ, ℤ, List, [], ◌∷◌}
use Rattle.pssm_semantics.specs.declared.line.Line.TheVariants as lines
use Rattle.pssm_semantics.specs.declared.setting.Setting.{Setting}
use Rattle.pssm_semantics.specs.declared.stimulus.Stimulus.{Stimulus}
use Rattle.pssm_semantics.specs.Known.{IsStimulusOf}
use Rattle.pssm_journal.specs.Entries.{IsEntryOf}
use Rattle.pssm_book.specs.Stimuli.{post_of}
use Rattle.pssm_tool.specs.Words.{IsCall}

-- The line that has the word after `post` writes the entry that posts the stimulus, and all that it names is the setting's;
-- the signal has as many parameters as the word has numbers.
pub record Names (setting : Setting) (word : List ℕ) (x : Stimulus) : Type 0 where
  pub object : List ℕ
  pub signal : List ℕ
  pub args : List ℤ
  pub call : IsCall word object signal args
  pub writes : IsEntryOf setting (lines.Post object signal args) (post_of x)
  pub known : IsStimulusOf setting x

-- The words name these stimuli, one each.
abbrev pub AreStimuli : Setting → List (List ℕ) → List Stimulus → Type 0
AreStimuli setting [] [] = Unit {0}
AreStimuli setting (word ∷ words) (x ∷ stimuli) = Names setting word x × AreStimuli setting words stimuli
AreStimuli setting _ _ = ⊥
