-- Commands that were read.
use Rattle.std.specs.Prelude.{ℕ, List, map}
use Rattle.std.specs.Borrow.{Bor}
use Rattle.pssm_tool.specs.declared.run_words.RunWords.{RunWords}
use Rattle.pssm_tool.specs.declared.words.Command.{Command}
use Rattle.pssm_tool.specs.declared.words.Command.TheVariants.{Judge, Run, Check, Flat, Generate}
use Rattle.pssm_tool.specs.Words.{Meaning, Judges, Runs, Checks, Prints, Generates}

-- words that are lent, as texts
abbrev pub lent : List (Bor (List ℕ)) → List (List ℕ)
lent words = map (λ word. word.now) words

-- what the words of a run that were read mean
abbrev pub meaning_of_run : RunWords → Meaning
meaning_of_run run = Runs run.options run.model.now (lent run.stimuli.items)

-- what a command that was read means
abbrev pub meaning_of : Command → Meaning
meaning_of (Judge model journal) = Judges model.now journal.now
meaning_of (Run run) = meaning_of_run run
meaning_of (Check model) = Checks model.now
meaning_of (Flat model) = Prints model.now
meaning_of (Generate n) = Generates n
