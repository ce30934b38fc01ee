use Rattle.std.proofs.Common.{take}
use Rattle.std.specs.List.{AllByRecursion}
use Rattle.pssm_tool.specs.Words.{IsStimulusText}
use Rattle.pssm_tool.specs.inner.Commands.{lent}
use Rattle.pssm_tool.proofs.stimuli.are_spelled.Given as goal

-- the words so far are spelled as stimuli
abbrev pub invariant-loop-word : goal.invariant-loop-word
invariant-loop-word l = AllByRecursion IsStimulusText (lent (take l.word-index l.words))
