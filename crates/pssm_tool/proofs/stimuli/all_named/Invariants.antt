use Rattle.std.proofs.Common.{take}
use Rattle.pssm_tool.specs.inner.Commands.{lent}
use Rattle.pssm_tool.specs.Stimuli.{AreStimuli}
use Rattle.pssm_tool.proofs.stimuli.all_named.Given as goal

-- the stimuli so far are those of the words so far
abbrev pub invariant-loop-word : goal.invariant-loop-word
invariant-loop-word l = AreStimuli l.setting (lent (take l.word-index l.words)) l.stimuli.items
