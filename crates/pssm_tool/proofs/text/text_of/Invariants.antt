use Rattle.std.proofs.Common.{take}
use Rattle.pssm_tool.proofs.TextLaws.{IsWritten}
use Rattle.pssm_tool.proofs.text.text_of.Given as goal

-- the text so far has the lines of the entries so far
abbrev pub invariant-loop-entry : goal.invariant-loop-entry
invariant-loop-entry l = IsWritten l.system.setting (take l.entry-index l.entry-items) l.text.items
