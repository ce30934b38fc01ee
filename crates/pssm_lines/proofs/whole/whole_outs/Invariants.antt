-- the outputs so far, and the text of the others
use Rattle.std.proofs.Common.{length}
use Rattle.pssm_lines.proofs.WholeLaws.{IsTakenOf}
use Rattle.pssm_lines.proofs.whole.whole_outs.Given as goal

abbrev pub invariant-loop-all : goal.invariant-loop-all
invariant-loop-all l = IsTakenOf l.outs l.text l.all.items

abbrev pub decreases-loop-all : goal.decreases-loop-all
decreases-loop-all l = length l.text.bytes.now
