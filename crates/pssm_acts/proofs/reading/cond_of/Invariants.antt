use Rattle.std.proofs.Common.{length}
use Rattle.pssm_acts.specs.inner.TextLeft.{left}
use Rattle.pssm_acts.proofs.TextLaws.{IsReadTo}
use Rattle.pssm_acts.proofs.reading.cond_of.Given as goal

abbrev pub invariant-loop-piece : goal.invariant-loop-piece
invariant-loop-piece l = IsReadTo l.names l.text l.reader l.tokens

abbrev pub decreases-loop-piece : goal.decreases-loop-piece
decreases-loop-piece l = length (left l.tokens)
