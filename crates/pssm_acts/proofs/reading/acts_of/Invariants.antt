use Rattle.std.proofs.Common.{length}
use Rattle.pssm_acts.specs.inner.TextLeft.{left}
use Rattle.pssm_acts.proofs.ActTextLaws.{IsActsReadTo}
use Rattle.pssm_acts.proofs.reading.acts_of.Given as goal

abbrev pub invariant-loop-piece : goal.invariant-loop-piece
invariant-loop-piece l = IsActsReadTo l.names l.stepped l.text l.fn.marks l.marks l.reader l.tokens

abbrev pub decreases-loop-piece : goal.decreases-loop-piece
decreases-loop-piece l = length (left l.tokens)
