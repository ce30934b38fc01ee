use Rattle.pssm_wellformed.specs.inner.Walks.{AreArrowsBelow}
use Rattle.pssm_wellformed.proofs.walks.arrows_of.Given as goal

abbrev pub invariant-loop-number : goal.invariant-loop-number
invariant-loop-number l = AreArrowsBelow l.machine l.walk l.number l.onward.items
