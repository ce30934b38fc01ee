use Rattle.pssm_wellformed.specs.inner.Marks.{AreTurnedBelow}
use Rattle.pssm_wellformed.proofs.marks.turned.Given as goal

abbrev pub invariant-loop-number : goal.invariant-loop-number
invariant-loop-number l = AreTurnedBelow l.number l.onward.items l.back.items
