use Rattle.pssm_wellformed.specs.inner.Checked.{IsCheckedBelow}
use Rattle.pssm_wellformed.proofs.checking.check.Given as goal

abbrev pub invariant-loop-number : goal.invariant-loop-number
invariant-loop-number l = IsCheckedBelow l.machine l.number 1 l.faults.items
