use Rattle.pssm_wellformed.specs.inner.Checked.{place_number, IsCheckedBelow}
use Rattle.pssm_wellformed.proofs.checking.list_faults.Given as goal

abbrev pub invariant-loop-rule : goal.invariant-loop-rule
invariant-loop-rule l = IsCheckedBelow l.marked (place_number l.marked l.place) l.rule l.faults.items
