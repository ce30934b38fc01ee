use Rattle.pssm_totals.specs.inner.Ways.{IsSettling, KeepsTotals, AreOpenOrDone}
use Rattle.pssm_totals.proofs.settling.settle.Given as goal

abbrev pub invariant-back : goal.invariant-back
invariant-back l = record {
  settling : IsSettling l.extends l.own l.marks l.path.items;
  kept : KeepsTotals l.fn.marks l.marks;
  done : AreOpenOrDone l.marks l.initial.path.items l.path.items;
}

abbrev pub decreases-back : goal.decreases-back
decreases-back l = goal.left-back l
