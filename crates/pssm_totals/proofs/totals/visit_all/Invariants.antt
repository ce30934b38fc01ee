use Rattle.std.proofs.Common.{◌<◌, ℕ, []}
use Rattle.pssm_totals.specs.inner.Ways.{IsSettling, IsDone}
use Rattle.pssm_totals.proofs.totals.visit_all.Given as goal

abbrev pub invariant-loop-m : goal.invariant-loop-m
invariant-loop-m l = record {
  settling : IsSettling l.extends l.own l.marks [];
  done : (k : ℕ) → k < l.m → IsDone l.marks k;
}
