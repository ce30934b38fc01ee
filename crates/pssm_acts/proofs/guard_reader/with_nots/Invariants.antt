use Rattle.std.proofs.Common.{◌≡◌}
use Rattle.pssm_acts.specs.inner.GuardReading.{nots_of}
use Rattle.pssm_acts.proofs.guard_reader.with_nots.Given as goal

abbrev pub invariant-loop-i : goal.invariant-loop-i
invariant-loop-i l = l.cond ≡ nots_of l._i l.fn.unit
