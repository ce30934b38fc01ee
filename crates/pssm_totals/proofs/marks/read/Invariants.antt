use Rattle.std.proofs.Common.{◌≡◌, take, map}
use Rattle.pssm_totals.specs.inner.Ways.{total_in}
use Rattle.pssm_totals.proofs.marks.read.Given as goal

abbrev pub invariant-loop-mark : goal.invariant-loop-mark
invariant-loop-mark l = l.totals.items ≡ map total_in (take l.mark-index l.marks)
