use Rattle.std.proofs.Common.{take}
use Rattle.pssm_totals.specs.inner.Ways.{IsFilled}
use Rattle.pssm_totals.specs.declared.marks.Mark.TheVariants as noted
use Rattle.pssm_totals.proofs.settling.fill.Given as goal

abbrev pub invariant-loop-m : goal.invariant-loop-m
invariant-loop-m l = IsFilled l.fn.marks l.marks (take l.m-index l.machines) (noted.Total l.total)
