use Rattle.std.proofs.Common.{◌≡◌, [], replicate}
use Rattle.pssm_numbering.proofs.groups.no_rows.Given as goal

abbrev pub invariant-loop-m : goal.invariant-loop-m
invariant-loop-m l = l.rows.items ≡ replicate l._m []
