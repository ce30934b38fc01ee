use Rattle.std.proofs.Common.{◌≡◌, take, min, sum_by}
use Rattle.pssm_totals.specs.Totals.{count_at}
use Rattle.pssm_totals.proofs.settling.sum_over.Given as goal

abbrev pub invariant-loop-m : goal.invariant-loop-m
invariant-loop-m l = l.total ≡ min 65536 (sum_by (count_at l.own) (take l.m-index l.machines))
