-- the fronts so far are empty
use Rattle.std.proofs.Common.{◌≡◌, length}
use Rattle.pssm_pool.proofs.Fronts.{AreEmptyTo}
use Rattle.pssm_pool.proofs.front.clear_all.Given as goal

abbrev pub invariant-loop-i : goal.invariant-loop-i
invariant-loop-i l = record {
  count : length l.fronts.items ≡ length l.initial.fronts.items;
  empty : AreEmptyTo l.fronts.items l.i;
}
