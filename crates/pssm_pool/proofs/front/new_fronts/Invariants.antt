-- so many empty fronts
use Rattle.std.proofs.Common.{◌≡◌, length}
use Rattle.pssm_pool.specs.inner.Fronts.{AreEmpty}
use Rattle.pssm_pool.proofs.front.new_fronts.Given as goal

abbrev pub invariant-loop : goal.invariant-loop
invariant-loop l = record {
  count : length l.fronts.items ≡ l.counter;
  empty : AreEmpty l.fronts.items;
}
