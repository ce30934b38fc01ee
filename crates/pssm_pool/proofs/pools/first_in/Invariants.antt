-- the slot is the one at the place, and each signal before it is held
use Rattle.std.proofs.Common.{◌≡◌, ◌-◌, length}
use Rattle.std.specs.Fn.{FnReturnsAt}
use Rattle.pssm_links.specs.Chained.{list_of, slot_at}
use Rattle.pssm_pool.specs.inner.Chaining.{values_of}
use Rattle.pssm_pool.specs.inner.Looks.{AllBefore}
use Rattle.pssm_pool.proofs.pools.first_in.Given as goal

abbrev pub invariant-loop-next : goal.invariant-loop-next
invariant-loop-next g l = record {
  at : l.next ≡ slot_at l.chains.lists l.list l.place;
  before : AllBefore (FnReturnsAt g.T.Fn l.held) (values_of l.chains.lists l.list) l.place;
}

abbrev pub decreases-loop-next : goal.decreases-loop-next
decreases-loop-next g l = length (list_of l.chains.lists l.list) - l.place
