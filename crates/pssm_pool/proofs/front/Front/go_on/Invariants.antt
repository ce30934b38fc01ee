-- the front is one of the pool, and the slot is the one behind it
use Rattle.std.proofs.Common.{◌≡◌, ◌-◌, length}
use Rattle.pssm_links.specs.Chained.{list_of, slot_at}
use Rattle.pssm_pool.specs.inner.Fronts.{IsFront}
use Rattle.pssm_pool.proofs.front.Front.go_on.Given as goal

abbrev pub invariant-loop-next : goal.invariant-loop-next
invariant-loop-next l = record {
  front : IsFront (list_of l.chains.lists l.list) l.self;
  at : l.next ≡ slot_at l.chains.lists l.list l.self.count;
}

abbrev pub decreases-loop-next : goal.decreases-loop-next
decreases-loop-next l = length (list_of l.chains.lists l.list) - l.self.count
