-- the slot is the one at the place
use Rattle.std.proofs.Common.{◌≡◌, ◌-◌, length}
use Rattle.pssm_links.specs.Chained.{list_of, slot_at}
use Rattle.pssm_pool.proofs.numbers.numbered_from.Given as goal

abbrev pub invariant-loop-next : goal.invariant-loop-next
invariant-loop-next l = l.next ≡ slot_at l.chains.lists l.list l.place

abbrev pub decreases-loop-next : goal.decreases-loop-next
decreases-loop-next l = length (list_of l.chains.lists l.list) - l.place
