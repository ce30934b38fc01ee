-- the slot is the one at the place, each signal before it is held, and for the last one asked true was answered
use Rattle.std.proofs.Common.{◌≡◌, ◌-◌, length, true, IfSome}
use Rattle.std.specs.Fn.{FnReturnsAt}
use Rattle.pssm_links.specs.Chained.{list_of, slot_at}
use Rattle.pssm_pool.specs.inner.Chaining.{values_of}
use Rattle.pssm_pool.specs.Telling.{AnswersAlike}
use Rattle.pssm_pool.specs.inner.Looks.{AllBefore}
use Rattle.pssm_pool.proofs.alike.first_from.Given as goal

abbrev pub invariant-loop-next : goal.invariant-loop-next
invariant-loop-next g l = record {
  at : l.next ≡ slot_at l.chains.lists l.list l.place;
  before : AllBefore (AnswersAlike (FnReturnsAt g.T.Fn l.held)) (values_of l.chains.lists l.list) l.place;
  last : IfSome l.last (λ v. FnReturnsAt g.T.Fn l.held v.now true);
}

abbrev pub decreases-loop-next : goal.decreases-loop-next
decreases-loop-next g l = length (list_of l.chains.lists l.list) - l.place
