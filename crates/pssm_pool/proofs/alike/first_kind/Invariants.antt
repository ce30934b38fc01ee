-- for the first signal of each kind so far true was answered
use Rattle.std.proofs.Common.{true}
use Rattle.std.specs.Fn.{FnReturnsAt}
use Rattle.pssm_links.specs.Chained.{list_of}
use Rattle.pssm_pool.proofs.Looking.{AreHeldTo}
use Rattle.pssm_pool.proofs.alike.first_kind.Given as goal

abbrev pub invariant-loop-i : goal.invariant-loop-i
invariant-loop-i g l = AreHeldTo (FnReturnsAt g.T.Fn l.held) (list_of l.chains.lists l.list) l.front.kinds.items l.i
