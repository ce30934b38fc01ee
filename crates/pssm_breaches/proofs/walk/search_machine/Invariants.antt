use Rattle.pssm_breaches.specs.inner.Walks.{AreSearched}
use Rattle.pssm_breaches.proofs.walk.search_machine.Given as goal

abbrev pub invariant-loop-i : goal.invariant-loop-i
invariant-loop-i l = AreSearched l.fn.draft l.fn.m l.fn.kind l.fn.heritage l.fn.k l.i l.walk.latest.items l.walk.found
