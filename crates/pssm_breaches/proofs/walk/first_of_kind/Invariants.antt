use Rattle.pssm_breaches.specs.inner.Walks.{AreSearched}
use Rattle.pssm_breaches.proofs.walk.first_of_kind.Given as goal

abbrev pub invariant-loop-k : goal.invariant-loop-k
invariant-loop-k l = AreSearched l.fn.draft l.fn.m l.fn.kind l.fn.heritage l.k 0 l.walk.latest.items l.walk.found
