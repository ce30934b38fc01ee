use Rattle.pssm_plan.specs.inner.Sequence.{AreLooseUpTo}
use Rattle.pssm_plan.proofs.waiting.first_nesting.Given as goal

-- the new calls so far come before none by where States lie
abbrev pub invariant-loop-k : goal.invariant-loop-k
invariant-loop-k l = AreLooseUpTo l.machine l.calls l.first l.k
