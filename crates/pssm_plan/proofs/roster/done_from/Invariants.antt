use Rattle.pssm_plan.specs.inner.Marks.{AreRunUpTo}
use Rattle.pssm_plan.proofs.roster.done_from.Given as goal

-- the calls so far have run
abbrev pub invariant-loop-k : goal.invariant-loop-k
invariant-loop-k l = AreRunUpTo l.calls l.k
