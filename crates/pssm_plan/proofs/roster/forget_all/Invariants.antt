use Rattle.pssm_plan.proofs.Forgetting.{AreForgottenUpTo}
use Rattle.pssm_plan.proofs.roster.forget_all.Given as goal

-- the calls so far have forgotten
abbrev pub invariant-loop-k : goal.invariant-loop-k
invariant-loop-k l = AreForgottenUpTo l.fn.calls l.calls l.k
