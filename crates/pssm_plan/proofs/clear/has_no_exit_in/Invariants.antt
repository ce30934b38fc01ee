use Rattle.pssm_plan.specs.inner.Clear.{HasNoExitIn}
use Rattle.pssm_plan.proofs.clear.has_no_exit_in.Given as goal

-- the calls so far are no such exits that are left
abbrev pub invariant-loop-k : goal.invariant-loop-k
invariant-loop-k l = HasNoExitIn l.machine l.calls l.r l.from l.k
