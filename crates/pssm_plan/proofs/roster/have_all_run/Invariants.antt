use Rattle.std.proofs.Common.{take, Contains, IsTrue}
use Rattle.pssm_plan.specs.declared.roster.Call.{Call}
use Rattle.pssm_plan.proofs.roster.have_all_run.Given as goal

-- the calls so far have run
abbrev pub invariant-loop-call : goal.invariant-loop-call
invariant-loop-call l = (call : Call) → Contains (take l.call-index l.calls) call → IsTrue call.ran
