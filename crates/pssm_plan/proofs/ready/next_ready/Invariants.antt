use Rattle.std.proofs.Common.{◌≡◌}
use Rattle.pssm_plan.specs.Standings.{ready_before}
use Rattle.pssm_plan.proofs.ready.next_ready.Given as goal

-- none of the places so far holds a ready item
abbrev pub invariant-loop-k : goal.invariant-loop-k
invariant-loop-k l = ready_before l.calls l.k ≡ ready_before l.calls l.fn.place
