use Rattle.std.proofs.Common.{◌≡◌, ◌+◌, length, take}
use Rattle.std.specs.List.{filter}
use Rattle.pssm_plan.specs.Standings.{stands_ready}
use Rattle.pssm_plan.proofs.ready.ready_item.Given as goal

-- the ready items of the calls so far are passed
abbrev pub invariant-loop-call : goal.invariant-loop-call
invariant-loop-call l = l.rest + length (filter stands_ready (take l.call-index l.calls)) ≡ l.fn.i
