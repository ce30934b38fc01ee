use Rattle.std.proofs.Common.{◌≡◌, ◌≤◌, length, take}
use Rattle.std.specs.List.{filter}
use Rattle.pssm_plan.specs.Standings.{stands_ready}
use Rattle.pssm_plan.proofs.ready.count_ready.Given as goal

-- the ready items of the calls so far are counted
abbrev pub invariant-loop-call : goal.invariant-loop-call
invariant-loop-call l = record {
  counted : l.count ≡ length (filter stands_ready (take l.call-index l.calls));
  few : l.count ≤ l.call-index;
}
