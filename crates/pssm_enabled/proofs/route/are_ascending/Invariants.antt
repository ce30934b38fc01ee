use Rattle.std.proofs.Common.{length, drop}
use Rattle.pssm_enabled.proofs.Ascents.{AscendsFrom}
use Rattle.pssm_enabled.proofs.route.are_ascending.Given as goal
use Rattle.std.proofs.Common.{◌↔◌}

-- whether all ascend is left to those that follow
abbrev pub invariant-loop-t : goal.invariant-loop-t
invariant-loop-t l =
    AscendsFrom (length l.machine.transitions) 0 l.transitions ↔ AscendsFrom (length l.machine.transitions) l.least (drop l.t-index l.transitions)
