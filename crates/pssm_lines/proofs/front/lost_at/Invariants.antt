-- the first lost byte lies between the two ends
use Rattle.std.proofs.Common.{◌-◌}
use Rattle.pssm_lines.proofs.FrontLaws.{IsBetween}
use Rattle.pssm_lines.proofs.front.lost_at.Given as goal

abbrev pub invariant-loop-high : goal.invariant-loop-high
invariant-loop-high l = IsBetween l.begun l.bytes l.low l.high

abbrev pub decreases-loop-high : goal.decreases-loop-high
decreases-loop-high l = l.high - l.low
