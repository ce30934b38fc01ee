use Rattle.std.proofs.Common.{◌-◌}
use Rattle.pssm_legs.proofs.Among.{IsSought}
use Rattle.pssm_legs.proofs.path.is_among.Given as goal

-- where it stands, it stands between the two places
abbrev pub invariant-loop-from : goal.invariant-loop-from
invariant-loop-from l = IsSought l.transitions l.t l.from l.to

abbrev pub decreases-loop-from : goal.decreases-loop-from
decreases-loop-from l = l.to - l.from
