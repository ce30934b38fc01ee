use Rattle.std.proofs.Common.{take}
use Rattle.pssm_enabled.specs.inner.Behind.{IsFurtherBy}
use Rattle.pssm_enabled.proofs.tracing.add_ends_of.Given as goal

-- the ends of those before are added
abbrev pub invariant-loop-t : goal.invariant-loop-t
invariant-loop-t l = IsFurtherBy l.machine l.fn.come l.come (take l.t-index l.transitions)
