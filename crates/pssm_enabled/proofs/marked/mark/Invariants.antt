use Rattle.std.proofs.Common.{take}
use Rattle.pssm_enabled.specs.inner.Fitting.{AreSet}
use Rattle.pssm_enabled.proofs.marked.mark.Given as goal

-- those before are marked
abbrev pub invariant-loop-t : goal.invariant-loop-t
invariant-loop-t l = AreSet l.fn.on l.on (take l.t-index l.transitions)
