use Rattle.std.proofs.Common.{take}
use Rattle.pssm_enabled.specs.inner.Fitting.{AreComeTo}
use Rattle.pssm_enabled.proofs.marked.come_to_all.Given as goal

-- the ends of those before are marked, and the route goes on from there
abbrev pub invariant-loop-t : goal.invariant-loop-t
invariant-loop-t l = AreComeTo l.machine l.on l.fn.seen l.seen (take l.t-index l.transitions)
