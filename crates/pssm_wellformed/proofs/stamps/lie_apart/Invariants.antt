use Rattle.std.proofs.Common.{◌+◌}
use Rattle.pssm_wellformed.specs.inner.Apart.{AreStamped}
use Rattle.pssm_wellformed.proofs.stamps.lie_apart.Given as goal

abbrev pub invariant-loop-transition : goal.invariant-loop-transition
invariant-loop-transition l = AreStamped l.machine l.end l.state l.transitions l.transition-index (l.last + 1) l.stamps.items
