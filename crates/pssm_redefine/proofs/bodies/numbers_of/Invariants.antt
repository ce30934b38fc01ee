use Rattle.std.proofs.Common.{◌+◌, drop}
use Rattle.pssm_redefine.specs.inner.Gathered.{AreNumbers}
use Rattle.pssm_redefine.proofs.bodies.numbers_of.Given as goal

abbrev pub invariant-loop-place : goal.invariant-loop-place
invariant-loop-place l = AreNumbers l.width (l.place + 1) (drop l.place l.order) l.numbers.items
