use Rattle.std.proofs.Common.{take}
use Rattle.pssm_redefine.specs.Bodies.{AreBodies}
use Rattle.pssm_redefine.specs.inner.Gathered.{lent_bodies}
use Rattle.pssm_redefine.proofs.bodies.bodies_of.Given as goal

abbrev pub invariant-loop-place : goal.invariant-loop-place
invariant-loop-place l = AreBodies (lent_bodies l.slots) (take l.place-index l.order) l.bodies.items
