use Rattle.std.proofs.Common.{◌≡◌, take}
use Rattle.pssm_redefine.specs.Bodies.{places_from}
use Rattle.pssm_redefine.specs.inner.Gathered.{lent_bodies}
use Rattle.pssm_redefine.proofs.bodies.places_of.Given as goal

abbrev pub invariant-loop-slot : goal.invariant-loop-slot
invariant-loop-slot l = l.places.items ≡ places_from 0 (lent_bodies (take l.slot l.slots))
