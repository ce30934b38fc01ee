use Rattle.pssm_roles.specs.inner.Guards.{AreGuards}
use Rattle.pssm_roles.proofs.guards.guards_of.Given as goal

abbrev pub invariant-loop-t : goal.invariant-loop-t
invariant-loop-t l = AreGuards l.elements l.t l.guards.items
