use Rattle.pssm_roles.specs.inner.Asked.{AreFirst}
use Rattle.pssm_roles.proofs.roles.roles_of.Given as goal

abbrev pub invariant-loop-n : goal.invariant-loop-n
invariant-loop-n l = AreFirst l.elements l.n l.roles.items
