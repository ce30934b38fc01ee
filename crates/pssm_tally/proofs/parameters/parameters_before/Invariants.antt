use Rattle.pssm_roles.specs.inner.Seen.{left_from}
use Rattle.pssm_tally.specs.inner.Parameters.{IsCountedBelow}
use Rattle.pssm_tally.proofs.parameters.parameters_before.Given as goal

abbrev pub invariant-children : goal.invariant-children
invariant-children l = IsCountedBelow l.elements l.signal l.n l.count l.next

abbrev pub decreases-children : goal.decreases-children
decreases-children l = left_from l.n l.next
