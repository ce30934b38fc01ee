use Rattle.std.proofs.Common.{length}
use Rattle.pssm_roles.specs.inner.Seen.{left_from}
use Rattle.pssm_parts.specs.inner.Children.{HasPassed}
use Rattle.pssm_parts.proofs.bodies.body_in.Given as goal

-- The bodies before the next child are passed.
abbrev pub invariant-children : goal.invariant-children
invariant-children l = HasPassed l.elements l.p l.place l.next l.seen

abbrev pub decreases-children : goal.decreases-children
decreases-children l = left_from (length l.elements) l.next
