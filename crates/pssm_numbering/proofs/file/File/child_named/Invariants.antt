use Rattle.std.proofs.Common.{length}
use Rattle.pssm_roles.specs.inner.Seen.{left_from}
use Rattle.pssm_numbering.specs.inner.Children.{IsNamedTo}
use Rattle.pssm_numbering.proofs.file.File.child_named.Given as goal

-- None of the children before the next one has the name.
abbrev pub invariant-children : goal.invariant-children
invariant-children l = IsNamedTo l.self.doc l.p l.name l.next

abbrev pub decreases-children : goal.decreases-children
decreases-children l = left_from (length l.self.doc) l.next
