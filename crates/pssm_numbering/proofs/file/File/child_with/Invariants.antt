use Rattle.std.proofs.Common.{length}
use Rattle.pssm_roles.specs.inner.Seen.{left_from}
use Rattle.pssm_numbering.specs.Kinds.{is_of}
use Rattle.pssm_numbering.specs.inner.Children.{IsWithTo}
use Rattle.pssm_numbering.proofs.file.File.child_with.Given as goal

-- None of the children before the next one is of the kind.
abbrev pub invariant-children : goal.invariant-children
invariant-children l = IsWithTo (is_of l.kind) l.self l.p l.next

abbrev pub decreases-children : goal.decreases-children
decreases-children l = left_from (length l.self.doc) l.next
