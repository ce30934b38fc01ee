use Rattle.std.proofs.Common.{length}
use Rattle.pssm_roles.specs.inner.Seen.{left_from}
use Rattle.pssm_numbering.specs.Kinds.{is_of}
use Rattle.pssm_numbering.specs.inner.Tables.{AreChildrenTo}
use Rattle.pssm_numbering.proofs.listing.children_of_kind.Given as goal

-- The children of the kind before the next one are listed.
abbrev pub invariant-children : goal.invariant-children
invariant-children l = AreChildrenTo l.file (is_of l.kind) l.p l.next l.list.items

abbrev pub decreases-children : goal.decreases-children
decreases-children l = left_from (length l.file.doc) l.next
