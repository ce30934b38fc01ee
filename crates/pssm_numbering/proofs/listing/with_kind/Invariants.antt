use Rattle.std.proofs.Common.{◌≡◌}
use Rattle.pssm_numbering.specs.Kinds.{is_of}
use Rattle.pssm_numbering.specs.inner.Tables.{first_with, has_role}
use Rattle.pssm_numbering.proofs.listing.with_kind.Given as goal

-- Those of the kind among the first elements are listed.
abbrev pub invariant-loop-n : goal.invariant-loop-n
invariant-loop-n l = l.list.items ≡ first_with (has_role (is_of l.kind) l.file) l.n
