use Rattle.pssm_numbering.specs.Kinds.{is_of}
use Rattle.pssm_numbering.specs.inner.Tables.{AreListed, has_role}
use Rattle.pssm_numbering.proofs.listing.listing_of.Given as goal

abbrev pub invariant-loop-n : goal.invariant-loop-n
invariant-loop-n l = AreListed (has_role (is_of l.kind) l.file) l.n l.listing.list.items l.listing.places.items
