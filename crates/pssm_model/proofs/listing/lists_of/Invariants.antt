-- what has a number below the one reached is listed
use Rattle.pssm_model.specs.inner.Listed.{IsListed, AreListsBelow, width_of}
use Rattle.pssm_model.proofs.listing.lists_of.Given as goal

abbrev pub invariant-loop-number : goal.invariant-loop-number
invariant-loop-number g l = AreListsBelow g.T.Numbered.number_of (width_of l.draft l.listing) l.number (IsListed l.draft l.listing) l.lists.items
