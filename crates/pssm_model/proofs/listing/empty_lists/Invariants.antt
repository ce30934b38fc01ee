use Rattle.std.proofs.Common.{◌≡◌, [], ℕ, length}
use Rattle.pssm_model.specs.inner.Listed.{list_at}
use Rattle.pssm_model.proofs.listing.empty_lists.Given as goal

abbrev pub invariant-loop-number : goal.invariant-loop-number
invariant-loop-number g l = record { all : length l.lists.items ≡ l._number; blank : (k : ℕ) → list_at l.lists.items k ≡ [] }
