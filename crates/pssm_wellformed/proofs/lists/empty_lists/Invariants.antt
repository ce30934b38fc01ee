use Rattle.std.proofs.Common.{◌≡◌, ℕ, length, []}
use Rattle.pssm_wellformed.specs.inner.Lists.{list_at}
use Rattle.pssm_wellformed.proofs.lists.empty_lists.Given as goal

abbrev pub invariant-loop-number : goal.invariant-loop-number
invariant-loop-number l = record {
  width : length l.lists.items ≡ l._number;
  blank : (k : ℕ) → list_at l.lists.items k ≡ [];
}
