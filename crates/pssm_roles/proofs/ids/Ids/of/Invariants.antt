use Rattle.std.proofs.Common.{◌≡◌, ◌≤◌, ℕ, List, length, drop}
use Rattle.std.specs.List.{position_from}
use Rattle.pssm_roles.specs.Ids.{has_id}
use Rattle.pssm_roles.specs.inner.Numbers.{number_in}
use Rattle.pssm_roles.proofs.ids.Ids.of.Given as goal

-- The numbers of the last elements are kept, from this one on.
abbrev pub invariant-down : goal.invariant-down
invariant-down l = record {
  within : l.n ≤ length l.elements;
  held : (id : List ℕ) → number_in l.numbers id ≡ position_from (has_id id) l.n (drop l.n l.elements);
}

abbrev pub decreases-down : goal.decreases-down
decreases-down l = l.n
