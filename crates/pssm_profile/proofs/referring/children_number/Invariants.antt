use Rattle.std.proofs.Common.{◌≡◌, sum, map, length}
use Rattle.pssm_roles.specs.inner.Seen.{IsChildOf, left_from}
use Rattle.pssm_profile.specs.inner.Numbers.{number_of as number_for}
use Rattle.pssm_profile.specs.inner.Children.{before, weight}
use Rattle.pssm_profile.proofs.referring.children_number.Given as goal

-- What the children before the next one count is counted.
abbrev pub invariant-children : goal.invariant-children
invariant-children l = record {
  child : IsChildOf l.elements l.p l.next;
  counted : l.number ≡ number_for (sum (map (weight l.as_guard) (before l.elements l.p l.name l.next)));
}

abbrev pub decreases-children : goal.decreases-children
decreases-children l = left_from (length l.elements) l.next
