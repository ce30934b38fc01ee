use Rattle.std.proofs.Common.{◌≡◌, length}
use Rattle.std.specs.Prelude.{codes}
use Rattle.std.specs.List.{list_all}
use Rattle.pssm_roles.specs.inner.Seen.{IsChildOf, left_from}
use Rattle.pssm_roles.specs.Roles.{is_typed}
use Rattle.pssm_profile.specs.inner.Children.{before}
use Rattle.pssm_profile.proofs.variables.all_integers.Given as goal

-- The defaults before the next child are asked.
abbrev pub invariant-children : goal.invariant-children
invariant-children l = record {
  child : IsChildOf l.elements l.p l.next;
  asked : l.all ≡ list_all (is_typed (codes "uml:LiteralInteger")) (before l.elements l.p (codes "defaultValue") l.next);
}

abbrev pub decreases-children : goal.decreases-children
decreases-children l = left_from (length l.elements) l.next
