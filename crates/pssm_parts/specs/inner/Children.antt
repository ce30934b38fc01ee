-- How many of the bodies of an element come before one of its children.
use Rattle.std.specs.Prelude.{◌≡◌, ◌≤◌, ℕ, List, length, codes, Option}
use Rattle.pssm_xml.specs.Documents.{Element}
use Rattle.pssm_roles.specs.inner.Seen.{IsChildOf}
use Rattle.pssm_profile.specs.inner.Children.{before}

-- So many bodies of the element come before this child, and not more than come before the one that is sought.
pub record HasPassed (doc : List Element) (p place : ℕ) (next : Option ℕ) (seen : ℕ) : Type 0 where
  pub child : IsChildOf doc p next
  pub passed : length (before doc p (codes "body") next) ≡ seen
  pub within : seen ≤ place
