-- How far the children of an element are asked.
use Rattle.std.specs.Prelude.{◌≡◌, ◌<◌, ◌&&◌, ℕ, Bool, false, List, Option, Some, None, slice_get}
use Rattle.std.specs.Option.{option_map_or}
use Rattle.pssm_xml.specs.Documents.{Element}
use Rattle.pssm_xml.specs.Elements.{is_child_of}
use Rattle.pssm_roles.specs.inner.Seen.{IsChildOf}
use Rattle.pssm_roles.specs.declared.role.Role.{Role}
use Rattle.pssm_numbering.specs.Numbering.{ModelFile, role_at, parent_of, is_number}

-- The element with this number is a child of this name.
abbrev pub is_named_child : List Element → ℕ → List ℕ → ℕ → Bool
is_named_child doc p name n = option_map_or (is_child_of p name) (slice_get doc n) false

-- It is a child with such a role.
abbrev pub is_child_with : (Role → Bool) → ModelFile → ℕ → ℕ → Bool
is_child_with is file p n = is (role_at file n) && is_number p (parent_of file n)

-- No number before this one passes, and none at all where there is none.
abbrev pub NoneBefore : (ℕ → Bool) → Option ℕ → Type 0
NoneBefore passes None = (n : ℕ) → passes n ≡ false
NoneBefore passes (Some m) = (n : ℕ) → n < m → passes n ≡ false

-- This child is the next to be asked, and none before it passes; where there is none, none passes at all.
pub record IsAskedTo (doc : List Element) (p : ℕ) (passes : ℕ → Bool) (next : Option ℕ) : Type 0 where
  pub child : IsChildOf doc p next
  pub none : NoneBefore passes next

-- The same of the children of this name.
abbrev pub IsNamedTo : List Element → ℕ → List ℕ → Option ℕ → Type 0
IsNamedTo doc p name next = IsAskedTo doc p (is_named_child doc p name) next

-- The same of the children with such a role.
abbrev pub IsWithTo : (Role → Bool) → ModelFile → ℕ → Option ℕ → Type 0
IsWithTo is file p next = IsAskedTo file.doc p (is_child_with is file p) next
