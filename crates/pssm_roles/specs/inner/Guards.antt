-- What the guard of each element refers to, kept for all elements.
use Rattle.std.specs.Prelude.{◌≡◌, ℕ, List, [], ◌∷◌, length, Option, Some, None, option_map, slice_get, codes}
use Rattle.pssm_xml.specs.Documents.{Element}
use Rattle.pssm_roles.specs.References.{references}
use Rattle.pssm_roles.specs.inner.Seen.{seen}
use Rattle.pssm_roles.specs.declared.references.Reference.{Reference}

-- the one reference, where there are no others
abbrev pub only_one : List (ℕ × List ℕ) → Option (ℕ × List ℕ)
only_one [] = None
only_one (r ∷ []) = Some r
only_one (r ∷ other ∷ more) = None

-- the one reference of the guard of the element with this number
abbrev pub guard_of : List Element → ℕ → Option (ℕ × List ℕ)
guard_of doc t = only_one (references doc t (codes "guard"))

-- The guards are those of the first elements, up to this one.
pub record AreGuards (doc : List Element) (n : ℕ) (guards : List (Option Reference)) : Type 0 where
  pub counted : length guards ≡ n
  pub guards_are : (t : ℕ) (g : Option Reference) → slice_get guards t ≡ Some g → option_map seen g ≡ guard_of doc t
