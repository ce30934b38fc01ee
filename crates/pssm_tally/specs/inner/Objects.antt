-- Which references mean active classes.
use Rattle.std.specs.Prelude.{◌≡◌, ◌⊎◌, ℕ, List, [], ◌∷◌, Some}
use Rattle.pssm_xml.specs.Documents.{Element}
use Rattle.pssm_roles.specs.Ids.{meant_by}
use Rattle.pssm_profile.specs.Kinds.{IsActiveClass}

-- The id means an active class.
pub record MeansActive (doc : List Element) (id : List ℕ) : Type 0 where
  pub class : ℕ
  pub meant : meant_by doc id ≡ Some class
  pub active : IsActiveClass doc class

-- The id of one of the references means an active class.
abbrev pub OneMeansActive : List Element → List (ℕ × List ℕ) → Type 0
OneMeansActive doc [] = ⊥
OneMeansActive doc (r ∷ rs) = MeansActive doc r.1 ⊎ OneMeansActive doc rs
