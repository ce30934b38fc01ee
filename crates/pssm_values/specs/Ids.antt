-- The ids that the value of an attribute holds (XMI 2.5.1 7.10, linking).
use Rattle.std.specs.Prelude.{ℕ, Bool, true, false, List, [], ◌∷◌, filter, Option, Some, None}
use Rattle.std.specs.List.{slice_split}
use Rattle.pssm_values.specs.Blanks.{is_blank}

-- one byte at least
abbrev pub is_some_text : List ℕ → Bool
is_some_text [] = false
is_some_text (c ∷ cs) = true

-- the parts between blanks that are not empty, in order
abbrev pub ids_in : List ℕ → List (List ℕ)
ids_in value = filter is_some_text (slice_split is_blank value)

-- the one that there is, where there are no others
abbrev pub only : List (List ℕ) → Option (List ℕ)
only [] = None
only (id ∷ []) = Some id
only (id ∷ other ∷ more) = None
