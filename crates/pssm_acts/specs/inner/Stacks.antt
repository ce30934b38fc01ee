-- Stacks, as lists from the top.
use Rattle.std.specs.Prelude.{List, [], ◌∷◌, Option, Some, None}

-- the items below the top one, and the top one
abbrev pub split_top : {A : Type 0} → List A → Option (List A × A)
split_top [] = None
split_top (x ∷ xs) = Some (xs, x)
