-- The first values of variables. Each is computed of any file, and says what the file means where it has no fault.
use Rattle.std.specs.Prelude.{ℕ, ◌==◌, ℤ, pos, neg_ℤ, List, [], ◌∷◌, codes, if◌then◌else◌}
use Rattle.std.specs.Option.{option_map_or}
use Rattle.std.specs.Str.Parse.{digits_value}
use Rattle.pssm_numbering.specs.Numbering.{ModelFile, child_named}
use Rattle.pssm_numbering.specs.Meanings.{value}

-- the integer that digits spell, perhaps with a `-` before them
abbrev pub integer_spelled : List ℕ → ℤ
integer_spelled [] = pos 0
integer_spelled (c ∷ cs) = if c == 45 then neg_ℤ (pos (digits_value 10 cs)) else pos (digits_value 10 (c ∷ cs))

-- the first value of a variable: that of its default, where a missing `value` is 0, and 0 without one (UML 2.5.1 9.9.17, defaultValue, and 8.6.12)
abbrev pub first_value : ModelFile → ℕ → ℤ
first_value file n = option_map_or (λ d. option_map_or integer_spelled (value (codes "value") file d) (pos 0)) (child_named (codes "defaultValue") file n) (pos 0)
