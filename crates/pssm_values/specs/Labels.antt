-- Labels of States (this profile's choice).
use Rattle.std.specs.Prelude.{ℕ, ◌||◌, ◌==◌, List, [], ◌∷◌, map, Option, Some, None, nat_lt, if◌then◌else◌}

-- the characters U+0000 to U+001F and U+007F, each of which is one byte in UTF-8, become a space; no other character has such a byte
abbrev pub label_byte : ℕ → ℕ
label_byte c = if nat_lt c 32 || (c == 127) then 32 else c

-- the label of a State with this name, which may be missing; a missing or empty name gives none
abbrev pub label_said : Option (List ℕ) → Option (List ℕ)
label_said None = None
label_said (Some []) = None
label_said (Some (c ∷ cs)) = Some (map label_byte (c ∷ cs))
