-- Names in texts.
use Rattle.std.specs.Prelude.{◌≤◌, ◌&&◌, ◌||◌, ◌==◌, ℕ, Bool, false, List, [], ◌∷◌, length, nat_le, IsTrue}
use Rattle.std.specs.List.{list_all}

-- a letter or `_`
abbrev pub begins_name : ℕ → Bool
begins_name c = (nat_le 65 c && nat_le c 90) || (nat_le 97 c && nat_le c 122) || (c == 95)

-- a letter, a digit or `_`
abbrev pub continues_name : ℕ → Bool
continues_name c = begins_name c || (nat_le 48 c && nat_le c 57)

-- the first character begins a name, and the others go on with it
abbrev pub is_name_text : List ℕ → Bool
is_name_text [] = false
is_name_text (c ∷ cs) = begins_name c && list_all continues_name cs

-- a name: a letter or `_`, then letters, digits and `_`, all ASCII, 1 to 64 bytes (this profile's choice)
pub record IsName (bytes : List ℕ) : Type 0 where
  pub spelled : IsTrue (is_name_text bytes)
  pub short : length bytes ≤ 64
