-- Names of classes, objects, signals and variables (this profile's choice).
use Rattle.std.specs.Prelude.{◌≡◌, ℕ, Bool, true, false, List, [], ◌∷◌, map, bytes_eq, codes, if◌then◌else◌}
use Rattle.std.specs.List.{list_any}
use Rattle.pssm_spelling.specs.Spelling.{continues_name, IsName}
use Rattle.pssm_spelling.specs.SpellingReading.{is_digit}

-- a letter, a digit and `_` stay, and any other byte becomes `_`
abbrev pub clean_byte : ℕ → ℕ
clean_byte c = if continues_name c then c else 95

-- no byte, or a digit first
abbrev pub needs_front : List ℕ → Bool
needs_front [] = true
needs_front (c ∷ cs) = is_digit c

-- the clean name: its bytes made clean; an empty name and a first digit get a `_` before them
abbrev pub cleaned : List ℕ → List ℕ
cleaned name = if needs_front name then 95 ∷ map clean_byte name else map clean_byte name

-- the words of behaviours that are not names
abbrev pub reserved_words : List (List ℕ)
reserved_words = codes "if" ∷ codes "else" ∷ codes "send" ∷ codes "mark" ∷ codes "step" ∷ codes "true" ∷ codes "false" ∷ codes "self" ∷ []

-- A variable can be called so: it is a name, and no word of behaviours.
pub record CanNameVariable (bytes : List ℕ) : Type 0 where
  pub name : IsName bytes
  pub free : list_any (bytes_eq bytes) reserved_words ≡ false
