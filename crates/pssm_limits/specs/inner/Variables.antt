-- The variables that a class has or inherits, as elements of the file.
use Rattle.std.specs.Prelude.{◌≡◌, ◌<◌, ◌≤◌, ◌≢◌, ℕ, Bool, true, false, ◌&&◌, ◌||◌, ◌==◌, List, [], ◌∷◌, ◌++◌, length, nat_le, map, filter, AllPairs, Contains, slice_index_or, codes, if◌then◌else◌}
use Rattle.std.specs.List.{All, range_with_len, list_any}
use Rattle.std.specs.Option.{option_map_or}
use Rattle.std.specs.Prelude.{bytes_eq}
use Rattle.pssm_xml.specs.Elements.{value_or_empty}
use Rattle.pssm_numbering.specs.Numbering.{ModelFile, role_at, parent_of, classes, is_class}
use Rattle.pssm_numbering.specs.Meanings.{is_variable}
use Rattle.pssm_drafting.specs.Drafts.{class_at}
use Rattle.pssm_limits.specs.declared.classes.Classes.{Classes}

-- the name of a variable, as it is written
abbrev pub name_of : ModelFile → ℕ → List ℕ
name_of file n = value_or_empty file.doc n (codes "name")

-- the place of the machine of a class
abbrev pub machine_at : ModelFile → ℕ → ℕ
machine_at file c = (class_at file c).machine

-- those of all classes
abbrev pub machines_at : ModelFile → List ℕ
machines_at file = map (machine_at file) (classes file)

-- the variables among the first elements
abbrev pub first_variables : ModelFile → ℕ → List ℕ
first_variables file n = filter (is_variable file) (range_with_len 0 n)

-- They are the variables among the first elements.
abbrev pub AreVariables : ModelFile → ℕ → List ℕ → Type 0
AreVariables file n found = (found ≡ first_variables file n) × All (λ m. m < length file.doc) found

-- the machines of the classes, and the variables
pub record HoldClasses (file : ModelFile) (held : Classes) : Type 0 where
  pub machines : held.machines.items ≡ machines_at file
  pub variables : AreVariables file (length file.doc) held.variables.items

-- The element is a class whose machine is marked.
abbrev pub is_in_marked : ModelFile → List Bool → ℕ → Bool
is_in_marked file marks p = is_class (role_at file p) && slice_index_or marks (machine_at file p) false

-- The element stands in this class, or in one whose machine is marked.
abbrev pub belongs : ModelFile → List Bool → ℕ → ℕ → Bool
belongs file marks c n = option_map_or (λ p. p == c || is_in_marked file marks p) (parent_of file n) false

-- The name is that of one of these.
abbrev pub has_name : (ℕ → List ℕ) → List ℕ → List ℕ → Bool
has_name name found new = list_any (λ m. bytes_eq (name m) new) found

-- with one more, where its name is new and no more than the limit are there
abbrev pub with_taken : (ℕ → List ℕ) → List ℕ → ℕ → List ℕ
with_taken name found n = if nat_le 65 (length found) || has_name name found (name n) then found else found ++ n ∷ []

-- Of the elements that were looked at, those that pass: one for each name, and at most one above the limit of variables.
pub record AreNames (name : ℕ → List ℕ) (passes : ℕ → Bool) (seen found : List ℕ) : Type 0 where
  pub different : AllPairs (λ a b. a ≢ b) (map name found)
  pub all : (n : ℕ) → Contains found n → Contains seen n × (passes n ≡ true)
  pub few : length found ≤ 65
  pub complete : length found ≤ 64 → (n : ℕ) → Contains seen n → passes n ≡ true → Contains (map name found) (name n)
