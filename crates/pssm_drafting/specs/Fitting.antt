-- What a file keeps to that has a draft: each number of the draft fits its type, and each first value is an integer. A file without faults does.
use Rattle.std.specs.Prelude.{◌≤◌, ℕ, ℤ, Bool, length, codes, IfSome}
use Rattle.std.specs.List.{All}
use Rattle.pssm_roles.specs.declared.role.Role.{Role}
use Rattle.pssm_values.specs.Integers.{SaysInteger}
use Rattle.pssm_numbering.specs.Numbering.{ModelFile, child_named, children_with, own_with, signals, machines, classes, is_parameter, is_region, is_vertex}
use Rattle.pssm_numbering.specs.Meanings.{value, variables}

-- A signal has few parameters.
abbrev pub HasFewParameters : ModelFile → ℕ → Type 0
HasFewParameters file s = length (children_with is_parameter file s) ≤ 8

-- The default of a variable, where it has one, is an integer.
abbrev pub HasIntegerFirst : ModelFile → ℕ → Type 0
HasIntegerFirst file v = IfSome (child_named (codes "defaultValue") file v) (λ d. (i : ℤ) × SaysInteger (value (codes "value") file d) i)

-- So are the defaults of all variables of a class.
abbrev pub HasIntegerFirsts : ModelFile → ℕ → Type 0
HasIntegerFirsts file c = All (HasIntegerFirst file) (variables file c)

-- Each machine has few elements with such a role.
abbrev pub HasFewOwn : (Role → Bool) → ModelFile → Type 0
HasFewOwn is file = All (λ m. length (own_with is file m) ≤ 65535) (machines file)

-- The parts of the file that a draft numbers are few, and its first values are integers.
pub record FitsDraft (file : ModelFile) : Type 0 where
  pub few_signals : length (signals file) ≤ 256
  pub few_parameters : All (HasFewParameters file) (signals file)
  pub few_classes : length (classes file) ≤ 64
  pub few_regions : HasFewOwn is_region file
  pub few_vertices : HasFewOwn is_vertex file
  pub integers : All (HasIntegerFirsts file) (classes file)
