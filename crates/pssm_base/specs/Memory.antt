-- Inputs and sinks in memory.
use Rattle.std.specs.Prelude.{ℕ, List, [], ◌∷◌, Option, None, Some, unwrap_or, map, min, nat_eq, if◌then◌else◌, string_bytes, String, Vec}
use Rattle.std.specs.Cmp.Lexicographic.{pointwise}
use Rattle.std.specs.declared.alloc.Global.{Global}

-- files: each path with the bytes under it
abbrev pub Files : Type 0
Files = List (List ℕ × List ℕ)

-- the files of a list of texts and bytes
abbrev pub files_of : List (String Global × Vec ℕ Global) → Files
files_of files = map (λ file. (string_bytes file.0, file.1.items)) files

-- the bytes under a path: those of the first file that has it
abbrev pub bytes_under : Files → List ℕ → Option (List ℕ)
bytes_under [] path = None
bytes_under (file ∷ files) path = if pointwise nat_eq file.0 path then Some file.1 else bytes_under files path

-- the same, and no bytes under a path that is not there
abbrev pub bytes_or_none : Files → List ℕ → List ℕ
bytes_or_none files path = unwrap_or (bytes_under files path) []

-- how many bytes a call passes on: as many as it can, and at most `most`
abbrev pub passed_on : ℕ → ℕ → ℕ → ℕ
passed_on most room left = min most (min room left)

-- inputs in memory, the calls of them that fail by their numbers from 0, how many bytes a call passes on at most,
-- the number of the next call, and the count of faults, of all paths together
pub record InputsInMemory : Type 0 where
  pub files : Files
  pub fails : List ℕ
  pub most : ℕ
  pub calls : ℕ
  pub faults : ℕ

-- a sink in memory: what it has taken, how many bytes it has room for, and the rest as of inputs
pub record SinkInMemory : Type 0 where
  pub taken : List ℕ
  pub room : ℕ
  pub fails : List ℕ
  pub most : ℕ
  pub calls : ℕ
  pub faults : ℕ
