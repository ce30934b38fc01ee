-- Names, and each of them once.
use Rattle.std.specs.Prelude.{◌≡◌, ℕ, List, bytes_eq}
use Rattle.std.specs.List.{list_any}

-- What is one of these names is one of those.
abbrev pub AreSameNames : List (List ℕ) → List (List ℕ) → Type 0
AreSameNames names distinct = (name : List ℕ) → list_any (bytes_eq name) distinct ≡ list_any (bytes_eq name) names
