-- The children of one name that come before another child, and what they count.
use Rattle.std.specs.Prelude.{ℕ, Bool, List, [], ◌∷◌, filter, take, Option, Some, None, slice_get, bytes_eq, if◌then◌else◌}
use Rattle.std.specs.Option.{option_map_or}
use Rattle.pssm_xml.specs.Documents.{Element}
use Rattle.pssm_xml.specs.Elements.{is_child_of, children}
use Rattle.pssm_profile.specs.Counts.{referred, guarded}

-- the children of this name before this one; all where there is none
abbrev pub before : List Element → ℕ → List ℕ → Option ℕ → List Element
before doc p name None = children doc p name
before doc p name (Some m) = filter (is_child_of p name) (take m doc)

-- the child, where it has this name
abbrev pub named_child : List Element → List ℕ → ℕ → List Element
named_child doc name m = option_map_or (λ (e : Element). if bytes_eq e.name name then e ∷ [] else []) (slice_get doc m) []

-- what a child counts, as a guard or as any reference
abbrev pub weight : Bool → Element → ℕ
weight as_guard e = if as_guard then guarded e else referred e
