-- References as they are stored, and those of the children that are still to be asked.
use Rattle.std.specs.Prelude.{◌-◌, ℕ, List, [], drop, Option, Some, None, slice_get, codes, bytes_eq, if◌then◌else◌}
use Rattle.std.specs.Option.{option_map_or}
use Rattle.pssm_xml.specs.Documents.{Element}
use Rattle.pssm_xml.specs.Elements.{IsParent}
use Rattle.pssm_values.specs.Ids.{ids_in}
use Rattle.pssm_roles.specs.References.{refers_at, own_value, of_children}
use Rattle.pssm_roles.specs.declared.references.Reference.{Reference}

-- the reference that is stored so
abbrev pub seen : Reference → ℕ × List ℕ
seen r = (r.at, r.id.now)

-- the references of a child, where it has this name
abbrev pub of_child : List Element → List ℕ → ℕ → List (ℕ × List ℕ)
of_child doc name m =
    option_map_or (λ (e : Element). if bytes_eq e.name name then refers_at m (ids_in (own_value (codes "xmi:idref") e)) else []) (slice_get doc m) []

-- the references of the children from this one on
abbrev pub of_rest : List Element → (p : ℕ) → List ℕ → Option ℕ → List (ℕ × List ℕ)
of_rest doc p name None = []
of_rest doc p name (Some m) = of_children p name m (drop m doc)

-- It is a child of the element, where there is one.
abbrev pub IsChildOf : List Element → ℕ → Option ℕ → Type 0
IsChildOf doc p None = Unit {0}
IsChildOf doc p (Some m) = IsParent doc p m

-- how many elements there are from this child on
abbrev pub left_from : ℕ → Option ℕ → ℕ
left_from len None = 0
left_from len (Some m) = len - m
