-- What refers to elements: attributes that hold ids, and children of the same name that hold them in `xmi:idref` (XMI 2.5.1 7.10, linking).
use Rattle.std.specs.Prelude.{ℕ, suc, List, [], ◌∷◌, ◌++◌, map, codes, if◌then◌else◌}
use Rattle.std.specs.Option.{option_map_or}
use Rattle.pssm_xml.specs.Documents.{Element}
use Rattle.pssm_xml.specs.Elements.{attribute_value, is_child_of, value_or_empty}
use Rattle.pssm_values.specs.Ids.{ids_in}

-- what these ids refer to, where they stand at this element
abbrev pub refers_at : ℕ → List (List ℕ) → List (ℕ × List ℕ)
refers_at at ids = map (λ (id : List ℕ). (at, id)) ids

-- the value that an element has for a name; empty where it has none
abbrev pub own_value : List ℕ → Element → List ℕ
own_value name e = option_map_or (λ value. value) (attribute_value name e) []

-- the references of the children of this name, where the elements that are asked have numbers from this one on
abbrev pub of_children : (p : ℕ) (name : List ℕ) → ℕ → List Element → List (ℕ × List ℕ)
of_children p name n [] = []
of_children p name n (e ∷ es) =
    (if is_child_of p name e then refers_at n (ids_in (own_value (codes "xmi:idref") e)) else []) ++ of_children p name (suc n) es

-- the references of an element under a name, each with the element at which it stands: those of the attribute stand at the element itself, and before those of
-- its children, which stand at the children
abbrev pub references : List Element → ℕ → List ℕ → List (ℕ × List ℕ)
references doc n name = refers_at n (ids_in (value_or_empty doc n name)) ++ of_children n name 0 doc
