-- What is counted at an element: what it refers to under a name, and its children.
use Rattle.std.specs.Prelude.{◌≡◌, ℕ, ◌+◌, ◌&&◌, ◌==◌, List, map, length, sum, codes, slice_get, Option, option_and_then, if◌then◌else◌}
use Rattle.pssm_xml.specs.Documents.{Element}
use Rattle.pssm_xml.specs.Elements.{attribute_value, children, value_or_empty}
use Rattle.pssm_roles.specs.References.{own_value}
use Rattle.pssm_values.specs.Ids.{ids_in}
use Rattle.pssm_roles.specs.Roles.{has_attribute}

-- what an attribute of the element says; none where it is missing
abbrev pub said : List Element → ℕ → List ℕ → Option (List ℕ)
said doc n name = option_and_then (attribute_value name) (slice_get doc n)

-- how many ids the attribute holds; one that holds none counts as absent
abbrev pub held : List Element → ℕ → List ℕ → ℕ
held doc n name = length (ids_in (value_or_empty doc n name))

-- how many a child counts that refers: as many as it holds ids; one that refers to another file counts one
abbrev pub referred : Element → ℕ
referred e =
    let ids = length (ids_in (own_value (codes "xmi:idref") e)) in
    if has_attribute (codes "href") e && (ids == 0) then 1 else ids

-- how many references the element has under this name: in its attribute and in its children; two ids count as two, also where they are equal
abbrev pub references_count : List Element → ℕ → List ℕ → ℕ
references_count doc n name = held doc n name + sum (map referred (children doc n name))

-- The attribute and the children of this name refer to nothing.
abbrev pub RefersToNothing : List Element → ℕ → List ℕ → Type 0
RefersToNothing doc n name = references_count doc n name ≡ 0

-- how many children it has of this name
abbrev pub children_count : List Element → ℕ → List ℕ → ℕ
children_count doc n name = length (children doc n name)

-- how many guards a child of a transition counts: a guard that stands there itself is one, and another as many as it refers to
abbrev pub guarded : Element → ℕ
guarded e = if has_attribute (codes "xmi:idref") e then referred e else 1

-- how many guards a transition has, in its attribute and in its children
abbrev pub guards_count : List Element → ℕ → ℕ
guards_count doc n = held doc n (codes "guard") + sum (map guarded (children doc n (codes "guard")))
