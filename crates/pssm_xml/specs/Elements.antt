-- What is asked of an element: its place, its name, its attributes, its text, and the elements in which it stands and that stand in it. An element is
-- named by its number, in document order.
use Rattle.std.specs.Prelude.{◌≡◌, ◌<◌, ◌≤◌, ℕ, Bool, false, ◌&&◌, ◌==◌, List, [], filter, find, Option, Some, None, option_map, option_and_then, slice_get, bytes_eq}
use Rattle.std.specs.Option.{option_map_or}
use Rattle.pssm_xml.specs.Pieces.{Attribute}
use Rattle.pssm_xml.specs.Documents.{Element}

-- ---- one element

-- the value of the attribute of this name, where the element has it
abbrev pub attribute_value : List ℕ → Element → Option (List ℕ)
attribute_value name e = option_map (λ (a : Attribute). a.value) (find (λ (a : Attribute). bytes_eq a.name name) e.attributes)

-- The element with this number has the attribute, and this is its value; no child stands for an attribute, but for one that holds references (this profile's choice).
abbrev pub HasValue : List Element → ℕ → List ℕ → List ℕ → Type 0
HasValue doc n name value = option_and_then (attribute_value name) (slice_get doc n) ≡ Some value

-- It has no such attribute.
abbrev pub HasNoValue : List Element → ℕ → List ℕ → Type 0
HasNoValue doc n name = (e : Element) × (slice_get doc n ≡ Some e) × (attribute_value name e ≡ None)

-- the value of an attribute; empty where it is absent
abbrev pub value_or_empty : List Element → ℕ → List ℕ → List ℕ
value_or_empty doc n name = option_map_or (λ v. v) (option_and_then (attribute_value name) (slice_get doc n)) []

-- where the element begins
abbrev pub BeginsAt : List Element → ℕ → ℕ → Type 0
BeginsAt doc n at = option_map (λ (e : Element). e.at) (slice_get doc n) ≡ Some at

-- The element has this name.
abbrev pub IsNamed : List Element → ℕ → List ℕ → Type 0
IsNamed doc n name = option_map (λ (e : Element). e.name) (slice_get doc n) ≡ Some name

-- the text that stands directly in it
abbrev pub HasText : List Element → ℕ → List ℕ → Type 0
HasText doc n text = option_map (λ (e : Element). e.text) (slice_get doc n) ≡ Some text

-- the element in which it stands, where there is one
abbrev pub HasParent : List Element → ℕ → Option ℕ → Type 0
HasParent doc n parent = option_map (λ (e : Element). e.parent) (slice_get doc n) ≡ Some parent

-- ---- children

-- the element in which another stands
abbrev pub IsParent : List Element → ℕ → ℕ → Type 0
IsParent doc p n = option_and_then (λ (e : Element). e.parent) (slice_get doc n) ≡ Some p

-- the root has no parent
abbrev pub IsRoot : List Element → ℕ → Type 0
IsRoot doc n = (e : Element) × (slice_get doc n ≡ Some e) × (e.parent ≡ None)

-- whether an element is a child of this name
abbrev pub is_child_of : ℕ → List ℕ → Element → Bool
is_child_of p name e = option_map_or (λ q. q == p) e.parent false && bytes_eq e.name name

-- the children of this name, in document order
abbrev pub children : List Element → ℕ → List ℕ → List Element
children doc p name = filter (is_child_of p name) doc

-- the first child of an element from this number on; none where there is none
abbrev pub IsNextChild : List Element → ℕ → ℕ → Option ℕ → Type 0
IsNextChild doc p low None = (m : ℕ) → low ≤ m → IsParent doc p m → ⊥
IsNextChild doc p low (Some child) = (low ≤ child) × IsParent doc p child × ((m : ℕ) → low ≤ m → m < child → IsParent doc p m → ⊥)
