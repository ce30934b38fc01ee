-- Places of names, as a namespace keeps them.
use Rattle.std.specs.Prelude.{◌≡◌, ℕ, List, length, slice_get, Option, Some, None, position, if◌then◌else◌}
use Rattle.std.specs.Option.{option_or}
use Rattle.std.specs.Str.{bytes_eq}
use Rattle.indexmap.specs.IndexMap.{IndexMap, get}
use Rattle.pssm_semantics.specs.declared.setting.Class.{Class}

-- names in the order in which they are first seen, each with a place; S hashes them
abbrev pub Places : Type 0 → Type 0
Places S = IndexMap (List ℕ) ℕ S

-- the place that is kept for a name
abbrev pub place_in : {S : Type 0} → Places S → List ℕ → Option ℕ
place_in places name = get bytes_eq places name

-- the place that is kept for a name once another has been noted: what was kept stays
abbrev pub place_noted : Option ℕ → List ℕ → ℕ → List ℕ → Option ℕ
place_noted kept noted place name = option_or kept (if bytes_eq noted name then Some place else None)

-- the first place at which one of these has the name
abbrev pub place_among : {X : Type 0} → (X → List ℕ) → List X → List ℕ → Option ℕ
place_among name_of named name = position (λ x. bytes_eq (name_of x) name) named

-- What is kept for a name is the first place at which one of these has it, and nothing where none has.
abbrev pub HoldsPlaces : {X S : Type 0} → (X → List ℕ) → List X → Places S → Type 0
HoldsPlaces name_of named places = (name : List ℕ) → place_in places name ≡ place_among name_of named name

-- For each class the places of its marks are kept.
abbrev pub HoldsMarks : {S : Type 0} → List Class → List (Places S) → Type 0
HoldsMarks {S} classes kept =
    (length kept ≡ length classes)
    × ((i : ℕ) (class : Class) (places : Places S) → slice_get classes i ≡ Some class → slice_get kept i ≡ Some places
    → HoldsPlaces (λ mark. mark) class.program.marks places)
