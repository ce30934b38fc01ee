-- How the numbers of elements are kept by their ids.
use Rattle.std.specs.Prelude.{◌≡◌, ◌<◌, ℕ, List, Option, Some, None, slice_get, Vec, if◌then◌else◌}
use Rattle.std.specs.Option.{option_map_or}
use Rattle.std.specs.declared.alloc.Global.{Global}
use Rattle.std.specs.BTreeMap.{BTreeMap, get_by}
use Rattle.std.specs.Ordering.{nat_cmp}
use Rattle.std.specs.Cmp.Lexicographic.{slice_cmp}
use Rattle.pssm_xml.specs.Documents.{Element}
use Rattle.pssm_roles.specs.Ids.{has_id, meant_by}

-- ids, each with a number
abbrev pub Numbers : Type 0
Numbers = BTreeMap (Vec ℕ Global) ℕ

-- the number that is kept for an id
abbrev pub number_in : Numbers → List ℕ → Option ℕ
number_in numbers id = get_by (λ key. slice_cmp nat_cmp id key.items) numbers

-- the number of this element where it has the id, and else the one that was kept
abbrev pub number_before : List Element → ℕ → List ℕ → Option ℕ → Option ℕ
number_before doc n id kept = option_map_or (λ e. if has_id id e then Some n else kept) (slice_get doc n) kept

-- There is such a number, and it is less.
abbrev pub IsLess : ℕ → Option ℕ → Type 0
IsLess n None = ⊥
IsLess n (Some m) = m < n

-- What is kept for an id is the element that it means.
abbrev pub HoldsNumbers : List Element → Numbers → Type 0
HoldsNumbers doc numbers = (id : List ℕ) → number_in numbers id ≡ meant_by doc id
