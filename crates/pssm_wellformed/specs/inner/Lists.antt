-- Lists of numbers, one for each number below a count.
use Rattle.std.specs.Prelude.{ℕ, List, [], Vec, slice_get}
use Rattle.std.specs.Option.{option_map_or}
use Rattle.std.specs.declared.alloc.Global.{Global}

-- the list of a number, which is empty where there is none
abbrev pub list_at : List (Vec ℕ Global) → ℕ → List ℕ
list_at lists k = option_map_or (λ list. list.items) (slice_get lists k) []
