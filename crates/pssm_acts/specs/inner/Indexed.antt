-- Names that may have an index beside them.
use Rattle.std.specs.Prelude.{◌≡◌, ℕ, List, Option, IfSome}
use Rattle.indexmap.specs.IndexSet.{IndexSet}

-- Where there is an index, its keys are the names in their order. (S hashes them.)
abbrev pub IsIndexed : {S : Type 0} → List (List ℕ) → Option (IndexSet (List ℕ) S) → Type 0
IsIndexed {S} names index = IfSome index (λ (kept : IndexSet (List ℕ) S). kept.keys ≡ names)
