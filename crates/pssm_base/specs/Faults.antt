-- Counts of faults. A count is a u64, which stays at its last value, 18446744073709551615.
use Rattle.std.specs.Prelude.{ℕ, List, ◌<◌, ◌≤◌, ◌+◌, ◌≢◌, min}

-- a count after one more fault
abbrev pub raised : ℕ → ℕ
raised count = min (count + 1) 18446744073709551615

-- the count rose in a call: it is greater at the exit than at the entry, unless it stands at its last value
abbrev pub Rose : ℕ → ℕ → Type 0
Rose before after = after ≢ 18446744073709551615 → before < after

-- no count was lowered: the count of each path at the entry of a call, and at its exit
abbrev pub NoneFell : (List ℕ → ℕ) → (List ℕ → ℕ) → Type 0
NoneFell before after = (path : List ℕ) → before path ≤ after path
