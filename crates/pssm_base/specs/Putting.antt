-- What a sink takes.
use Rattle.std.specs.Prelude.{ℕ, ◌<◌, List, length, take, Option}
use Rattle.std.specs.Io.KnownBytes.{Appends}

-- a front of the bytes was taken, and not all of them
abbrev pub TookPart : Option (List ℕ) → Option (List ℕ) → List ℕ → Type 0
TookPart before after bytes = (n : ℕ) × (n < length bytes) × Appends before after (take n bytes)
