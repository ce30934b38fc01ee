-- When a journal is full, by its counts.
use Rattle.std.specs.Prelude.{◌≡◌, ◌⊎◌, ◌<◌, ℕ}

-- With so many entries, and so many posts, sends and marks, a journal is full (this profile's choice).
abbrev pub IsFullAt : ℕ → ℕ → ℕ → Type 0
IsFullAt limit entries outputs = (entries ≡ limit) ⊎ (1999936 < outputs)
