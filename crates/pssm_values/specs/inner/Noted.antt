-- What is noted of languages that come one behind another.
use Rattle.std.specs.Prelude.{ℕ, Bool, Option, Some, None, if◌then◌else◌}

-- the place that was noted earlier, or this one where it passes
abbrev pub noted : Option ℕ → ℕ → Bool → Option ℕ
noted (Some earlier) place passes = Some earlier
noted None place passes = if passes then Some place else None
