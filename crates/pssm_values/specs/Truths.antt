-- Truth values.
use Rattle.std.specs.Prelude.{ℕ, Bool, true, false, List, Option, Some, None, bytes_eq, codes, if◌then◌else◌}

-- the truth value that a word spells
abbrev pub truth_spelled : List ℕ → Option Bool
truth_spelled word =
    if bytes_eq word (codes "true") then Some true else
    if bytes_eq word (codes "false") then Some false else None

-- the same of an attribute that may be missing: then it is `false` (UML 2.5.1 8.6, LiteralBoolean)
abbrev pub truth_said : Option (List ℕ) → Option Bool
truth_said None = Some false
truth_said (Some word) = truth_spelled word
