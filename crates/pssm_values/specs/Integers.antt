-- Integers: spelled as in behaviours (this profile's choice).
use Rattle.std.specs.Prelude.{◌≡◌, ℕ, ℤ, pos, List, Option, Some, None}
use Rattle.pssm_spelling.specs.Numbers.{SpellsNumber}

-- An attribute that may be missing says this integer: 0 where it is missing (UML 2.5.1 8.6, LiteralInteger).
abbrev pub SaysInteger : Option (List ℕ) → ℤ → Type 0
SaysInteger None n = n ≡ pos 0
SaysInteger (Some word) n = SpellsNumber word n
