-- Numbers in texts: decimal, without leading zeros; in actions in the range of 64 bits with a sign (this profile's choice).
use Rattle.std.specs.Prelude.{◌≡◌, ◌≤◌, ◌<◌, ℕ, suc, ◌^◌, ℤ, pos, negsuc, Bool, ◌&&◌, IsTrue, List, ◌∷◌}
use Rattle.std.specs.List.{list_all}
use Rattle.std.specs.Fmt.{decimal}
use Rattle.std.specs.Str.Parse.{digits_value}
use Rattle.pssm_spelling.specs.SpellingReading.{is_digit, is_plain}

-- digits without leading zeros
abbrev pub is_natural : List ℕ → Bool
is_natural digits = is_plain digits && list_all is_digit digits

-- The word spells the number: digits without leading zeros, or `-` and such digits that are not 0.
pub data SpellsNumber : List ℕ → ℤ → Type 0 where
  natural : {digits : List ℕ} → IsTrue (is_natural digits) → digits_value 10 digits < 2 ^ 63 → SpellsNumber digits (pos (digits_value 10 digits))
  negative : {digits : List ℕ} {below : ℕ} → IsTrue (is_natural digits) → digits_value 10 digits ≡ suc below → digits_value 10 digits ≤ 2 ^ 63 → SpellsNumber (45 ∷ digits) (negsuc below)

-- The word is the number in decimal, without sign or leading zeros, and the number is in its range.
pub record IsNumber (word : List ℕ) (least greatest n : ℕ) : Type 0 where
  pub spelled : word ≡ decimal n
  pub low : least ≤ n
  pub high : n ≤ greatest
