-- What a name or a number at the front of a text is: the longest text of its kind that stands there (this profile's choice).
use Rattle.std.specs.Prelude.{◌≡◌, ◌≤◌, ◌<◌, ℕ, Bool, List, ◌++◌, length, IsTrue}
use Rattle.std.specs.List.{list_all}
use Rattle.std.specs.Fmt.{decimal}
use Rattle.pssm_spelling.specs.Spelling.{is_name_text}
use Rattle.pssm_spelling.specs.SpellingReading.{is_digit}

-- The text stands at the front, it is of the kind, and none of the kind that stands there is longer; the rest comes after it.
pub record IsLongestFront (is_of_kind : List ℕ → Bool) (bytes text rest : List ℕ) : Type 0 where
  pub parts : bytes ≡ text ++ rest
  pub of_kind : IsTrue (is_of_kind text)
  pub longest : (other more : List ℕ) → bytes ≡ other ++ more → IsTrue (is_of_kind other) → length other ≤ length text

-- The longest text at the front that is spelled as a name has at most 64 bytes: it is the name.
pub record IsNameAt (bytes name rest : List ℕ) : Type 0 where
  pub front : IsLongestFront is_name_text bytes name rest
  pub short : length name ≤ 64

-- The longest text of digits at the front is the number in decimal, and the number is below the limit.
pub record IsNumberAt (limit : ℕ) (bytes : List ℕ) (n : ℕ) (rest : List ℕ) : Type 0 where
  pub front : IsLongestFront (list_all is_digit) bytes (decimal n) rest
  pub small : n < limit
