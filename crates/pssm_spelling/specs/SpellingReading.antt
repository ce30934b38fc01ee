-- Reading what stands at the front of a text: the value, and the bytes after it.
use Rattle.std.specs.Prelude.{◌≡◌, ℕ, Bool, true, false, ◌&&◌, not, List, [], ◌∷◌, take, drop, Option, Some, None, nat_lt, nat_le, ◌==◌, if◌then◌else◌}
use Rattle.std.specs.List.{prefix_len}
use Rattle.std.specs.Str.Parse.{digits_value}
use Rattle.pssm_spelling.specs.Spelling.{begins_name, continues_name}

-- a decimal digit
abbrev pub is_digit : ℕ → Bool
is_digit c = nat_le 48 c && nat_le c 57

-- What does not go on with characters of this kind: it is empty or begins with another.
abbrev pub EndsRun : (ℕ → Bool) → List ℕ → Type 0
EndsRun goes_on [] = Unit {0}
EndsRun goes_on (c ∷ cs) = goes_on c ≡ false

-- what follows a fixed front
unfoldable pub stripped : List ℕ → List ℕ → Option (List ℕ)
stripped [] bytes = Some bytes
stripped (c ∷ front) [] = None
stripped (c ∷ front) (b ∷ bytes) = if b == c then stripped front bytes else None

-- The first character begins a name.
abbrev pub starts_name : List ℕ → Bool
starts_name [] = false
starts_name (c ∷ cs) = begins_name c

-- the longest front of characters that names consist of, where it is a name
unfoldable pub name_taken : List ℕ → Option (List ℕ × List ℕ)
name_taken bytes =
    let n = prefix_len continues_name bytes in
    if starts_name bytes && nat_le n 64 then Some (take n bytes, drop n bytes) else None

-- There are digits, and no zero stands before others.
abbrev pub is_plain : List ℕ → Bool
is_plain [] = false
is_plain (c ∷ []) = true
is_plain (c ∷ d ∷ ds) = not (c == 48)

-- the longest front of digits, at most ten of them, where it spells a number below the limit
unfoldable pub number_below : ℕ → List ℕ → Option (ℕ × List ℕ)
number_below limit bytes =
    let n = prefix_len is_digit bytes in
    let digits = take n bytes in
    if nat_le n 10 && is_plain digits && nat_lt (digits_value 10 digits) limit then Some (digits_value 10 digits, drop n bytes) else None

-- a number up to 4,294,967,295
abbrev pub number_taken : List ℕ → Option (ℕ × List ℕ)
number_taken bytes = number_below 4294967296 bytes

-- the number of an element or of a step, up to 65,535
abbrev pub index_taken : List ℕ → Option (ℕ × List ℕ)
index_taken bytes = number_below 65536 bytes
