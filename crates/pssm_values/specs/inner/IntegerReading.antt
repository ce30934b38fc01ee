-- What a word is read as where an integer may stand.
use Rattle.std.specs.Prelude.{ℕ, suc, zero, ◌^◌, ℤ, pos, negsuc, List, [], ◌∷◌, Option, Some, None, nat_lt, ◌==◌, if◌then◌else◌}
use Rattle.std.specs.Str.Parse.{digits_value}
use Rattle.pssm_spelling.specs.Numbers.{is_natural}

-- the number of digits, within 64 bits with a sign
unfoldable pub natural_read : List ℕ → Option ℤ
natural_read digits =
    if is_natural digits then (if nat_lt (digits_value 10 digits) (2 ^ 63) then Some (pos (digits_value 10 digits)) else None) else None

abbrev pub negative_value : ℕ → Option ℤ
negative_value zero = None
negative_value (suc below) = if nat_lt below (2 ^ 63) then Some (negsuc below) else None

-- the number of digits behind a `-`
unfoldable pub negative_read : List ℕ → Option ℤ
negative_read digits = if is_natural digits then negative_value (digits_value 10 digits) else None

unfoldable pub integer_read : List ℕ → Option ℤ
integer_read [] = natural_read []
integer_read (c ∷ cs) = if c == 45 then negative_read cs else natural_read (c ∷ cs)
