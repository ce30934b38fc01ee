-- What a word is read as where a number may stand (this profile's choice).
use Rattle.std.specs.Prelude.{ℕ, suc, zero, ◌^◌, ℤ, pos, negsuc, List, [], ◌∷◌, Result, Ok, Err, nat_lt, ◌==◌, if◌then◌else◌}
use Rattle.std.specs.Str.Parse.{digits_value}
use Rattle.pssm_acts.specs.declared.act_fault.ActFault.{ActFault}
use Rattle.pssm_acts.specs.declared.act_fault.ActFault.TheVariants.{Syntax, WideNumber}
use Rattle.pssm_spelling.specs.Numbers.{is_natural}

-- the number of a word, or its fault: `WideNumber` where it is out of range, and `Syntax` where the word spells none
unfoldable pub natural_read : ℕ → List ℕ → Result ℤ ActFault
natural_read at digits =
    if is_natural digits then (if nat_lt (digits_value 10 digits) (2 ^ 63) then Ok (pos (digits_value 10 digits)) else Err (WideNumber at))
    else Err (Syntax at)

abbrev pub negative_value : ℕ → ℕ → Result ℤ ActFault
negative_value at zero = Err (Syntax at)
negative_value at (suc below) = if nat_lt below (2 ^ 63) then Ok (negsuc below) else Err (WideNumber at)

unfoldable pub negative_read : ℕ → List ℕ → Result ℤ ActFault
negative_read at digits = if is_natural digits then negative_value at (digits_value 10 digits) else Err (Syntax at)

unfoldable pub number_read : ℕ → List ℕ → Result ℤ ActFault
number_read at [] = natural_read at []
number_read at (c ∷ cs) = if c == 45 then negative_read at cs else natural_read at (c ∷ cs)
