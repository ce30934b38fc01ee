-- The digits of a number, written from the first to the last.
use Rattle.std.proofs.Common.{◌≡◌, ◌++◌, ◌+◌, ◌<◌, ◌≤◌, ◌/◌, ◌%◌, ◌^◌, ℕ, List, [], ◌∷◌, ap, ◌∙◌, append_assoc, arith}
use Rattle.std.specs.Fmt.{decimal}
use Rattle.std.proofs.lemmas.Fmt.{decimal_digit, decimal_step}

-- a number of one digit
pub of_digit : (before : List ℕ) (n : ℕ) → n < 10 → before ++ ((48 + n % 10) ∷ []) ≡ before ++ decimal n
of_digit before n small = rw (decimal_digit n small) (ap (λ (d : ℕ). before ++ ((48 + d) ∷ [])) (omega arith))

-- a number of more digits: the others, and the last
pub of_more : (before : List ℕ) (n : ℕ) → 10 ≤ n → n < 2 ^ 64 → (before ++ decimal (n / 10)) ++ ((48 + n % 10) ∷ []) ≡ before ++ decimal n
of_more before n more small = rw (decimal_step n more small) (append_assoc before (decimal (n / 10)) ((48 + n % 10) ∷ []))
