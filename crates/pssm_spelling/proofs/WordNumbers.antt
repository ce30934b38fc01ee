-- Numbers that words spell in decimal.
use Rattle.std.proofs.Common.{◌≡◌, ◌≢◌, ◌<◌, ◌≤◌, ◌^◌, ℕ, List, length, get_or, Result, Ok, Err, sym, ap, ◌∙◌, arith, inl, inr, subst}
use Rattle.std.specs.Fmt.{decimal}
use Rattle.std.specs.Str.Parse.{AllDigits, digits_value, ParsesUnsigned}
use Rattle.std.proofs.lemmas.Bool.{cases_lt}
use Rattle.std.proofs.lemmas.Str.Parse.{IsNumeralModel, numerals_by_value, tells_digits, parse_plain}
use Rattle.std.proofs.lemmas.Fmt.{decimal_digit, first_decimal, decimal-digits_value, parse-decimal, decimal_injective}
use Rattle.pssm_spelling.specs.Numbers.{IsNumber}

own : IsNumeralModel (AllDigits 10) (digits_value 10)
own = numerals_by_value _ tells_digits

-- neither a sign nor a zero before further digits
abbrev pub IsPlain : List ℕ → Type 0
IsPlain bs = (get_or bs 0 0 ≢ 43) × (get_or bs 0 0 ≡ 48 → length bs ≤ 1)

-- what a number is spelled like
pub decimal_plain : (n : ℕ) → n < 2 ^ 64 → IsPlain (decimal n)
decimal_plain n low = elim (cases_lt 0 n) [
  | inl some ↦ let first : 48 < get_or (decimal n) 0 0 = first_decimal n some low in (λ e. omega (arith, first, e), λ e. omega (arith, first, e))
  | inr none ↦
      let zero_is : n ≡ 0 = omega arith in
      subst (λ (k : ℕ). IsPlain (decimal k)) (sym zero_is) (subst (λ (t : List ℕ). IsPlain t) (sym (decimal_digit 0 (omega arith))) ((λ e. omega arith), (λ e. omega arith)))
]

-- what std's `parse` gives on such a text: its number
pub read_some : {E : Type 0} (bs : List ℕ) (r : Result ℕ E) (x : ℕ) → ParsesUnsigned {E = E} 64 10 bs r → r ≡ Ok x → IsPlain bs → (bs ≡ decimal x) × (x < 2 ^ 64)
read_some {E} bs r x h is plain =
    let p = parse_plain own {E = E} 64 bs (Ok x) (subst (λ (o : Result ℕ E). ParsesUnsigned {E = E} 64 10 bs o) is h) plain.0 in
    let some : 0 < length bs = p.0.1 in
    let spelled : decimal (digits_value 10 bs) ≡ bs = decimal-digits_value own bs p.0.0 some (λ e. let few = plain.1 e in omega (arith, few, some)) p.0.2 in
    (sym (ap decimal p.1 ∙ spelled), omega (arith, p.0.2, p.1))

-- and nothing where it spells none
pub read_none : {E : Type 0} (bs : List ℕ) (r : Result ℕ E) (x : E) → ParsesUnsigned {E = E} 64 10 bs r → r ≡ Err x → (n : ℕ) → n < 2 ^ 64 → bs ≡ decimal n → ⊥
read_none {E} bs r x h is n low spelled = let gives : r ≡ Ok n = parse-decimal {E = E} 64 n bs r low low spelled h in cc

-- A word spells one number at most.
pub one_number : (word : List ℕ) (low high m n : ℕ) → high < 2 ^ 64 → IsNumber word low high m → IsNumber word low high n → m ≡ n
one_number word low high m n small p q =
    decimal_injective m n (let h = p.high in omega arith) (let h = q.high in omega arith) (sym p.spelled ∙ q.spelled)

-- The number of a word is the one that was read.
pub read_is : (word : List ℕ) (low high m n : ℕ) → high < 2 ^ 64 → m < 2 ^ 64 → word ≡ decimal m → IsNumber word low high n → m ≡ n
read_is word low high m n small less e p = decimal_injective m n less (let h = p.high in omega arith) (sym e ∙ p.spelled)

-- A word that is not spelled so is no number.
pub not_plain : (word : List ℕ) (low high n : ℕ) → high < 2 ^ 64 → (IsPlain word → ⊥) → IsNumber word low high n → ⊥
not_plain word low high n small other p =
    other (subst (λ (t : List ℕ). IsPlain t) (sym p.spelled) (decimal_plain n (let h = p.high in omega arith)))
