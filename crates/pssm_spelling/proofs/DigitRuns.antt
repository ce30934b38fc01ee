-- The digits at the front of a text, read one by one.
use Rattle.std.proofs.Common.{◌≡◌, ℕ, ◌+◌, ◌-◌, ◌*◌, ◌^◌, ◌<◌, ◌≤◌, true, false, leb, List, length, get_or, take, refl, sym, ap, ◌∙◌, arith}
use Rattle.std.specs.List.{prefix_len, list_all}
use Rattle.std.specs.Int.{IsInRange}
use Rattle.std.specs.Str.Parse.{digits_value}
use Rattle.std.proofs.Math.Nat.{pow-le-pow_right}
use Rattle.std.proofs.lemmas.Bool.{and_parts, leb-true}
use Rattle.std.proofs.lemmas.List.{length-take-le}
use Rattle.std.proofs.lemmas.Int.Digits.{digits_value-lt, digits_value_more}
use Rattle.pssm_spelling.specs.SpellingReading.{is_digit}
use Rattle.pssm_spelling.proofs.SpellingLaws.{digits_model, digit_value_is}
use Rattle.pssm_spelling.proofs.Runs.{run_more, run_ends, run_is_all, run_within}

-- The first so many bytes, at most ten, are digits, and they spell the value.
pub record HasReadDigits (bytes : List ℕ) (n value : ℕ) : Type 0 where
  pub digits : list_all is_digit (take n bytes) ≡ true
  pub within : n ≤ length bytes
  pub few : n ≤ 10
  pub spelled : value ≡ digits_value 10 (take n bytes)

pub nothing_read : (bytes : List ℕ) → HasReadDigits bytes 0 0
nothing_read bytes = record { digits = refl; within = omega arith; few = omega arith; spelled = refl }

-- the bounds of a digit
pub digit_range : (c : ℕ) → is_digit c ≡ true → IsInRange 48 57 c
digit_range c is =
    let both = and_parts (leb 48 c) (leb c 57) is in
    (leb-true 48 c both.0, leb-true c 57 both.1)

-- one more digit
pub digit_read : (bytes : List ℕ) (n value next : ℕ) → HasReadDigits bytes n value → n < length bytes → n < 10 → is_digit (get_or bytes n 0) ≡ true → next ≡ value * 10 + (get_or bytes n 0 - 48) → HasReadDigits bytes (n + 1) next
digit_read bytes n value next r more few is next_is = record {
  digits = run_more is_digit bytes n r.digits more is;
  within = omega arith;
  few = omega arith;
  spelled =
      next_is
      ∙ ap (λ (v : ℕ). v * 10 + (get_or bytes n 0 - 48)) r.spelled
      ∙ sym (digits_value_more 10 bytes n more ∙ ap (λ (d : ℕ). digits_value 10 (take n bytes) * 10 + d) (digit_value_is (get_or bytes n 0) (digit_range (get_or bytes n 0) is)));
}

-- it stays small
pub small_value : (bytes : List ℕ) (n value : ℕ) → HasReadDigits bytes n value → value < 10000000000
small_value bytes n value r =
    let below = digits_value-lt 10 (take n bytes) (digits_model.to (take n bytes) r.digits) in
    let len : length (take n bytes) ≡ n = length-take-le n bytes r.within in
    let few : length (take n bytes) ≤ 10 = omega (arith, len, r.few) in
    let power : 10 ^ length (take n bytes) ≤ 10 ^ 10 = pow-le-pow_right {n = 10} (omega arith) few in
    omega (arith, below, power, r.spelled)

-- ---- the end

-- another byte
pub ends_at_other : (bytes : List ℕ) (n value : ℕ) → HasReadDigits bytes n value → n < length bytes → is_digit (get_or bytes n 0) ≡ false → n ≡ prefix_len is_digit bytes
ends_at_other bytes n value r more other = run_ends is_digit bytes n r.digits more other

-- no byte
pub ends_at_end : (bytes : List ℕ) (n value : ℕ) → HasReadDigits bytes n value → length bytes ≤ n → n ≡ prefix_len is_digit bytes
ends_at_end bytes n value r past = run_is_all is_digit bytes n r.digits r.within past

-- a digit more than was read
pub longer_run : (bytes : List ℕ) (n value : ℕ) → HasReadDigits bytes n value → n < length bytes → is_digit (get_or bytes n 0) ≡ true → n < prefix_len is_digit bytes
longer_run bytes n value r more is =
    let longer : n + 1 ≤ prefix_len is_digit bytes = run_within is_digit bytes (n + 1) (run_more is_digit bytes n r.digits more is) (omega (arith, more)) in
    omega (arith, longer)
