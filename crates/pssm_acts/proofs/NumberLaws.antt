-- How numbers are read: a word is read as a number exactly where it spells it.
use Rattle.std.proofs.Common.{◌≡◌, ◌≤◌, ℕ, suc, ◌-◌, ◌^◌, ℤ, negsuc, true, List, Ok, min, refl, arith}
use Rattle.std.specs.Str.Parse.{digits_value}
use Rattle.std.proofs.lemmas.Bool.{lt-ltb}
use Rattle.pssm_spelling.specs.Numbers.{is_natural}
use Rattle.pssm_acts.specs.inner.NumberReading.{negative_read}

pub negative_is : (at : ℕ) (ds : List ℕ) (v n : ℕ) (r : ℤ) → is_natural ds ≡ true → v ≡ min (digits_value 10 ds) 18446744073709551615 → (v ≡ 0 → ⊥) → v ≤ 2 ^ 63 → n ≡ v - 1 → r ≡ negsuc n → Ok r ≡ negative_read at ds
unfolding negative_read
negative_is at ds v n r plain value some small one is =
    let all : digits_value 10 ds ≡ suc n = omega arith in
    rw (plain, all, lt-ltb n (2 ^ 63) (omega arith), is) refl
