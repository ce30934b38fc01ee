-- The number of parameters of a signal and the first value of a variable: what is read is spelled so, and is read again.
use Rattle.std.proofs.Common.{◌≡◌, ◌<◌, ◌≤◌, ◌+◌, ◌-◌, ◌^◌, ℕ, suc, zero, ℤ, pos, negsuc, true, false, Bool, cond, eqb, ltb, leb, ◌&&◌, List, [], ◌∷◌, length, get_or, Some, None, IsTrue, refl, sym, ap, subst, ◌∙◌, arith}
use Rattle.std.specs.List.{list_all}
use Rattle.std.specs.Fmt.{decimal, signed_decimal}
use Rattle.std.specs.Str.Parse.{digits_value}
use Rattle.std.proofs.lemmas.Bool.{and_parts, eqb-true, ltb-true, leb-true, lt-ltb, le-leb}
use Rattle.std.proofs.lemmas.Fmt.{decimal_digit, decimal-digits_value}
use Rattle.pssm_spelling.specs.SpellingReading.{is_digit, is_plain}
use Rattle.pssm_spelling.specs.Numbers.{is_natural, SpellsNumber, natural, negative}
use Rattle.pssm_spelling.proofs.SpellingLaws.{digits_model}
use Rattle.pssm_acts.proofs.FrontLaws.{written_number}
use Rattle.pssm_acts.proofs.NumberSpelled.{minus_first}
use Rattle.pssm_flat.specs.Flat.{IsInteger}
use Rattle.pssm_flat.specs.inner.Lines.{count_taken, natural_first, negative_value, negative_first, first_taken}
use Rattle.pssm_flat.proofs.Bind.{chosen_some, some_is}

-- ---- counts

pub count_takes : (bytes : List ℕ) (n : ℕ) → count_taken bytes ≡ Some n → (bytes ≡ decimal n) × (n ≤ 8)
count_takes [] n e = absurd cc
count_takes (c ∷ []) n e =
    let found = chosen_some (leb 48 c && leb c 56) (Some (c - 48)) n e in
    let tests = and_parts (leb 48 c) (leb c 56) found.0 in
    let low : 48 ≤ c = leb-true 48 c tests.0 in
    let high : c ≤ 56 = leb-true c 56 tests.1 in
    let is : c - 48 ≡ n = some_is (c - 48) n found.1 in
    let back : c ≡ 48 + n = omega arith in
    (ap (λ (d : ℕ). d ∷ []) back ∙ sym (decimal_digit n (omega arith)), omega arith)
count_takes (c ∷ d ∷ rest) n e = absurd cc

pub count_again : (n : ℕ) → n ≤ 8 → count_taken (decimal n) ≡ Some n
count_again n few =
    let back : 48 + n - 48 ≡ n = omega arith in
    rw (decimal_digit n (omega arith), le-leb 48 (48 + n) (omega arith), le-leb (48 + n) 56 (omega arith), back) refl

-- ---- first values

plain_zero : (ds : List ℕ) → is_plain ds ≡ true → get_or ds 0 0 ≡ 48 → length ds ≤ 1
plain_zero [] e zero_first = omega arith
plain_zero (c ∷ []) e zero_first = omega arith
plain_zero (c ∷ d ∷ ds) e zero_first = absurd (let same : eqb c 48 ≡ true = rw zero_first refl in cc)

plain_some : (ds : List ℕ) → is_plain ds ≡ true → 0 < length ds
plain_some [] e = absurd cc
plain_some (c ∷ ds) e = omega arith

-- digits without leading zeros are those of their number
natural_is : (ds : List ℕ) → is_natural ds ≡ true → digits_value 10 ds < 2 ^ 64 → ds ≡ decimal (digits_value 10 ds)
natural_is ds plain small =
    let both = and_parts (is_plain ds) (list_all is_digit ds) plain in
    sym (decimal-digits_value digits_model ds both.1 (plain_some ds both.0) (λ e. let few = plain_zero ds both.0 e in let some = plain_some ds both.0 in omega arith) small)

abbrev Takes : List ℕ → ℤ → Type 0
Takes bytes n = (bytes ≡ signed_decimal n) × IsInteger n

natural_takes : (ds : List ℕ) (n : ℤ) → natural_first ds ≡ Some n → Takes ds n
unfolding natural_first
natural_takes ds n e =
    let v = digits_value 10 ds in
    let found = chosen_some (is_natural ds) (cond (ltb v (2 ^ 63)) (Some (pos v)) None) n e in
    let low = chosen_some (ltb v (2 ^ 63)) (Some (pos v)) n found.1 in
    let small : v < 2 ^ 63 = ltb-true v (2 ^ 63) low.0 in
    subst (Takes ds) (some_is (pos v) n low.1) (natural_is ds found.0 (omega arith), small)

negative_takes : (ds : List ℕ) (n : ℤ) → negative_first ds ≡ Some n → Takes (45 ∷ ds) n
unfolding negative_first
negative_takes ds n e =
    let found = chosen_some (is_natural ds) (negative_value (digits_value 10 ds)) n e in by_value (digits_value 10 ds) refl found.0 found.1 where
      by_value : (v : ℕ) → digits_value 10 ds ≡ v → is_natural ds ≡ true → negative_value v ≡ Some n → Takes (45 ∷ ds) n
      by_value zero is plain e = absurd cc
      by_value (suc v) is plain e =
          let low = chosen_some (ltb v (2 ^ 63)) (Some (negsuc v)) n e in
          let small : v < 2 ^ 63 = ltb-true v (2 ^ 63) low.0 in
          let spelled : ds ≡ decimal (suc v) = natural_is ds plain (omega arith) ∙ ap decimal is in
          subst (Takes (45 ∷ ds)) (some_is (negsuc v) n low.1) (ap (λ (t : List ℕ). 45 ∷ t) spelled, small)

pub first_takes : (word : List ℕ) (n : ℤ) → first_taken word ≡ Some n → (word ≡ signed_decimal n) × IsInteger n
unfolding first_taken
first_takes [] n e = natural_takes [] n e
first_takes (c ∷ cs) n e = by_sign (eqb c 45) refl e where
  by_sign : (t : Bool) → eqb c 45 ≡ t → cond t (negative_first cs) (natural_first (c ∷ cs)) ≡ Some n → Takes (c ∷ cs) n
  by_sign true is e = subst (λ (d : ℕ). Takes (d ∷ cs) n) (sym (eqb-true c 45 is)) (negative_takes cs n e)
  by_sign false is e = natural_takes (c ∷ cs) n e

spelled_first : (word : List ℕ) (n : ℤ) → SpellsNumber word n → first_taken word ≡ Some n
unfolding first_taken natural_first negative_first
spelled_first word n (natural {digits} plain small) = go digits plain small where
  go : (ds : List ℕ) → IsTrue (is_natural ds) → digits_value 10 ds < 2 ^ 63 → first_taken ds ≡ Some (pos (digits_value 10 ds))
  go [] plain small = absurd cc
  go (c ∷ cs) plain small = go_first (eqb c 45) refl where
    go_first : (b : Bool) → eqb c 45 ≡ b → first_taken (c ∷ cs) ≡ Some (pos (digits_value 10 (c ∷ cs)))
    go_first true e = absurd (minus_first c cs plain (eqb-true c 45 e))
    go_first false e = rw (e, plain, lt-ltb (digits_value 10 (c ∷ cs)) (2 ^ 63) small) refl
spelled_first word n (negative {digits} {below} plain some small) = rw (plain, some, lt-ltb below (2 ^ 63) (omega arith)) refl

pub first_again : (n : ℤ) → IsInteger n → first_taken (signed_decimal n) ≡ Some n
first_again (pos n) is = spelled_first (signed_decimal (pos n)) (pos n) (written_number (pos n) is)
first_again (negsuc n) is = spelled_first (signed_decimal (negsuc n)) (negsuc n) (written_number (negsuc n) is)
