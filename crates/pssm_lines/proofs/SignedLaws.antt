-- Numbers of 64 bits with a sign: what is read is spelled so, and what is spelled so is read.
use Rattle.std.proofs.Common.{◌≡◌, ℕ, zero, suc, ◌+◌, ◌-◌, ◌^◌, ◌<◌, ◌≤◌, Bool, true, false, cond, eqb, ltb, leb, ◌&&◌, List, [], ◌∷◌, ◌++◌, length, get_or, take, drop, Some, None, ℤ, pos, negsuc, refl, sym, ap, ◌∙◌, arith, inl, inr}
use Rattle.std.specs.Prelude.{codes, FitsSigned}
use Rattle.std.specs.Int.{w64}
use Rattle.std.specs.List.{prefix_len, list_all}
use Rattle.std.specs.Option.{option_map_or}
use Rattle.std.specs.Fmt.{decimal, signed_decimal}
use Rattle.std.specs.Str.Parse.{digits_value}
use Rattle.std.proofs.lemmas.Bool.{cases_lt, and_parts, ltb-true, leb-true, lt-ltb, eqb-false, ne_eqb, not-true, cond-false}
use Rattle.std.proofs.lemmas.List.{take_at, drop_at, take-append-drop}
use Rattle.std.proofs.lemmas.Option.{cond_some}
use Rattle.std.proofs.lemmas.Fmt.{decimal-digits_value, digits_decimal, digits_value-decimal, decimal_nonempty, first_decimal, decimal_digit}
use Rattle.pssm_spelling.specs.SpellingReading.{is_digit, EndsRun, stripped, is_plain}
use Rattle.pssm_spelling.proofs.SpellingLaws.{passes_front, front_again, digits_model, stripped_takes, stripped_again}
use Rattle.pssm_lines.specs.inner.LineReading.{digits_taken, natural_taken, negative_taken, signed_taken}
use Rattle.pssm_lines.proofs.Readers.{bind_some, bind_at, chosen, choice_at, got, got_is, Reads}

plain_zero : (ds : List ℕ) → is_plain ds ≡ true → get_or ds 0 0 ≡ 48 → length ds ≡ 1
plain_zero [] e zero_first = absurd cc
plain_zero (c ∷ []) e zero_first = refl
plain_zero (c ∷ d ∷ ds) e zero_first =
    let other = not-true (eqb c 48) e in
    let same : eqb c 48 ≡ true = rw zero_first refl in
    absurd cc

plain_some : (ds : List ℕ) → is_plain ds ≡ true → 0 < length ds
plain_some [] e = absurd cc
plain_some (c ∷ ds) e = omega arith

digits_takes : (limit : ℕ) (bytes : List ℕ) (n : ℕ) (rest : List ℕ) → limit ≤ 2 ^ 64 → digits_taken limit bytes ≡ got n rest → (bytes ≡ decimal n ++ rest) × (n < limit)
unfolding digits_taken
digits_takes limit bytes n rest low e =
    let len = prefix_len is_digit bytes in
    let digits = take len bytes in
    let took = cond_some (is_plain digits && ltb (digits_value 10 digits) limit) (digits_value 10 digits, drop len bytes) (n, rest) e in
    let tests = and_parts (is_plain digits) (ltb (digits_value 10 digits) limit) took.0 in
    let small : digits_value 10 digits < limit = ltb-true (digits_value 10 digits) limit tests.1 in
    let spelled : decimal (digits_value 10 digits) ≡ digits = decimal-digits_value digits_model digits (passes_front is_digit bytes) (plain_some digits tests.0) (plain_zero digits tests.0) (omega arith) in
    let parts : bytes ≡ decimal (digits_value 10 digits) ++ drop len bytes = sym (take-append-drop len bytes) ∙ ap (λ (t : List ℕ). t ++ drop len bytes) (sym spelled) in
    got_is (λ m r. (bytes ≡ decimal m ++ r) × (m < limit)) (digits_value 10 digits) n (drop len bytes) rest (ap (λ p. Some p) took.1) (parts, small)

decimal_plain : (n : ℕ) → n < 2 ^ 64 → is_plain (decimal n) ≡ true
decimal_plain n low = by_cases (decimal n) refl where
  by_cases : (ds : List ℕ) → decimal n ≡ ds → is_plain ds ≡ true
  by_cases [] e = absurd (let some = decimal_nonempty n low in let none : length (decimal n) ≡ 0 = rw e refl in omega arith)
  by_cases (c ∷ []) e = refl
  by_cases (c ∷ d ∷ ds) e =
      elim (cases_lt 0 n) [
        | inl some ↦
            let high : 48 < get_or (decimal n) 0 0 = first_decimal n some low in
            let first : get_or (decimal n) 0 0 ≡ c = ap (λ (t : List ℕ). get_or t 0 0) e in
            let other : (c ≡ 48) → ⊥ = λ (same : c ≡ 48). absurd (omega arith) in
            rw (ne_eqb c 48 other) refl
        | inr none ↦
            let zero_is : n ≡ 0 = omega arith in
            let short : length (decimal n) ≡ 1 = rw (zero_is, decimal_digit 0 (omega arith)) refl in
            let long : length (decimal n) ≡ 2 + length ds = rw e (omega arith) in
            absurd (omega arith)
      ]

digits_again : (limit n : ℕ) (rest : List ℕ) → limit ≤ 2 ^ 64 → n < limit → EndsRun is_digit rest → digits_taken limit (decimal n ++ rest) ≡ got n rest
unfolding digits_taken
digits_again limit n rest low small ends =
    let len = front_again is_digit (decimal n) rest (digits_decimal digits_model n (omega arith)) ends in
    let value = digits_value-decimal digits_model n (omega arith) in
    rw (len, take_at (decimal n) rest (length (decimal n)) refl, drop_at (decimal n) rest (length (decimal n)) refl, decimal_plain n (omega arith), value, lt-ltb n limit small) refl

natural_takes : (bytes : List ℕ) (z : ℤ) (rest : List ℕ) → natural_taken bytes ≡ got z rest → (bytes ≡ signed_decimal z ++ rest) × FitsSigned w64 z
unfolding natural_taken
natural_takes bytes z rest e =
    let b = bind_some (digits_taken (2 ^ 63) bytes) (λ v. got (pos v.0) v.1) (z, rest) e in
    let took = digits_takes (2 ^ 63) bytes b.0.0 b.0.1 (omega arith) b.1 in
    got_is (λ y r. (bytes ≡ signed_decimal y ++ r) × FitsSigned w64 y) (pos b.0.0) z b.0.1 rest b.2 (took.0, record { sfits = took.1 })

-- a number that is not 0
pos_from : (n : ℕ) → (n ≡ 0 → ⊥) → 0 < n
pos_from zero h = absurd (h refl)
pos_from (suc n) h = omega arith

negative_takes : (bytes : List ℕ) (z : ℤ) (rest : List ℕ) → negative_taken bytes ≡ got z rest → (codes "-" ++ bytes ≡ signed_decimal z ++ rest) × FitsSigned w64 z
unfolding negative_taken
negative_takes bytes z rest e =
    let b = bind_some (digits_taken (2 ^ 63 + 1) bytes) (λ v. cond (eqb v.0 0) None (got (negsuc (v.0 - 1)) v.1)) (z, rest) e in
    let took = digits_takes (2 ^ 63 + 1) bytes b.0.0 b.0.1 (omega arith) b.1 in
    by_test b.0.0 b.0.1 took (eqb b.0.0 0) refl b.2 where
      by_test : (n : ℕ) (r : List ℕ) → (bytes ≡ decimal n ++ r) × (n < 2 ^ 63 + 1) → (t : Bool) → eqb n 0 ≡ t → cond t None (got (negsuc (n - 1)) r) ≡ got z rest → (codes "-" ++ bytes ≡ signed_decimal z ++ rest) × FitsSigned w64 z
      by_test n r took true here h = absurd cc
      by_test n r took false here h =
          let some : 0 < n = pos_from n (eqb-false n 0 here) in
          let whole : suc (n - 1) ≡ n = omega arith in
          got_is (λ y s. (codes "-" ++ bytes ≡ signed_decimal y ++ s) × FitsSigned w64 y) (negsuc (n - 1)) z r rest h (ap (λ (t : List ℕ). 45 ∷ t) (took.0 ∙ ap (λ (k : ℕ). decimal k ++ r) (sym whole)), record { sfits = omega arith })

signed_takes : (bytes : List ℕ) (z : ℤ) (rest : List ℕ) → signed_taken bytes ≡ got z rest → (bytes ≡ signed_decimal z ++ rest) × FitsSigned w64 z
unfolding signed_taken
signed_takes bytes z rest e =
    elim (chosen negative_taken (stripped (codes "-") bytes) (natural_taken bytes) (z, rest) e) [
      | inl b ↦
          let took = negative_takes b.0 z rest b.2 in
          (stripped_takes (codes "-") bytes b.0 b.1 ∙ took.0, took.1)
      | inr other ↦ natural_takes bytes z rest other
    ]

natural_again : (n : ℕ) (rest : List ℕ) → n < 2 ^ 63 → EndsRun is_digit rest → natural_taken (decimal n ++ rest) ≡ got (pos n) rest
unfolding natural_taken
natural_again n rest small ends =
    bind_at (digits_taken (2 ^ 63) (decimal n ++ rest)) (λ v. got (pos v.0) v.1) (n, rest) (digits_again (2 ^ 63) n rest (omega arith) small ends)

negative_again : (n : ℕ) (rest : List ℕ) → n < 2 ^ 63 → EndsRun is_digit rest → negative_taken (decimal (suc n) ++ rest) ≡ got (negsuc n) rest
unfolding negative_taken
negative_again n rest small ends =
    bind_at (digits_taken (2 ^ 63 + 1) (decimal (suc n) ++ rest)) (λ v. cond (eqb v.0 0) None (got (negsuc (v.0 - 1)) v.1)) (suc n, rest) (digits_again (2 ^ 63 + 1) (suc n) rest (omega arith) (omega arith) ends)
    ∙ cond-false (eqb (suc n) 0) None (got (negsuc (suc n - 1)) rest) (ne_eqb (suc n) 0 (λ (z : suc n ≡ 0). absurd (omega arith)))
    ∙ (let less : suc n - 1 ≡ n = omega arith in ap (λ (k : ℕ). got (negsuc k) rest) less)

-- a byte that is no digit does not stand before digits
pub stripped_other : (w : ℕ) → (w < 48) → (ds rest : List ℕ) → list_all is_digit ds ≡ true → 0 < length ds → stripped (w ∷ []) (ds ++ rest) ≡ None
unfolding stripped
stripped_other w low [] rest all some = absurd (omega arith)
stripped_other w low (c ∷ ds) rest all some =
    let digit = (and_parts (is_digit c) (list_all is_digit ds) all).0 in
    let high : 48 ≤ c = leb-true 48 c (and_parts (leb 48 c) (leb c 57) digit).0 in
    cond-false (eqb c w) (Some (ds ++ rest)) None (ne_eqb c w (λ (z : c ≡ w). absurd (omega arith)))

signed_again : (z : ℤ) (rest : List ℕ) → FitsSigned w64 z → EndsRun is_digit rest → signed_taken (signed_decimal z ++ rest) ≡ got z rest
unfolding signed_taken
signed_again (pos n) rest fits ends =
    let small : n < 2 ^ 63 = fits.sfits in
    let other = stripped_other 45 (omega arith) (decimal n) rest (digits_decimal digits_model n (omega arith)) (decimal_nonempty n (omega arith)) in
    ap (λ o. option_map_or negative_taken o (natural_taken (decimal n ++ rest))) other ∙ natural_again n rest small ends
signed_again (negsuc n) rest fits ends =
    let small : n < 2 ^ 63 = fits.sfits in
    choice_at negative_taken (stripped (codes "-") (codes "-" ++ (decimal (suc n) ++ rest))) (natural_taken (codes "-" ++ (decimal (suc n) ++ rest))) (decimal (suc n) ++ rest) (stripped_again (codes "-") (decimal (suc n) ++ rest))
    ∙ negative_again n rest small ends

pub signed_reads : Reads signed_taken signed_decimal (FitsSigned w64) (EndsRun is_digit)
signed_reads = record { takes = signed_takes; again = signed_again }
