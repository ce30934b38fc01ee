-- What spells a number is read as that number.
use Rattle.std.proofs.Common.{◌≡◌, ◌<◌, ℕ, suc, zero, ◌^◌, ℤ, pos, negsuc, true, false, Bool, List, [], ◌∷◌, Ok, Err, IsTrue, refl, sym, arith, eqb, ltb, subst, if◌then◌else◌}
use Rattle.std.specs.List.{list_all}
use Rattle.std.specs.Str.Parse.{digits_value}
use Rattle.pssm_spelling.specs.SpellingReading.{is_digit, is_plain}
use Rattle.std.proofs.lemmas.Bool.{and_parts, lt-ltb, ltb-true, eqb-true}
use Rattle.pssm_acts.specs.declared.act_fault.ActFault.TheVariants.{Syntax, WideNumber}
use Rattle.pssm_spelling.specs.Numbers.{is_natural, SpellsNumber, natural, negative}
use Rattle.pssm_acts.specs.inner.NumberReading.{natural_read, negative_value, negative_read, number_read}

-- No digits begin with `-`.
pub minus_first : (c : ℕ) (cs : List ℕ) → is_natural (c ∷ cs) ≡ true → c ≡ 45 → ⊥
minus_first c cs plain is =
    let digits : list_all is_digit (c ∷ cs) ≡ true = (and_parts (is_plain (c ∷ cs)) (list_all is_digit (c ∷ cs)) plain).1 in
    let minus : list_all is_digit (45 ∷ cs) ≡ true = rw is at digits in
    cc

-- What spells a number is read as that number.
pub number_spelled : (at : ℕ) (word : List ℕ) (n : ℤ) → SpellsNumber word n → number_read at word ≡ Ok n
unfolding number_read natural_read negative_read
number_spelled at word n (natural {digits} plain small) = go digits plain small where
  go : (ds : List ℕ) → IsTrue (is_natural ds) → digits_value 10 ds < 2 ^ 63 → number_read at ds ≡ Ok (pos (digits_value 10 ds))
  go [] plain small = absurd cc
  go (c ∷ cs) plain small = go_first (eqb c 45) refl where
    go_first : (b : Bool) → (eqb c 45) ≡ b → number_read at (c ∷ cs) ≡ Ok (pos (digits_value 10 (c ∷ cs)))
    go_first true e = absurd (minus_first c cs plain (eqb-true c 45 e))
    go_first false e = rw (e, plain, lt-ltb (digits_value 10 (c ∷ cs)) (2 ^ 63) small) refl
number_spelled at word n (negative {digits} {below} plain some small) =
    rw (plain, some, lt-ltb below (2 ^ 63) (omega arith)) refl

-- What is read as a number spells it.
spelled_natural : (at : ℕ) (ds : List ℕ) (n : ℤ) → natural_read at ds ≡ Ok n → SpellsNumber ds n
unfolding natural_read
spelled_natural at ds n read = go (is_natural ds) refl (ltb (digits_value 10 ds) (2 ^ 63)) refl read where
  go : (p : Bool) → is_natural ds ≡ p → (q : Bool) → ltb (digits_value 10 ds) (2 ^ 63) ≡ q
      → (if p then (if q then Ok (pos (digits_value 10 ds)) else Err (WideNumber at)) else Err (Syntax at)) ≡ Ok n → SpellsNumber ds n
  go true plain true small is = let same : pos (digits_value 10 ds) ≡ n = cc in subst (λ x. SpellsNumber ds x) same (natural plain (ltb-true (digits_value 10 ds) (2 ^ 63) small))
  go true plain false small is = absurd cc
  go false plain q small is = absurd cc

spelled_negative : (at : ℕ) (ds : List ℕ) (n : ℤ) → negative_read at ds ≡ Ok n → SpellsNumber (45 ∷ ds) n
unfolding negative_read
spelled_negative at ds n read = go (is_natural ds) refl (digits_value 10 ds) refl read where
  below : (v : ℕ) → digits_value 10 ds ≡ suc v → is_natural ds ≡ true → (q : Bool) → ltb v (2 ^ 63) ≡ q → (if q then Ok (negsuc v) else Err (WideNumber at)) ≡ Ok n → SpellsNumber (45 ∷ ds) n
  below v value plain true small is =
      let less : v < 2 ^ 63 = ltb-true v (2 ^ 63) small in
      let same : negsuc v ≡ n = cc in
      subst (λ x. SpellsNumber (45 ∷ ds) x) same (negative plain value (omega arith))
  below v value plain false small is = absurd cc

  go : (p : Bool) → is_natural ds ≡ p → (v : ℕ) → digits_value 10 ds ≡ v → (if p then negative_value at v else Err (Syntax at)) ≡ Ok n → SpellsNumber (45 ∷ ds) n
  go true plain zero value is = absurd cc
  go true plain (suc v) value is = below v value plain (ltb v (2 ^ 63)) refl is
  go false plain v value is = absurd cc

pub spelled_number : (at : ℕ) (word : List ℕ) (n : ℤ) → number_read at word ≡ Ok n → SpellsNumber word n
unfolding number_read
spelled_number at [] n read = spelled_natural at [] n read
spelled_number at (c ∷ cs) n read = go (eqb c 45) refl read where
  go : (b : Bool) → eqb c 45 ≡ b → (if b then negative_read at cs else natural_read at (c ∷ cs)) ≡ Ok n → SpellsNumber (c ∷ cs) n
  go true e is = subst (λ x. SpellsNumber (x ∷ cs) n) (sym (eqb-true c 45 e)) (spelled_negative at cs n is)
  go false e is = spelled_natural at (c ∷ cs) n is
