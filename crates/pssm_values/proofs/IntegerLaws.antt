-- A word is read as an integer exactly where it spells it.
use Rattle.std.proofs.Common.{◌≡◌, ◌↔◌, ◌<◌, ◌≤◌, ◌^◌, ℕ, suc, zero, ℤ, pos, negsuc, Bool, true, false, cond, eqb, ltb, leb, List, [], ◌∷◌, Option, Some, None, IsTrue, refl, sym, subst, ◌∙◌, arith}
use Rattle.std.specs.List.{list_all}
use Rattle.std.specs.Str.Parse.{digits_value}
use Rattle.std.proofs.lemmas.Bool.{and_parts, eqb-true, ltb-true, leb-true, lt-ltb}
use Rattle.pssm_spelling.specs.SpellingReading.{is_digit, is_plain}
use Rattle.pssm_spelling.specs.Numbers.{is_natural, SpellsNumber, natural, negative}
use Rattle.pssm_values.specs.inner.IntegerReading.{natural_read, negative_value, negative_read, integer_read}

-- what a choice gives where it gives something
chosen_some : (t : Bool) (o : Option ℤ) (n : ℤ) → cond t o None ≡ Some n → (t ≡ true) × (o ≡ Some n)
chosen_some true o n e = (refl, e)
chosen_some false o n e = absurd cc

some_is : (m n : ℤ) → Some m ≡ Some n → m ≡ n
some_is m n e = cc

natural_takes : (ds : List ℕ) (n : ℤ) → natural_read ds ≡ Some n → SpellsNumber ds n
unfolding natural_read
natural_takes ds n e =
    let v = digits_value 10 ds in
    let found = chosen_some (is_natural ds) (cond (ltb v (2 ^ 63)) (Some (pos v)) None) n e in
    let low = chosen_some (ltb v (2 ^ 63)) (Some (pos v)) n found.1 in
    let small : v < 2 ^ 63 = ltb-true v (2 ^ 63) low.0 in
    subst (SpellsNumber ds) (some_is (pos v) n low.1) (natural found.0 small)

negative_takes : (ds : List ℕ) (n : ℤ) → negative_read ds ≡ Some n → SpellsNumber (45 ∷ ds) n
unfolding negative_read
negative_takes ds n e =
    let found = chosen_some (is_natural ds) (negative_value (digits_value 10 ds)) n e in by_value (digits_value 10 ds) refl found.0 found.1 where
      by_value : (v : ℕ) → digits_value 10 ds ≡ v → is_natural ds ≡ true → negative_value v ≡ Some n → SpellsNumber (45 ∷ ds) n
      by_value zero is plain e = absurd cc
      by_value (suc v) is plain e =
          let low = chosen_some (ltb v (2 ^ 63)) (Some (negsuc v)) n e in
          let small : v < 2 ^ 63 = ltb-true v (2 ^ 63) low.0 in
          subst (SpellsNumber (45 ∷ ds)) (some_is (negsuc v) n low.1) (negative plain is (omega arith))

takes : (word : List ℕ) (n : ℤ) → integer_read word ≡ Some n → SpellsNumber word n
unfolding integer_read
takes [] n e = natural_takes [] n e
takes (c ∷ cs) n e = by_sign (eqb c 45) refl e where
  by_sign : (t : Bool) → eqb c 45 ≡ t → cond t (negative_read cs) (natural_read (c ∷ cs)) ≡ Some n → SpellsNumber (c ∷ cs) n
  by_sign true is e = subst (λ (d : ℕ). SpellsNumber (d ∷ cs) n) (sym (eqb-true c 45 is)) (negative_takes cs n e)
  by_sign false is e = natural_takes (c ∷ cs) n e

-- no digits begin with a `-`
minus_first : (c : ℕ) (cs : List ℕ) → is_natural (c ∷ cs) ≡ true → c ≡ 45 → ⊥
minus_first c cs plain is =
    let both = and_parts (is_plain (c ∷ cs)) (list_all is_digit (c ∷ cs)) plain in
    let first = and_parts (is_digit c) (list_all is_digit cs) both.1 in
    let tests = and_parts (leb 48 c) (leb c 57) first.0 in
    let low : 48 ≤ c = leb-true 48 c tests.0 in
    omega arith

gives : (word : List ℕ) (n : ℤ) → SpellsNumber word n → integer_read word ≡ Some n
unfolding integer_read natural_read negative_read
gives word n (natural {digits} plain small) = go digits plain small where
  go : (ds : List ℕ) → IsTrue (is_natural ds) → digits_value 10 ds < 2 ^ 63 → integer_read ds ≡ Some (pos (digits_value 10 ds))
  go [] plain small = absurd cc
  go (c ∷ cs) plain small = go_first (eqb c 45) refl where
    go_first : (b : Bool) → eqb c 45 ≡ b → integer_read (c ∷ cs) ≡ Some (pos (digits_value 10 (c ∷ cs)))
    go_first true e = absurd (minus_first c cs plain (eqb-true c 45 e))
    go_first false e = rw (e, plain, lt-ltb (digits_value 10 (c ∷ cs)) (2 ^ 63) small) refl
gives word n (negative {digits} {below} plain some small) = rw (plain, some, lt-ltb below (2 ^ 63) (omega arith)) refl

pub reads_what_is_spelled : (word : List ℕ) (n : ℤ) (r : Option ℤ) → r ≡ integer_read word → (r ≡ Some n) ↔ SpellsNumber word n
reads_what_is_spelled word n r is = (λ e. takes word n (sym is ∙ e), λ s. is ∙ gives word n s)
