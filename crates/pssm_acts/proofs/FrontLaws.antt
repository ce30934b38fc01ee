-- What stands at the front of a text that is written: a word, a number, a parameter or a sign, and what is left behind it.
use Rattle.std.proofs.Common.{◌≡◌, ◌≤◌, ◌<◌, ◌+◌, ◌-◌, ◌^◌, ℕ, suc, ℤ, pos, negsuc, Bool, true, false, leb, eqb, List, [], ◌∷◌, ◌++◌, length, min, get_or, refl, sym, ap, ◌∙◌, subst, arith, inl, inr, codes, if◌then◌else◌}
use Rattle.std.specs.Fmt.{decimal, signed_decimal}
use Rattle.std.specs.List.{prefix_len, list_all}
use Rattle.std.specs.Str.Parse.{digits_value}
use Rattle.std.proofs.lemmas.Bool.{cases_lt, and_parts, or_parts, leb-true, le-leb, lt-leb, lt-ltb, ne_eqb}
use Rattle.std.proofs.lemmas.Fmt.{digits_decimal, digits_value-decimal, decimal_nonempty, first_decimal, decimal_digit}
use Rattle.std.proofs.lemmas.List.{take_at, drop_at}
use Rattle.pssm_acts.specs.declared.token.Kind.{Kind}
use Rattle.pssm_acts.specs.declared.token.Kind.TheVariants as kinds
use Rattle.pssm_spelling.specs.Numbers.{is_natural, SpellsNumber, natural, negative}
use Rattle.pssm_acts.specs.ReadBack.{IsFree, IsShortNumber}
use Rattle.pssm_spelling.specs.Spelling.{begins_name, continues_name, IsName, is_name_text}
use Rattle.pssm_spelling.specs.SpellingReading.{is_digit, is_plain, starts_name, EndsRun}
use Rattle.pssm_acts.specs.Tokens.{Token, is_blank, word_kind, sign_front, negative_len, number_len, front, ends_operand, cut}
use Rattle.pssm_spelling.proofs.SpellingLaws.{front_again, name_goes_on, digits_model}
use Rattle.pssm_acts.proofs.CutLaws.{cut_token, piece_at}

-- The bytes begin with a token of such a kind and word, and others are left behind it.
pub record Begins (end : ℕ) (before : Bool) (bytes : List ℕ) (kind : Kind) (word : List ℕ) (after : Bool) (rest : List ℕ) : Type 0 where
  pub token : Token
  pub is : token.kind ≡ kind
  pub worded : token.word ≡ word
  pub same : cut end before 0 bytes ≡ token ∷ cut end after 0 rest

begins_with : (end : ℕ) (a : Bool) (word rest : List ℕ) (kind : Kind) → EndsRun is_blank word → 0 < length word → front a (word ++ rest) ≡ (kind, length word) → Begins end a (word ++ rest) kind word (ends_operand kind) rest
begins_with end a [] rest kind solid some is = absurd (omega arith)
begins_with end a (c ∷ cs) rest kind solid some is =
    let len : length (c ∷ cs) ≡ suc (length cs) = omega arith in
    let piece : Token = piece_at end kind (suc (length cs)) (c ∷ (cs ++ rest)) in
    record {
      token = piece;
      is = refl;
      worded = ap (λ t. c ∷ t) (take_at cs rest (length cs) refl);
      same = cut_token end a c (cs ++ rest) kind (length cs) solid (is ∙ ap (λ n. (kind, n)) len)
          ∙ ap (λ t. piece ∷ cut end (ends_operand kind) 0 t) (drop_at cs rest (length cs) refl);
    }

-- ---- words

-- A letter or `_` is no blank and no digit.
letter_high : (c : ℕ) → begins_name c ≡ true → 65 ≤ c
letter_high c e =
    elim (cases_lt c 65) [
      | inl low ↦
          let none : begins_name c ≡ false = rw (lt-leb 65 c (omega arith), lt-leb 97 c (omega arith), ne_eqb c 95 (λ same. omega arith)) refl in
          absurd cc
      | inr high ↦ high
    ]

-- What is no blank.
high_solid : (c : ℕ) → 33 ≤ c → is_blank c ≡ false
high_solid c high = rw (ne_eqb c 32 (λ same. omega arith), ne_eqb c 9 (λ same. omega arith), ne_eqb c 13 (λ same. omega arith), ne_eqb c 10 (λ same. omega arith)) refl

name_solid : (name : List ℕ) → is_name_text name ≡ true → EndsRun is_blank name
name_solid [] e = tt
name_solid (c ∷ cs) e = high_solid c (omega (arith, letter_high c (and_parts (begins_name c) (list_all continues_name cs) e).0))

name_some : (name : List ℕ) → is_name_text name ≡ true → 0 < length name
name_some [] e = absurd cc
name_some (c ∷ cs) e = omega arith

name_starts : (name rest : List ℕ) → is_name_text name ≡ true → starts_name (name ++ rest) ≡ true
name_starts [] rest e = absurd cc
name_starts (c ∷ cs) rest e = (and_parts (begins_name c) (list_all continues_name cs) e).0

front_word : (a : Bool) (w rest : List ℕ) → IsName w → EndsRun continues_name rest → front a (w ++ rest) ≡ (word_kind w, length w)
unfolding front
front_word a w rest name ends =
    let n = front_again continues_name w rest (name_goes_on w name.spelled) ends in
    let few : min (length w) 64 ≡ length w = omega (arith, name.short) in
    rw (name_starts w rest name.spelled, n, few, take_at w rest (length w) refl) refl

-- A word stands before what does not go on with it.
pub word_begins : (end : ℕ) (a : Bool) (w rest : List ℕ) → IsName w → EndsRun continues_name rest → Begins end a (w ++ rest) (word_kind w) w (ends_operand (word_kind w)) rest
word_begins end a w rest name ends = begins_with end a w rest (word_kind w) (name_solid w name.spelled) (name_some w name.spelled) (front_word a w rest name ends)

pub name_begins : (end : ℕ) (a : Bool) (name rest : List ℕ) → IsName name → IsFree name → EndsRun continues_name rest → Begins end a (name ++ rest) kinds.Name name true rest
name_begins end a name rest is free ends = subst (λ kind. Begins end a (name ++ rest) kind name (ends_operand kind) rest) free (word_begins end a name rest is ends)

-- ---- numbers

-- What no name goes on with, no number goes on with.
digits_end : (rest : List ℕ) → EndsRun continues_name rest → EndsRun is_digit rest
digits_end [] ends = tt
digits_end (c ∷ cs) ends = (or_parts (begins_name c) (is_digit c) ends).1

digit_range : (c : ℕ) → is_digit c ≡ true → (48 ≤ c) × (c ≤ 57)
digit_range c e = let both = and_parts (leb 48 c) (leb c 57) e in (leb-true 48 c both.0, leb-true c 57 both.1)

digit_unnamed : (c : ℕ) → is_digit c ≡ true → begins_name c ≡ false
digit_unnamed c e =
    let range = digit_range c e in
    let high = range.1 in
    rw (lt-leb 65 c (omega arith), lt-leb 97 c (omega arith), ne_eqb c 95 (λ same. omega arith)) refl

front_number : (a : Bool) (bytes : List ℕ) (n : ℕ) → starts_name bytes ≡ false → number_len a bytes ≡ n → 0 < n → front a bytes ≡ (kinds.Number, n)
unfolding front
front_number a bytes n unnamed is some = rw (unnamed, is, lt-ltb 0 n some) refl

front_natural : (a : Bool) (digits rest : List ℕ) → list_all is_digit digits ≡ true → 0 < length digits → EndsRun is_digit rest → front a (digits ++ rest) ≡ (kinds.Number, length digits)
unfolding number_len
front_natural a [] rest all some ends = absurd (omega arith)
front_natural a (d ∷ ds) rest all some ends =
    let digit = (and_parts (is_digit d) (list_all is_digit ds) all).0 in
    let range = digit_range d digit in
    let low = range.0 in
    let plain : eqb d 45 ≡ false = ne_eqb d 45 (λ same. omega arith) in
    let len : number_len a (d ∷ (ds ++ rest)) ≡ length (d ∷ ds) =
    ap (λ b. if b then negative_len a (prefix_len is_digit (ds ++ rest)) else prefix_len is_digit (d ∷ (ds ++ rest))) plain
    ∙ front_again is_digit (d ∷ ds) rest all ends in
    front_number a (d ∷ (ds ++ rest)) (length (d ∷ ds)) (digit_unnamed d digit) len some

front_negative : (digits rest : List ℕ) → list_all is_digit digits ≡ true → 0 < length digits → EndsRun is_digit rest → front false (45 ∷ (digits ++ rest)) ≡ (kinds.Number, length (45 ∷ digits))
unfolding number_len
front_negative digits rest all some ends =
    let all_len : prefix_len is_digit (digits ++ rest) ≡ length digits = front_again is_digit digits rest all ends in
    let other : eqb (length digits) 0 ≡ false = ne_eqb (length digits) 0 (λ same. omega arith) in
    let len : number_len false (45 ∷ (digits ++ rest)) ≡ length (45 ∷ digits) = ap (λ n. negative_len false n) all_len ∙ ap (λ b. if b then 0 else 1 + length digits) other ∙ omega arith in
    front_number false (45 ∷ (digits ++ rest)) (length (45 ∷ digits)) refl len (omega arith)

digits_solid : (digits : List ℕ) → list_all is_digit digits ≡ true → EndsRun is_blank digits
digits_solid [] all = tt
digits_solid (d ∷ ds) all = let range = digit_range d (and_parts (is_digit d) (list_all is_digit ds) all).0 in let low = range.0 in high_solid d (omega arith)

-- A number stands before what does not go on with it, and behind no operand.
pub number_begins : (end : ℕ) (n : ℤ) (rest : List ℕ) → IsShortNumber n → EndsRun continues_name rest → Begins end false (signed_decimal n ++ rest) kinds.Number (signed_decimal n) true rest
number_begins end (pos n) rest short ends =
    let all = digits_decimal digits_model n (omega arith) in
    let some = decimal_nonempty n (omega arith) in
    begins_with end false (decimal n) rest kinds.Number (digits_solid (decimal n) all) some (front_natural false (decimal n) rest all some (digits_end rest ends))
number_begins end (negsuc n) rest short ends =
    let all = digits_decimal digits_model (suc n) (omega arith) in
    let some = decimal_nonempty (suc n) (omega arith) in
    begins_with end false (45 ∷ decimal (suc n)) rest kinds.Number refl (omega arith) (front_negative (decimal (suc n)) rest all some (digits_end rest ends))

decimal_plain : (n : ℕ) → n < 2 ^ 64 → is_plain (decimal n) ≡ true
decimal_plain n low = by_cases (decimal n) refl where
  by_cases : (ds : List ℕ) → decimal n ≡ ds → is_plain ds ≡ true
  by_cases [] e = absurd (let some = decimal_nonempty n low in let none : length (decimal n) ≡ 0 = rw e refl in omega arith)
  by_cases (c ∷ []) e = refl
  by_cases (c ∷ d ∷ ds) e =
      elim (cases_lt 0 n) [
        | inl some ↦
            let high : 48 < get_or (decimal n) 0 0 = first_decimal n some low in
            let first : get_or (decimal n) 0 0 ≡ c = ap (λ (t : List ℕ). get_or t 0 0) e in
            let other : (c ≡ 48) → ⊥ = λ (same : c ≡ 48). absurd (omega arith) in
            rw (ne_eqb c 48 other) refl
        | inr none ↦
            let zero_is : n ≡ 0 = omega arith in
            let short : length (decimal n) ≡ 1 = rw (zero_is, decimal_digit 0 (omega arith)) refl in
            let long : length (decimal n) ≡ 2 + length ds = rw e (omega arith) in
            absurd (omega arith)
      ]

decimal_natural : (n : ℕ) → n < 2 ^ 64 → is_natural (decimal n) ≡ true
decimal_natural n low = rw (decimal_plain n low, digits_decimal digits_model n low) refl

-- What is written of a number spells it.
pub written_number : (n : ℤ) → IsShortNumber n → SpellsNumber (signed_decimal n) n
written_number (pos n) short =
    let value : digits_value 10 (decimal n) ≡ n = digits_value-decimal digits_model n (omega arith) in
    subst (λ v. SpellsNumber (decimal n) (pos v)) value (natural (decimal_natural n (omega arith)) (omega arith))
written_number (negsuc n) short =
    let value : digits_value 10 (decimal (suc n)) ≡ suc n = digits_value-decimal digits_model (suc n) (omega arith) in
    negative (decimal_natural (suc n) (omega arith)) value (omega arith)

-- ---- what stands behind `!`: nothing that makes `!=` of it

abbrev pub is_equals : ℕ → Bool
is_equals c = eqb c 61

pub name_unequal : (name rest : List ℕ) → IsName name → EndsRun is_equals (name ++ rest)
name_unequal [] rest is = absurd (let some = name_some [] is.spelled in omega arith)
name_unequal (c ∷ cs) rest is = let high = letter_high c (and_parts (begins_name c) (list_all continues_name cs) is.spelled).0 in ne_eqb c 61 (λ same. omega arith)

digits_unequal : (digits rest : List ℕ) → list_all is_digit digits ≡ true → 0 < length digits → EndsRun is_equals (digits ++ rest)
digits_unequal [] rest all some = absurd (omega arith)
digits_unequal (d ∷ ds) rest all some = let high = (digit_range d (and_parts (is_digit d) (list_all is_digit ds) all).0).1 in ne_eqb d 61 (λ same. omega arith)

pub number_unequal : (n : ℤ) (rest : List ℕ) → IsShortNumber n → EndsRun is_equals (signed_decimal n ++ rest)
number_unequal (pos n) rest short = digits_unequal (decimal n) rest (digits_decimal digits_model n (omega arith)) (decimal_nonempty n (omega arith))
number_unequal (negsuc n) rest short = refl

front_not : (a : Bool) (rest : List ℕ) → EndsRun is_equals rest → front a (33 ∷ rest) ≡ (kinds.Not, 1)
unfolding front number_len sign_front
front_not a [] unequal = refl
front_not a (c ∷ cs) unequal = rw unequal refl

pub not_begins : (end : ℕ) (a : Bool) (rest : List ℕ) → EndsRun is_equals rest → Begins end a (codes "!" ++ rest) kinds.Not (codes "!") false rest
not_begins end a rest unequal = begins_with end a (codes "!") rest kinds.Not refl (omega arith) (front_not a rest unequal)

-- ---- parameters

front_parameter : (a : Bool) (k : ℕ) (rest : List ℕ) → 1 ≤ k → k ≤ 8 → front a (36 ∷ (48 + k) ∷ rest) ≡ (kinds.Param k, 2)
unfolding front number_len sign_front
front_parameter a k rest low high =
    let back : 48 + k - 48 ≡ k = omega arith in
    rw (le-leb 49 (48 + k) (omega arith), le-leb (48 + k) 56 (omega arith), back) refl

-- A parameter stands anywhere.
pub parameter_begins : (end : ℕ) (a : Bool) (k : ℕ) (rest : List ℕ) → 1 ≤ k → k ≤ 8 → Begins end a (codes "$" ++ decimal k ++ rest) (kinds.Param k) (codes "$" ++ decimal k) true rest
parameter_begins end a k rest low high =
    let is : decimal k ≡ (48 + k) ∷ [] = decimal_digit k (omega arith) in
    subst (λ d. Begins end a (codes "$" ++ d ++ rest) (kinds.Param k) (codes "$" ++ d) true rest) (sym is)
    (begins_with end a (36 ∷ (48 + k) ∷ []) rest (kinds.Param k) refl (omega arith) (front_parameter a k rest low high))
