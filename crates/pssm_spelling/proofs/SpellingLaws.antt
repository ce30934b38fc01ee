-- What is taken from the front of a text is spelled so, and what is spelled so is taken again.
use Rattle.std.proofs.Common.{◌≡◌, ℕ, suc, ◌+◌, ◌-◌, ◌*◌, ◌<◌, ◌≤◌, Bool, true, false, cond, eqb, ltb, leb, ◌&&◌, List, [], ◌∷◌, ◌++◌, length, get_or, take, drop, Option, Some, None, refl, sym, ap, subst, ◌∙◌, arith, rules, inl, inr}
use Rattle.std.specs.Prelude.{MatchOption}
use Rattle.std.specs.List.{prefix_len, list_all}
use Rattle.std.specs.Int.{IsInRange}
use Rattle.std.specs.Char.{digit_value}
use Rattle.std.specs.Option.{option_copied}
use Rattle.std.specs.Cmp.Lexicographic.{pointwise}
use Rattle.std.proofs.Common.{Bor}
use Rattle.std.proofs.lemmas.Bool.Decides.{Decides-eqb}
use Rattle.std.proofs.lemmas.Slice.Eq.{strip_prefix_is}
use Rattle.std.specs.Fmt.{decimal}
use Rattle.std.specs.Str.Parse.{digits_value}
use Rattle.std.proofs.lemmas.Bool.{cases_lt, le-ltb, and_parts, and_from, leb-true, ltb-true, le-leb, lt-ltb, eqb-true, ne_eqb, not-true, cond-true, cond-false}
use Rattle.std.proofs.lemmas.List.{take_at, drop_at, take-append-drop, length-take-le}
use Rattle.std.proofs.lemmas.List.Sums.{prefix_len-le-length}
use Rattle.std.proofs.lemmas.Option.{cond_some}
use Rattle.std.proofs.lemmas.Str.Parse.{digit_at, IsNumeralModel, IsDigitsTest, numerals_by_value}
use Rattle.std.proofs.lemmas.Int.Digits.{digits_value_more}
use Rattle.std.proofs.lemmas.Fmt.{decimal-digits_value, digits_decimal, digits_value-decimal, length-decimal-le, decimal_nonempty, first_decimal, decimal_digit}
use Rattle.pssm_spelling.specs.Spelling.{begins_name, continues_name, is_name_text, IsName}
use Rattle.pssm_spelling.specs.SpellingReading.{is_digit, EndsRun, stripped, starts_name, name_taken, is_plain, number_below}

-- ---- fixed fronts

pub stripped_takes : (front bytes rest : List ℕ) → stripped front bytes ≡ Some rest → bytes ≡ front ++ rest
unfolding stripped
stripped_takes [] bytes rest e = cc
stripped_takes (c ∷ front) [] rest e = absurd cc
stripped_takes (c ∷ front) (b ∷ bytes) rest e = head_by (eqb b c) refl e (stripped_takes front bytes rest) where
  head_by : (t : Bool) → eqb b c ≡ t → cond t (stripped front bytes) None ≡ Some rest → (stripped front bytes ≡ Some rest → bytes ≡ front ++ rest) → b ∷ bytes ≡ (c ∷ front) ++ rest
  head_by true same e more =
      let head : b ≡ c = eqb-true b c same in
      let tail : bytes ≡ front ++ rest = more e in
      cc
  head_by false same e more = absurd cc

pub stripped_again : (front rest : List ℕ) → stripped front (front ++ rest) ≡ Some rest
unfolding stripped
stripped_again [] rest = refl
stripped_again (c ∷ front) rest = cond-true (eqb c c) (stripped front (front ++ rest)) None (search rules) ∙ stripped_again front rest

-- ---- the longest front of one kind

pub passes_front : (p : ℕ → Bool) (xs : List ℕ) → list_all p (take (prefix_len p xs) xs) ≡ true
passes_front p [] = refl
passes_front p (x ∷ xs) = by_head (p x) refl (passes_front p xs) where
  by_head : (t : Bool) → p x ≡ t → list_all p (take (prefix_len p xs) xs) ≡ true → list_all p (take (cond t (1 + prefix_len p xs) 0) (x ∷ xs)) ≡ true
  by_head true here more = let n : 1 + prefix_len p xs ≡ suc (prefix_len p xs) = omega arith in rw (n, here) more
  by_head false here more = refl

pub ends_after : (p : ℕ → Bool) (xs : List ℕ) → EndsRun p (drop (prefix_len p xs) xs)
ends_after p [] = tt
ends_after p (x ∷ xs) = by_head (p x) refl (ends_after p xs) where
  by_head : (t : Bool) → p x ≡ t → EndsRun p (drop (prefix_len p xs) xs) → EndsRun p (drop (cond t (1 + prefix_len p xs) 0) (x ∷ xs))
  by_head true here more = let n : 1 + prefix_len p xs ≡ suc (prefix_len p xs) = omega arith in rw n more
  by_head false here more = here

pub front_again : (p : ℕ → Bool) (text rest : List ℕ) → list_all p text ≡ true → EndsRun p rest → prefix_len p (text ++ rest) ≡ length text
front_again p [] [] all ends = refl
front_again p [] (c ∷ rest) all ends = cond-false (p c) (1 + prefix_len p rest) 0 ends
front_again p (x ∷ text) rest all ends =
    let both = and_parts (p x) (list_all p text) all in
    cond-true (p x) (1 + prefix_len p (text ++ rest)) 0 both.0 ∙ (let more = front_again p text rest both.1 ends in omega arith)

-- ---- names

name_text_from : (bytes : List ℕ) → starts_name bytes ≡ true → is_name_text (take (prefix_len continues_name bytes) bytes) ≡ true
name_text_from [] e = absurd cc
name_text_from (c ∷ bytes) e =
    let goes_on : continues_name c ≡ true = rw e refl in
    let n : cond (continues_name c) (1 + prefix_len continues_name bytes) 0 ≡ suc (prefix_len continues_name bytes) = cond-true (continues_name c) (1 + prefix_len continues_name bytes) 0 goes_on ∙ omega arith in
    rw n (and_from (begins_name c) (list_all continues_name (take (prefix_len continues_name bytes) bytes)) e (passes_front continues_name bytes))

-- what a reader took from the front: a name, and what does not go on with it
pub record IsNameFront (bytes text rest : List ℕ) : Type 0 where
  pub parts : bytes ≡ text ++ rest
  pub name : IsName text
  pub ends : EndsRun continues_name rest

pub name_takes : (bytes text rest : List ℕ) → name_taken bytes ≡ Some (text, rest) → IsNameFront bytes text rest
unfolding name_taken
name_takes bytes text rest e =
    let n = prefix_len continues_name bytes in
    let took = cond_some (starts_name bytes && leb n 64) (take n bytes, drop n bytes) (text, rest) e in
    let tests = and_parts (starts_name bytes) (leb n 64) took.0 in
    let few : length (take n bytes) ≤ 64 = omega (arith, leb-true n 64 tests.1, length-take-le n bytes (prefix_len-le-length continues_name bytes)) in
    let whole : IsNameFront bytes (take n bytes) (drop n bytes) = record { parts = sym (take-append-drop n bytes); name = record { spelled = name_text_from bytes tests.0; short = few }; ends = ends_after continues_name bytes } in
    subst (λ (x : List ℕ × List ℕ). IsNameFront bytes x.0 x.1) took.1 whole

pub name_goes_on : (text : List ℕ) → is_name_text text ≡ true → list_all continues_name text ≡ true
name_goes_on [] e = refl
name_goes_on (c ∷ cs) e =
    let both = and_parts (begins_name c) (list_all continues_name cs) e in
    and_from (continues_name c) (list_all continues_name cs) (rw both.0 refl) both.1

name_starts_on : (text rest : List ℕ) → is_name_text text ≡ true → starts_name (text ++ rest) ≡ true
name_starts_on [] rest e = absurd cc
name_starts_on (c ∷ cs) rest e = (and_parts (begins_name c) (list_all continues_name cs) e).0

pub name_again : (text rest : List ℕ) → IsName text → EndsRun continues_name rest → name_taken (text ++ rest) ≡ Some (text, rest)
unfolding name_taken
name_again text rest name ends =
    let n = front_again continues_name text rest (name_goes_on text name.spelled) ends in
    rw (n, name_starts_on text rest name.spelled, le-leb (length text) 64 name.short, take_at text rest (length text) refl, drop_at text rest (length text) refl) refl

-- ---- numbers

digits_test : IsDigitsTest (λ ds. list_all is_digit ds ≡ true)
digits_test = record {
  empty = refl;
  parts = λ c cs h.
      let both = and_parts (is_digit c) (list_all is_digit cs) h in
      let range = and_parts (leb 48 c) (leb c 57) both.0 in
      ((leb-true 48 c range.0, leb-true c 57 range.1), both.1);
  more = λ c cs here others. and_from (is_digit c) (list_all is_digit cs) (and_from (leb 48 c) (leb c 57) (le-leb 48 c here.0) (le-leb c 57 here.1)) others;
}

pub digits_model : IsNumeralModel (λ ds. list_all is_digit ds ≡ true) (digits_value 10)
digits_model = numerals_by_value _ digits_test

plain_zero : (ds : List ℕ) → is_plain ds ≡ true → get_or ds 0 0 ≡ 48 → length ds ≡ 1
plain_zero [] e zero_first = absurd cc
plain_zero (c ∷ []) e zero_first = refl
plain_zero (c ∷ d ∷ ds) e zero_first =
    let other = not-true (eqb c 48) e in
    let same : eqb c 48 ≡ true = rw zero_first refl in
    absurd cc

plain_some : (ds : List ℕ) → is_plain ds ≡ true → 0 < length ds
plain_some [] e = absurd cc
plain_some (c ∷ ds) e = omega arith

-- what a reader took from the front: a number below the limit, and what does not go on with it
pub record IsNumberFront (limit : ℕ) (bytes : List ℕ) (n : ℕ) (rest : List ℕ) : Type 0 where
  pub parts : bytes ≡ decimal n ++ rest
  pub small : n < limit
  pub ends : EndsRun is_digit rest

pub number_takes : (limit : ℕ) (bytes : List ℕ) (n : ℕ) (rest : List ℕ) → limit ≤ 4294967296 → number_below limit bytes ≡ Some (n, rest) → IsNumberFront limit bytes n rest
unfolding number_below
number_takes limit bytes n rest low e =
    let len = prefix_len is_digit bytes in
    let digits = take len bytes in
    let took = cond_some (leb len 10 && is_plain digits && ltb (digits_value 10 digits) limit) (digits_value 10 digits, drop len bytes) (n, rest) e in
    let tests = and_parts (leb len 10 && is_plain digits) (ltb (digits_value 10 digits) limit) took.0 in
    let shape = and_parts (leb len 10) (is_plain digits) tests.0 in
    let small : digits_value 10 digits < limit = ltb-true (digits_value 10 digits) limit tests.1 in
    let spelled : decimal (digits_value 10 digits) ≡ digits = decimal-digits_value digits_model digits (passes_front is_digit bytes) (plain_some digits shape.1) (plain_zero digits shape.1) (omega arith) in
    let whole : IsNumberFront limit bytes (digits_value 10 digits) (drop len bytes) = record { parts = sym (take-append-drop len bytes) ∙ ap (λ (t : List ℕ). t ++ drop len bytes) (sym spelled); small = small; ends = ends_after is_digit bytes } in
    subst (λ (x : ℕ × List ℕ). IsNumberFront limit bytes x.0 x.1) took.1 whole

decimal_plain : (n : ℕ) → n < 4294967296 → is_plain (decimal n) ≡ true
decimal_plain n low = by_cases (decimal n) refl where
  by_cases : (ds : List ℕ) → decimal n ≡ ds → is_plain ds ≡ true
  by_cases [] e = absurd (let some = decimal_nonempty n (omega arith) in let none : length (decimal n) ≡ 0 = rw e refl in omega arith)
  by_cases (c ∷ []) e = refl
  by_cases (c ∷ d ∷ ds) e =
      elim (cases_lt 0 n) [
        | inl some ↦
            let high : 48 < get_or (decimal n) 0 0 = first_decimal n some (omega arith) in
            let first : get_or (decimal n) 0 0 ≡ c = ap (λ (t : List ℕ). get_or t 0 0) e in
            let other : (c ≡ 48) → ⊥ = λ (same : c ≡ 48). absurd (omega arith) in
            rw (ne_eqb c 48 other) refl
        | inr none ↦
            let zero_is : n ≡ 0 = omega arith in
            let short : length (decimal n) ≡ 1 = rw (zero_is, decimal_digit 0 (omega arith)) refl in
            let long : length (decimal n) ≡ 2 + length ds = rw e (omega arith) in
            absurd (omega arith)
      ]

pub number_again : (limit n : ℕ) (rest : List ℕ) → limit ≤ 4294967296 → n < limit → EndsRun is_digit rest → number_below limit (decimal n ++ rest) ≡ Some (n, rest)
unfolding number_below
number_again limit n rest low small ends =
    let len = front_again is_digit (decimal n) rest (digits_decimal digits_model n (omega arith)) ends in
    let few : length (decimal n) ≤ 10 = length-decimal-le 10 n (omega arith) (omega arith) (omega arith) in
    let value = digits_value-decimal digits_model n (omega arith) in
    rw (len, take_at (decimal n) rest (length (decimal n)) refl, drop_at (decimal n) rest (length (decimal n)) refl, le-leb (length (decimal n)) 10 few, decimal_plain n (omega arith), value, lt-ltb n limit small) refl

-- what std's `strip_prefix` says of two slices of bytes
pub strip_gives : (front bytes : List ℕ) (r : Option (Bor (List ℕ))) → MatchOption r (pointwise eqb (take (length front) bytes) front ≡ false) (λ x. (pointwise eqb (take (length front) bytes) front ≡ true) × (x.now ≡ drop (length front) bytes) × (length x.now + length front ≡ length bytes)) → option_copied r ≡ stripped front bytes
strip_gives front bytes None h = sym (not_stripped (stripped front bytes) refl) where
  not_stripped : (o : Option (List ℕ)) → stripped front bytes ≡ o → stripped front bytes ≡ None
  not_stripped None e = e
  not_stripped (Some rest) e = absurd (strip_prefix_is Decides-eqb bytes front None h rest (stripped_takes front bytes rest e))
strip_gives front bytes (Some x) h =
    let parts : bytes ≡ front ++ x.now = strip_prefix_is Decides-eqb bytes front (Some x) h in
    sym (ap (λ (t : List ℕ). stripped front t) parts ∙ stripped_again front x.now)

-- the value of a digit
pub digit_value_is : (c : ℕ) → IsInRange 48 57 c → digit_value c ≡ c - 48
digit_value_is c range = let low = range.0 in let high = range.1 in rw (le-ltb c 48 low, lt-ltb c 58 (omega arith)) refl

-- one more digit
pub digit_more : (ds : List ℕ) (i : ℕ) → list_all is_digit ds ≡ true → i < length ds → digits_value 10 (take (i + 1) ds) ≡ digits_value 10 (take i ds) * 10 + (get_or ds i 0 - 48)
digit_more ds i all within =
    let range = digit_at ds i (digits_model.to ds all) within in
    digits_value_more 10 ds i within ∙ ap (λ (d : ℕ). digits_value 10 (take i ds) * 10 + d) (digit_value_is (get_or ds i 0) range)

pub digit_low : (ds : List ℕ) (i : ℕ) → list_all is_digit ds ≡ true → i < length ds → 48 ≤ get_or ds i 0
digit_low ds i all within = (digit_at ds i (digits_model.to ds all) within).0

-- the digits at the front are digits
pub digits_front : (bytes : List ℕ) → list_all is_digit (take (prefix_len is_digit bytes) bytes) ≡ true
digits_front bytes = passes_front is_digit bytes
