-- Escapes: what is taken is spelled so, and what is spelled so is taken.
use Rattle.std.proofs.Common.{◌≡◌, ◌≢◌, ◌<◌, ◌≤◌, inl, inr, ℕ, ◌+◌, ◌*◌, min, Bool, true, false, cond, eqb, not, ◌||◌, ◌&&◌, List, [], ◌∷◌, ◌++◌, Option, Some, None, refl, sym, ◌∙◌, ap, subst, arith, append_assoc}
use Rattle.std.specs.Prelude.{option_map, option_and_then, ◌==◌, nat_le, codes, bytes_eq, encode_utf8}
use Rattle.std.specs.List.{list_all}
use Rattle.std.specs.Char.{digit_value}
use Rattle.std.specs.Str.Parse.{digits_value, digits_value_after}
use Rattle.std.proofs.lemmas.Str.{encode_ascii}
use Rattle.std.proofs.lemmas.Bool.{and_parts, and_from, or_cases, or_right, eqb-true, ne_eqb, leb-true, le-leb, not-true, not_from_false, cond-true, cases_lt, ltb-true}
use Rattle.std.proofs.lemmas.Slice.Eq.{bytes_eq-Decides}
use lib.Utf8.{scalar, scalar_cases}
use Rattle.pssm_spelling.specs.SpellingReading.{stripped}
use Rattle.pssm_spelling.proofs.SpellingLaws.{stripped_takes, stripped_again}
use Rattle.pssm_xml.specs.Characters.{IsCharacter}
use Rattle.pssm_xml.specs.Pieces.{is_digit_of, AreDigitsOf, SpellsEscape}
use Rattle.pssm_xml.specs.inner.Reading.{is_other, is_xml, split_byte, number_after, character_of, code_of_digits, code_behind, code_of_number, code_of_escape, escape_taken}
use Rattle.pssm_xml.proofs.RunLaws.{then_some, map_some, test_some, some_same, clash, byte_again, byte_takes, not_taken}

-- ---- characters

-- what XML has is a character, where it is the code of one
pub character_from : (c : ℕ) → scalar c ≡ true → is_xml c ≡ true → IsCharacter c
character_from c code is =
    elim (or_cases ((c == 9) || (c == 10) || (c == 13)) (nat_le 32 c && not (c == 65534) && not (c == 65535)) is) [
      | inl control ↦ IsCharacter.control control
      | inr printed ↦
          let outer = and_parts (nat_le 32 c && not (c == 65534)) (not (c == 65535)) printed in
          let both = and_parts (nat_le 32 c) (not (c == 65534)) outer.0 in
          let last : eqb c 65535 ≡ false = not-true (eqb c 65535) outer.1 in
          let previous : eqb c 65534 ≡ false = not-true (eqb c 65534) both.1 in
          IsCharacter.printed code (leb-true 32 c both.0) (λ e. clash c 65534 previous e) (λ e. clash c 65535 last e)
    ]

control_is : (c : ℕ) → ((c == 9) || (c == 10) || (c == 13)) ≡ true → (P : ℕ → Type 0) → P 9 → P 10 → P 13 → P c
control_is c e P tab feed return =
    elim (or_cases ((c == 9) || (c == 10)) (c == 13) e) [
      | inl two ↦ elim (or_cases (c == 9) (c == 10) two) [ inl one ↦ subst P (sym (eqb-true c 9 one)) tab | inr one ↦ subst P (sym (eqb-true c 10 one)) feed ]
      | inr one ↦ subst P (sym (eqb-true c 13 one)) return
    ]

pub character_code : (c : ℕ) → IsCharacter c → (scalar c ≡ true) × (is_xml c ≡ true)
character_code c (IsCharacter.control h) = control_is c h (λ k. (scalar k ≡ true) × (is_xml k ≡ true)) (refl, refl) (refl, refl) (refl, refl)
character_code c (IsCharacter.printed code low other last) = (
  code,
  or_right ((c == 9) || (c == 10) || (c == 13)) (nat_le 32 c && not (c == 65534) && not (c == 65535))
      (and_from (nat_le 32 c && not (c == 65534)) (not (c == 65535))
      (and_from (nat_le 32 c) (not (c == 65534)) (le-leb 32 c low) (not_from_false (eqb c 65534) (ne_eqb c 65534 other)))
      (not_from_false (eqb c 65535) (ne_eqb c 65535 last))),
)

pub character_found : (c : ℕ) → IsCharacter c → character_of c ≡ Some c
character_found c is = let both = character_code c is in cond-true (scalar c && is_xml c) (Some c) None (and_from (scalar c) (is_xml c) both.0 both.1)

below_all : (c : ℕ) → scalar c ≡ true → c < 1114112
below_all c e = elim (scalar_cases c e) [ inl low ↦ omega arith | inr high ↦ omega arith ]

-- ---- numbers

value_grows : (radix n : ℕ) (ds : List ℕ) → 1 ≤ radix → n ≤ digits_value_after radix n ds
value_grows radix n [] low = omega arith
value_grows radix n (d ∷ ds) low =
    let more : n * radix + digit_value d ≤ digits_value_after radix (n * radix + digit_value d) ds = value_grows radix (n * radix + digit_value d) ds low in
    let once : n ≤ n * radix = at_least n radix low in omega (arith, more, once) where
      at_least : (n radix : ℕ) → 1 ≤ radix → n ≤ n * radix
      at_least n radix low = grind arith

capped : (radix w : ℕ) (ds : List ℕ) → 1 ≤ radix → min (digits_value_after radix (min w 1114112) ds) 1114112 ≡ min (digits_value_after radix w ds) 1114112
capped radix w ds low = elim (cases_lt w 1114112) [
  | inl small ↦ ap (λ k. min (digits_value_after radix k ds) 1114112) (let e : min w 1114112 ≡ w = omega arith in e)
  | inr large ↦
      let top : min w 1114112 ≡ 1114112 = omega arith in
      let one : 1114112 ≤ digits_value_after radix 1114112 ds = value_grows radix 1114112 ds low in
      let two : w ≤ digits_value_after radix w ds = value_grows radix w ds low in
      let left : min (digits_value_after radix 1114112 ds) 1114112 ≡ 1114112 = omega (arith, one) in
      let right : min (digits_value_after radix w ds) 1114112 ≡ 1114112 = omega (arith, two) in
      ap (λ k. min (digits_value_after radix k ds) 1114112) top ∙ left ∙ sym right
]

number_found : (radix n : ℕ) (ds : List ℕ) → 1 ≤ radix → n ≤ 1114112 → list_all (is_digit_of radix) ds ≡ true → number_after radix n ds ≡ Some (min (digits_value_after radix n ds) 1114112)
number_found radix n [] low few all = ap Some (let e : n ≡ min n 1114112 = omega arith in e)
number_found radix n (d ∷ ds) low few all =
    let both = and_parts (is_digit_of radix d) (list_all (is_digit_of radix) ds) all in
    let next = min (n * radix + digit_value d) 1114112 in
    cond-true (is_digit_of radix d) (number_after radix next ds) None both.0
    ∙ number_found radix next ds low (let e : min (n * radix + digit_value d) 1114112 ≤ 1114112 = omega arith in e) both.1
    ∙ ap Some (capped radix (n * radix + digit_value d) ds low)

number_taken : (radix n m : ℕ) (ds : List ℕ) → number_after radix n ds ≡ Some m → list_all (is_digit_of radix) ds ≡ true
number_taken radix n m [] e = refl
number_taken radix n m (d ∷ ds) e =
    let both = test_some (is_digit_of radix d) (number_after radix (min (n * radix + digit_value d) 1114112) ds) m e in
    and_from (is_digit_of radix d) (list_all (is_digit_of radix) ds) both.0 (number_taken radix (min (n * radix + digit_value d) 1114112) m ds both.1)

pub digits_again : (radix : ℕ) (digits : List ℕ) (c : ℕ) → 1 ≤ radix → AreDigitsOf radix digits c → code_of_digits radix digits ≡ Some c
digits_again radix digits c low are =
    let code = character_code c are.character in
    let small : c < 1114112 = below_all c code.0 in
    let value = are.value in
    let found = number_found radix 0 digits low (omega arith) are.digits_only in
    let same : min (digits_value radix digits) 1114112 ≡ c = omega (arith, value, small) in
    ap (option_and_then character_of) (found ∙ ap Some same) ∙ character_found c are.character

pub digits_taken : (radix : ℕ) (digits : List ℕ) (c : ℕ) → 1 ≤ radix → code_of_digits radix digits ≡ Some c → AreDigitsOf radix digits c
digits_taken radix digits c low e = then_some character_of (number_after radix 0 digits) c e (λ n found is.
    let tests = test_some (scalar n && is_xml n) (Some n) c is in
    let both = and_parts (scalar n) (is_xml n) tests.0 in
    let same : n ≡ c = some_same n c tests.1 in
    let all : list_all (is_digit_of radix) digits ≡ true = number_taken radix 0 n digits found in
    let value : Some n ≡ Some (min (digits_value radix digits) 1114112) = sym found ∙ number_found radix 0 digits low (omega arith) all in
    let exact : n ≡ min (digits_value radix digits) 1114112 = some_same n (min (digits_value radix digits) 1114112) value in
    let small : n < 1114112 = below_all n both.0 in
    let whole : n ≡ digits_value radix digits = omega (arith, exact, small) in
    let character : IsCharacter n = character_from n both.0 both.1 in
    let some : digits ≢ [] = λ none. no_value n digits radix none whole both.1 in
    subst (λ (k : ℕ). AreDigitsOf radix digits k) same (record { some = some; digits_only = all; value = whole; character = character })) where
      no_value : (n : ℕ) (digits : List ℕ) (radix : ℕ) → digits ≡ [] → n ≡ digits_value radix digits → is_xml n ≡ true → ⊥
      no_value n digits radix none whole is =
          let zero_is : n ≡ 0 = whole ∙ ap (digits_value radix) none in
          let wrong : is_xml 0 ≡ true = ap is_xml (sym zero_is) ∙ is in absurd cc

-- ---- what stands between `&` and `;`

no_end_digit : (radix d : ℕ) → radix ≤ 16 → is_digit_of radix d ≡ true → is_other 59 d ≡ true
no_end_digit radix d low e = by_test (eqb d 59) refl where
  by_test : (b : Bool) → eqb d 59 ≡ b → not b ≡ true
  by_test false h = refl
  by_test true h =
      let same : d ≡ 59 = eqb-true d 59 h in
      let below : digit_value d < radix = ltb-true (digit_value d) radix e in
      let value : digit_value d ≡ 36 = ap digit_value same in absurd (omega (arith, below, value))

no_end_digits : (radix : ℕ) (ds : List ℕ) → radix ≤ 16 → list_all (is_digit_of radix) ds ≡ true → list_all (is_other 59) ds ≡ true
no_end_digits radix [] low all = refl
no_end_digits radix (d ∷ ds) low all =
    let both = and_parts (is_digit_of radix d) (list_all (is_digit_of radix) ds) all in
    and_from (is_other 59 d) (list_all (is_other 59) ds) (no_end_digit radix d low both.0) (no_end_digits radix ds low both.1)

-- no decimal digit is an `x`
not_hexadecimal : (digits : List ℕ) → list_all (is_digit_of 10) digits ≡ true → stripped (codes "#x") (35 ∷ digits) ≡ None
not_hexadecimal digits all = not_taken (codes "#x") (35 ∷ digits) (λ rest e. by_first digits rest (let tail : digits ≡ 120 ∷ rest = cc in tail) all) where
  by_first : (ds rest : List ℕ) → ds ≡ 120 ∷ rest → list_all (is_digit_of 10) ds ≡ true → ⊥
  by_first ds rest e h =
      let both = and_parts (is_digit_of 10 120) (list_all (is_digit_of 10) rest) (ap (list_all (is_digit_of 10)) (sym e) ∙ h) in
      let wrong = both.0 in absurd cc

-- an escape by what stands between its `&` and its `;`
pub record HasInner (spelled text : List ℕ) : Type 0 where
  pub body : List ℕ
  pub code : ℕ
  pub parts : spelled ≡ 38 ∷ (body ++ 59 ∷ [])
  pub text_is : text ≡ encode_utf8 code
  pub no_end : list_all (is_other 59) body ≡ true
  pub found : code_of_escape body ≡ Some code

number_code : (digits : List ℕ) → code_of_escape (35 ∷ digits) ≡ code_of_number (35 ∷ digits)
unfolding code_of_escape
number_code digits = refl

pub has_inner : {spelled text : List ℕ} → SpellsEscape spelled text → HasInner spelled text
unfolding code_of_escape code_of_number
has_inner SpellsEscape.less = record { body = codes "lt"; code = 60; parts = refl; text_is = sym (encode_ascii 60 (omega arith)); no_end = refl; found = refl }
has_inner SpellsEscape.greater = record { body = codes "gt"; code = 62; parts = refl; text_is = sym (encode_ascii 62 (omega arith)); no_end = refl; found = refl }
has_inner SpellsEscape.ampersand = record { body = codes "amp"; code = 38; parts = refl; text_is = sym (encode_ascii 38 (omega arith)); no_end = refl; found = refl }
has_inner SpellsEscape.apostrophe = record { body = codes "apos"; code = 39; parts = refl; text_is = sym (encode_ascii 39 (omega arith)); no_end = refl; found = refl }
has_inner SpellsEscape.quotation = record { body = codes "quot"; code = 34; parts = refl; text_is = sym (encode_ascii 34 (omega arith)); no_end = refl; found = refl }
has_inner (SpellsEscape.decimal {digits = digits} {c = c} are) = record {
  body = 35 ∷ digits;
  code = c;
  parts = refl;
  text_is = refl;
  no_end = no_end_digits 10 digits (omega arith) are.digits_only;
  found = number_code digits ∙ ap (λ o. code_behind o (stripped (codes "#") (35 ∷ digits))) (not_hexadecimal digits are.digits_only)
      ∙ ap (code_behind None) (stripped_again (codes "#") digits) ∙ digits_again 10 digits c (omega arith) are;
}
has_inner (SpellsEscape.hexadecimal {digits = digits} {c = c} are) = record {
  body = 35 ∷ 120 ∷ digits;
  code = c;
  parts = refl;
  text_is = refl;
  no_end = no_end_digits 16 digits (omega arith) are.digits_only;
  found = number_code (120 ∷ digits) ∙ ap (λ o. code_behind o (stripped (codes "#") (35 ∷ 120 ∷ digits))) (stripped_again (codes "#x") digits) ∙ digits_again 16 digits c (omega arith) are;
}

pub escape_again : (body : List ℕ) (c : ℕ) (more : List ℕ) → list_all (is_other 59) body ≡ true → code_of_escape body ≡ Some c → escape_taken (body ++ 59 ∷ more) ≡ Some (c, more)
unfolding escape_taken
escape_again body c more ends found =
    ap (option_and_then (λ (x : List ℕ × List ℕ). option_map (λ (k : ℕ). let y : ℕ × List ℕ = (k, x.1) in y) (code_of_escape x.0))) (byte_again 59 body more ends)
    ∙ ap (option_map (λ (k : ℕ). let y : ℕ × List ℕ = (k, more) in y)) found

number_spelled : (body : List ℕ) (c : ℕ) → code_of_number body ≡ Some c → SpellsEscape (38 ∷ (body ++ 59 ∷ [])) (encode_utf8 c)
unfolding code_of_number
number_spelled body c e = by_front (stripped (codes "#x") body) (stripped (codes "#") body) refl refl e where
  by_front : (x y : Option (List ℕ)) → stripped (codes "#x") body ≡ x → stripped (codes "#") body ≡ y → code_behind x y ≡ Some c → SpellsEscape (38 ∷ (body ++ 59 ∷ [])) (encode_utf8 c)
  by_front (Some digits) y found other h =
      let parts : body ≡ 35 ∷ 120 ∷ digits = stripped_takes (codes "#x") body digits found in
      subst (λ (b : List ℕ). SpellsEscape (38 ∷ (b ++ 59 ∷ [])) (encode_utf8 c)) (sym parts) (SpellsEscape.hexadecimal (digits_taken 16 digits c (omega arith) h))
  by_front None (Some digits) none found h =
      let parts : body ≡ 35 ∷ digits = stripped_takes (codes "#") body digits found in
      subst (λ (b : List ℕ). SpellsEscape (38 ∷ (b ++ 59 ∷ [])) (encode_utf8 c)) (sym parts) (SpellsEscape.decimal (digits_taken 10 digits c (omega arith) h))
  by_front None None none other h = absurd cc

-- the escape of a word
word_spelled : (word body text : List ℕ) (k c : ℕ) → bytes_eq body word ≡ true → k < 128 → k ≡ c → SpellsEscape (38 ∷ (word ++ 59 ∷ [])) (k ∷ []) → SpellsEscape (38 ∷ (body ++ 59 ∷ [])) (encode_utf8 c)
word_spelled word body text k c same low is spelled =
    let parts : body ≡ word = (bytes_eq-Decides body word).0 same in
    let bytes : k ∷ [] ≡ encode_utf8 c = sym (encode_ascii k low) ∙ ap encode_utf8 is in
    subst (λ (b : List ℕ). SpellsEscape (38 ∷ (b ++ 59 ∷ [])) (encode_utf8 c)) (sym parts) (subst (λ (t : List ℕ). SpellsEscape (38 ∷ (word ++ 59 ∷ [])) t) bytes spelled)

pub inner_spelled : (body : List ℕ) (c : ℕ) → code_of_escape body ≡ Some c → SpellsEscape (38 ∷ (body ++ 59 ∷ [])) (encode_utf8 c)
unfolding code_of_escape
inner_spelled body c e = first (bytes_eq body (codes "lt")) refl e where
  fifth : (b : Bool) → bytes_eq body (codes "quot") ≡ b → cond b (Some 34) (code_of_number body) ≡ Some c → SpellsEscape (38 ∷ (body ++ 59 ∷ [])) (encode_utf8 c)
  fifth true is h = word_spelled (codes "quot") body [] 34 c is (omega arith) (some_same 34 c h) SpellsEscape.quotation
  fifth false is h = number_spelled body c h

  fourth : (b : Bool) → bytes_eq body (codes "apos") ≡ b → cond b (Some 39) (cond (bytes_eq body (codes "quot")) (Some 34) (code_of_number body)) ≡ Some c
      → SpellsEscape (38 ∷ (body ++ 59 ∷ [])) (encode_utf8 c)
  fourth true is h = word_spelled (codes "apos") body [] 39 c is (omega arith) (some_same 39 c h) SpellsEscape.apostrophe
  fourth false is h = fifth (bytes_eq body (codes "quot")) refl h

  third : (b : Bool) → bytes_eq body (codes "amp") ≡ b
      → cond b (Some 38) (cond (bytes_eq body (codes "apos")) (Some 39) (cond (bytes_eq body (codes "quot")) (Some 34) (code_of_number body))) ≡ Some c
      → SpellsEscape (38 ∷ (body ++ 59 ∷ [])) (encode_utf8 c)
  third true is h = word_spelled (codes "amp") body [] 38 c is (omega arith) (some_same 38 c h) SpellsEscape.ampersand
  third false is h = fourth (bytes_eq body (codes "apos")) refl h

  second : (b : Bool) → bytes_eq body (codes "gt") ≡ b
      → cond b (Some 62) (cond (bytes_eq body (codes "amp")) (Some 38) (cond (bytes_eq body (codes "apos")) (Some 39) (cond (bytes_eq body (codes "quot")) (Some 34) (code_of_number body)))) ≡ Some c
      → SpellsEscape (38 ∷ (body ++ 59 ∷ [])) (encode_utf8 c)
  second true is h = word_spelled (codes "gt") body [] 62 c is (omega arith) (some_same 62 c h) SpellsEscape.greater
  second false is h = third (bytes_eq body (codes "amp")) refl h

  first : (b : Bool) → bytes_eq body (codes "lt") ≡ b
      → cond b (Some 60) (cond (bytes_eq body (codes "gt")) (Some 62) (cond (bytes_eq body (codes "amp")) (Some 38) (cond (bytes_eq body (codes "apos")) (Some 39) (cond (bytes_eq body (codes "quot")) (Some 34) (code_of_number body))))) ≡ Some c
      → SpellsEscape (38 ∷ (body ++ 59 ∷ [])) (encode_utf8 c)
  first true is h = word_spelled (codes "lt") body [] 60 c is (omega arith) (some_same 60 c h) SpellsEscape.less
  first false is h = second (bytes_eq body (codes "gt")) refl h

-- an escape that was taken, and how it is spelled
pub escape_takes : (bytes : List ℕ) (c : ℕ) (rest : List ℕ) → escape_taken bytes ≡ Some (c, rest)
    → (spelled : List ℕ) × (38 ∷ bytes ≡ spelled ++ rest) × SpellsEscape spelled (encode_utf8 c)
unfolding escape_taken
escape_takes bytes c rest e =
    then_some (λ (x : List ℕ × List ℕ). option_map (λ (k : ℕ). let y : ℕ × List ℕ = (k, x.1) in y) (code_of_escape x.0)) (split_byte 59 bytes) (c, rest) e
    (λ x split h. map_some (λ (k : ℕ). let y : ℕ × List ℕ = (k, x.1) in y) (code_of_escape x.0) (c, rest) h
    (λ k found same.
    let code : k ≡ c = ap (λ (y : ℕ × List ℕ). y.0) same in
    let behind : x.1 ≡ rest = ap (λ (y : ℕ × List ℕ). y.1) same in
    let parts : bytes ≡ x.0 ++ 59 ∷ x.1 = byte_takes 59 bytes x.0 x.1 split in
    let whole : 38 ∷ bytes ≡ (38 ∷ (x.0 ++ 59 ∷ [])) ++ rest =
    ap (λ t. 38 ∷ t) (parts ∙ ap (λ t. x.0 ++ 59 ∷ t) behind ∙ sym (append_assoc x.0 (59 ∷ []) rest)) in
    (38 ∷ (x.0 ++ 59 ∷ []), whole, inner_spelled x.0 c (found ∙ ap Some code))))
