-- Values, attributes and the rests of tags: what is taken is spelled so, and what is spelled so is taken.
use Rattle.std.proofs.Common.{◌≡◌, ◌≢◌, ◌<◌, ◌≤◌, inl, inr, ℕ, zero, suc, Bool, true, false, cond, eqb, not, ◌||◌, List, [], ◌∷◌, ◌++◌, length, Option, Some, None, refl, sym, ◌∙◌, ap, subst, arith, append_assoc}
use Rattle.std.specs.Prelude.{option_map, option_and_then, ◌==◌, codes, bytes_eq, encode_utf8}
use Rattle.std.specs.List.{list_all, list_any, AllPairs, slice_index_or}
use Rattle.std.proofs.lemmas.List.{append-nil, length-append}
use Rattle.std.proofs.lemmas.Bool.{and_parts, and_from, or_cases, or_left, or_right, eq-eqb, eqb-true, ne_eqb, not-true, cond-true}
use Rattle.std.proofs.lemmas.Slice.Eq.{bytes_eq-Decides}
use Rattle.pssm_spelling.specs.SpellingReading.{stripped, EndsRun}
use Rattle.pssm_spelling.proofs.SpellingLaws.{stripped_takes, stripped_again}
use Rattle.pssm_xml.specs.declared.values.Bit.{Bit}
use Rattle.pssm_xml.specs.declared.values.Bit.TheVariants as bits
use Rattle.pssm_xml.specs.Characters.{is_blank, AreBlanks}
use Rattle.pssm_xml.specs.Pieces.{begins_tag_name, continues_tag_name, IsTagName, SpellsEscape, Attribute, SpellsValue, IsQuote, SpellsAttribute, SpellsAttributes}
use Rattle.pssm_xml.specs.inner.Reading.{past_blanks, begins_with, tag_name_taken, escape_taken, bit_text, bit_taken, behind_bit, value_taken, with_text_before, quote_taken, attribute_begun, attribute_taken, or_else, tag_end_taken, TagParts, with_attribute, behind_part, tag_rest_taken, all_different}
use Rattle.pssm_xml.proofs.RunLaws.{then_some, map_some, test_some, some_same, clash, blanks_again, blanks_taken, some_blanks, begins_blank, blank_is, no_blank_name, name_again, name_takes, not_taken}
use Rattle.pssm_xml.proofs.EscapeLaws.{has_inner, escape_again, escape_takes}

-- ---- bits of values

pub quote_is : (q : ℕ) → IsQuote q → (P : ℕ → Type 0) → P 34 → P 39 → P q
quote_is q e P double single = elim (or_cases (q == 34) (q == 39) e) [ inl one ↦ subst P (sym (eqb-true q 34 one)) double | inr one ↦ subst P (sym (eqb-true q 39 one)) single ]

bit_end : (q : ℕ) (more : List ℕ) → bit_taken q (q ∷ more) ≡ Some (None, more)
unfolding bit_taken
bit_end q more = rw (eq-eqb q q refl) refl

bit_escape : (q c : ℕ) (bytes rest : List ℕ) → IsQuote q → escape_taken bytes ≡ Some (c, rest) → bit_taken q (38 ∷ bytes) ≡ Some (Some (bits.Character c), rest)
unfolding bit_taken
bit_escape q c bytes rest quote taken =
    let other : eqb 38 q ≡ false = quote_is q quote (λ k. eqb 38 k ≡ false) refl refl in
    rw (other, taken) refl

bit_byte : (q b : ℕ) (rest : List ℕ) → b ≢ q → b ≢ 60 → b ≢ 38 → bit_taken q (b ∷ rest) ≡ Some (Some (bits.Byte b), rest)
unfolding bit_taken
bit_byte q b rest one two three = rw (ne_eqb b q one, ne_eqb b 60 two, ne_eqb b 38 three) refl

-- how the bit that was taken is spelled
abbrev IsBit : ℕ → List ℕ → Option Bit → List ℕ → Type 0
IsBit q bytes None rest = bytes ≡ q ∷ rest
IsBit q bytes (Some (bits.Byte b)) rest = (bytes ≡ b ∷ rest) × (b ≢ q) × (b ≢ 60) × (b ≢ 38)
IsBit q bytes (Some (bits.Character c)) rest = (spelled : List ℕ) × (bytes ≡ spelled ++ rest) × SpellsEscape spelled (encode_utf8 c)

bit_takes : (q : ℕ) (bytes : List ℕ) (bit : Option Bit) (rest : List ℕ) → bit_taken q bytes ≡ Some (bit, rest) → IsBit q bytes bit rest
unfolding bit_taken
bit_takes q [] bit rest e = absurd cc
bit_takes q (b ∷ bytes) bit rest e = first (eqb b q) refl e where
  moved : (o : Option Bit) (more : List ℕ) → Some (let x : Option Bit × List ℕ = (o, more) in x) ≡ Some (bit, rest) → IsBit q (b ∷ bytes) o more → IsBit q (b ∷ bytes) bit rest
  moved o more h is = let x : Option Bit × List ℕ = (o, more) in let y : Option Bit × List ℕ = (bit, rest) in
      subst (λ (z : Option Bit × List ℕ). IsBit q (b ∷ bytes) z.0 z.1) (some_same x y h) is

  third : (t : Bool) → eqb b 38 ≡ t → eqb b q ≡ false → eqb b 60 ≡ false
      → cond t (option_map (λ (x : ℕ × List ℕ). let y : Option Bit × List ℕ = (Some (bits.Character x.0), x.1) in y) (escape_taken bytes)) (Some (Some (bits.Byte b), bytes)) ≡ Some (bit, rest)
      → IsBit q (b ∷ bytes) bit rest
  third true same other_quote other h =
      map_some (λ (x : ℕ × List ℕ). let y : Option Bit × List ℕ = (Some (bits.Character x.0), x.1) in y) (escape_taken bytes) (bit, rest) h
      (λ x found is.
      let spelled = escape_takes bytes x.0 x.1 found in
      let head : b ∷ bytes ≡ spelled.0 ++ x.1 = ap (λ k. k ∷ bytes) (eqb-true b 38 same) ∙ spelled.1 in
      moved (Some (bits.Character x.0)) x.1 (ap Some is) (spelled.0, head, spelled.2))
  third false one two three h =
      moved (Some (bits.Byte b)) bytes h (refl, λ k. clash b q two k, λ k. clash b 60 three k, λ k. clash b 38 one k)

  second : (t : Bool) → eqb b 60 ≡ t → eqb b q ≡ false
      → cond t None (cond (eqb b 38) (option_map (λ (x : ℕ × List ℕ). let y : Option Bit × List ℕ = (Some (bits.Character x.0), x.1) in y) (escape_taken bytes)) (Some (Some (bits.Byte b), bytes))) ≡ Some (bit, rest)
      → IsBit q (b ∷ bytes) bit rest
  second true same other h = absurd cc
  second false two one h = third (eqb b 38) refl one two h

  first : (t : Bool) → eqb b q ≡ t
      → cond t (Some (None, bytes)) (cond (eqb b 60) None (cond (eqb b 38) (option_map (λ (x : ℕ × List ℕ). let y : Option Bit × List ℕ = (Some (bits.Character x.0), x.1) in y) (escape_taken bytes)) (Some (Some (bits.Byte b), bytes)))) ≡ Some (bit, rest)
      → IsBit q (b ∷ bytes) bit rest
  first true same h = moved None bytes h (ap (λ k. k ∷ bytes) (eqb-true b q same))
  first false other h = second (eqb b 60) refl other h

-- ---- values

pub value_again : (q : ℕ) → IsQuote q → {inner value : List ℕ} → SpellsValue q inner value → (n : ℕ) (more : List ℕ) → length inner < n
    → value_taken n q (inner ++ q ∷ more) ≡ Some (value, more)
value_again q quote spelled zero more few = absurd (omega arith)
value_again q quote SpellsValue.nothing (suc n) more few = ap (λ b. behind_bit b (λ rest. value_taken n q rest)) (bit_end q more)
value_again q quote (SpellsValue.other {c = c} {more = inner} {rest = value} one two three later) (suc n) more few =
    ap (λ b. behind_bit b (λ rest. value_taken n q rest)) (bit_byte q c (inner ++ q ∷ more) one two three)
    ∙ ap (option_map (with_text_before (c ∷ []))) (value_again q quote later n more (omega arith))
value_again q quote (SpellsValue.escape {spelled = spelled} {more = inner} {text = text} {rest = value} escape later) (suc n) more few =
    let has = has_inner escape in
    let behind = inner ++ q ∷ more in
    let parts : (spelled ++ inner) ++ q ∷ more ≡ 38 ∷ (has.body ++ 59 ∷ behind) =
    append_assoc spelled inner (q ∷ more) ∙ ap (λ t. t ++ behind) has.parts ∙ ap (λ t. 38 ∷ t) (append_assoc has.body (59 ∷ []) behind) in
    let taken = escape_again has.body has.code behind has.no_end has.found in
    let long : length spelled ≡ suc (length (has.body ++ 59 ∷ [])) = ap length has.parts in
    let fewer : length inner < n = omega (arith, length-append spelled inner, long) in
    ap (value_taken (suc n) q) parts
    ∙ ap (λ b. behind_bit b (λ rest. value_taken n q rest)) (bit_escape q has.code (has.body ++ 59 ∷ behind) behind quote taken)
    ∙ ap (option_map (with_text_before (encode_utf8 has.code))) (value_again q quote later n more fewer)
    ∙ ap (λ (t : List ℕ). Some (t ++ value, more)) (sym has.text_is)

-- a value that was taken, and how it is spelled
abbrev pub HasSpelledValue : ℕ → List ℕ → List ℕ → List ℕ → Type 0
HasSpelledValue q bytes value rest = (inner : List ℕ) × (bytes ≡ inner ++ q ∷ rest) × SpellsValue q inner value

module _ (q : ℕ) (bytes rest : List ℕ) where
  spelled_bit : (bit : Bit) (more value : List ℕ) → IsBit q bytes (Some bit) more → HasSpelledValue q more value rest → HasSpelledValue q bytes (bit_text bit ++ value) rest
  spelled_bit (bits.Byte b) more value is later =
      (b ∷ later.0, is.0 ∙ ap (λ t. b ∷ t) later.1, SpellsValue.other is.1 is.2 is.3 later.2)
  spelled_bit (bits.Character c) more value is later =
      (is.0 ++ later.0, is.1 ∙ ap (λ t. is.0 ++ t) later.1 ∙ sym (append_assoc is.0 later.0 (q ∷ rest)), SpellsValue.escape is.2 later.2)

pub value_takes : (n q : ℕ) (bytes value rest : List ℕ) → value_taken n q bytes ≡ Some (value, rest) → HasSpelledValue q bytes value rest
value_takes zero q bytes value rest e = absurd cc
value_takes (suc n) q bytes value rest e = by_bit (bit_taken q bytes) refl e (λ more v. value_takes n q more v rest) where
  by_bit : (o : Option (Option Bit × List ℕ)) → bit_taken q bytes ≡ o → behind_bit o (λ more. value_taken n q more) ≡ Some (value, rest)
      → ((more v : List ℕ) → value_taken n q more ≡ Some (v, rest) → HasSpelledValue q more v rest) → HasSpelledValue q bytes value rest
  by_bit None taken h later = absurd cc
  by_bit (Some (None, more)) taken h later =
      let pair : (let x : List ℕ × List ℕ = ([], more) in x) ≡ (value, rest) = some_same ([], more) (value, rest) h in
      subst (λ (x : List ℕ × List ℕ). HasSpelledValue q bytes x.0 x.1) pair ([], bit_takes q bytes None more taken, SpellsValue.nothing)
  by_bit (Some (Some bit, more)) taken h later =
      map_some (with_text_before (bit_text bit)) (value_taken n q more) (value, rest) h
      (λ x found is.
      let behind : x.1 ≡ rest = ap (λ (y : List ℕ × List ℕ). y.1) is in
      let front : bit_text bit ++ x.0 ≡ value = ap (λ (y : List ℕ × List ℕ). y.0) is in
      let spelled = later more x.0 (found ∙ ap (λ (t : List ℕ). Some (x.0, t)) behind) in
      subst (λ (v : List ℕ). HasSpelledValue q bytes v rest) front (spelled_bit q bytes rest bit more x.0 (bit_takes q bytes (Some bit) more taken) spelled))

-- ---- what ends a run

pub name_ends_blanks : (name rest : List ℕ) → IsTagName name → EndsRun is_blank (name ++ rest)
name_ends_blanks [] rest is = absurd cc
name_ends_blanks (c ∷ cs) rest is = no_blank_name c (and_parts (begins_tag_name c) (list_all continues_tag_name cs) is).0

blank_ends_name : (c : ℕ) → is_blank c ≡ true → continues_tag_name c ≡ false
blank_ends_name c e = blank_is c e (λ k. continues_tag_name k ≡ false) refl refl refl refl

pub blanks_end_name : (blanks rest : List ℕ) → AreBlanks blanks → EndsRun continues_tag_name rest → EndsRun continues_tag_name (blanks ++ rest)
blanks_end_name [] rest are ends = ends
blanks_end_name (c ∷ cs) rest are ends = blank_ends_name c (and_parts (is_blank c) (list_all is_blank cs) are).0

-- Where a name begins, no word of another first byte does.
pub no_word : (name rest word : List ℕ) (w : ℕ) → IsTagName name → begins_tag_name w ≡ false → stripped (w ∷ word) (name ++ rest) ≡ None
no_word [] rest word w is other = absurd cc
no_word (c ∷ cs) rest word w is other = not_taken (w ∷ word) (c ∷ (cs ++ rest)) (λ behind e.
    let same : c ≡ w = cc in
    let begins : begins_tag_name c ≡ true = (and_parts (begins_tag_name c) (list_all continues_tag_name cs) is).0 in
    let wrong : false ≡ true = sym other ∙ ap begins_tag_name (sym same) ∙ begins in absurd cc)

-- ---- attributes

pub quote_again : (q : ℕ) (rest : List ℕ) → IsQuote q → quote_taken (q ∷ rest) ≡ Some (q, rest)
quote_again q rest quote = cond-true ((q == 34) || (q == 39)) (Some (q, rest)) None quote

quote_takes : (bytes : List ℕ) (q : ℕ) (rest : List ℕ) → quote_taken bytes ≡ Some (q, rest) → (bytes ≡ q ∷ rest) × IsQuote q
quote_takes [] q rest e = absurd cc
quote_takes (c ∷ cs) q rest e =
    let took = test_some ((c == 34) || (c == 39)) (Some (c, cs)) (q, rest) e in
    let pair : (let x : ℕ × List ℕ = (c, cs) in x) ≡ (q, rest) = some_same (c, cs) (q, rest) took.1 in
    subst (λ (x : ℕ × List ℕ). (c ∷ cs ≡ x.0 ∷ x.1) × IsQuote x.0) pair (refl, took.0)

begun_again : (before name behind before_value : List ℕ) (q : ℕ) (rest : List ℕ) → AreBlanks before → before ≢ [] → IsTagName name → AreBlanks behind → AreBlanks before_value → IsQuote q
    → attribute_begun (before ++ (name ++ (behind ++ 61 ∷ (before_value ++ q ∷ rest)))) ≡ Some (name, q, rest)
unfolding attribute_begun
begun_again before name behind before_value q rest blank some named blank_behind blank_value quote =
    let value = before_value ++ q ∷ rest in
    let after_name = behind ++ 61 ∷ value in
    let whole = before ++ (name ++ after_name) in
    let begins : begins_with is_blank whole ≡ true = begins_blank before (name ++ after_name) blank some in
    let one : past_blanks whole ≡ name ++ after_name = blanks_again before (name ++ after_name) blank (name_ends_blanks name after_name named) in
    let two : tag_name_taken (name ++ after_name) ≡ Some (name, after_name) = name_again name after_name named (blanks_end_name behind (61 ∷ value) blank_behind refl) in
    let three : past_blanks after_name ≡ 61 ∷ value = blanks_again behind (61 ∷ value) blank_behind refl in
    let four : stripped (codes "=") (61 ∷ value) ≡ Some value = stripped_again (codes "=") value in
    let ends : is_blank q ≡ false = quote_is q quote (λ k. is_blank k ≡ false) refl refl in
    let five : past_blanks value ≡ q ∷ rest = blanks_again before_value (q ∷ rest) blank_value ends in
    let six : quote_taken (q ∷ rest) ≡ Some (q, rest) = quote_again q rest quote in
    cond-true (begins_with is_blank whole) _ None begins
    ∙ ap (λ t. option_and_then (λ (x : List ℕ × List ℕ). option_and_then (λ r. option_map (λ (y : ℕ × List ℕ). let z : List ℕ × ℕ × List ℕ = (x.0, y.0, y.1) in z) (quote_taken (past_blanks r))) (stripped (codes "=") (past_blanks x.1))) (tag_name_taken t)) one
    ∙ ap (option_and_then (λ (x : List ℕ × List ℕ). option_and_then (λ r. option_map (λ (y : ℕ × List ℕ). let z : List ℕ × ℕ × List ℕ = (x.0, y.0, y.1) in z) (quote_taken (past_blanks r))) (stripped (codes "=") (past_blanks x.1)))) two
    ∙ ap (λ t. option_and_then (λ r. option_map (λ (y : ℕ × List ℕ). let z : List ℕ × ℕ × List ℕ = (name, y.0, y.1) in z) (quote_taken (past_blanks r))) (stripped (codes "=") t)) three
    ∙ ap (option_and_then (λ r. option_map (λ (y : ℕ × List ℕ). let z : List ℕ × ℕ × List ℕ = (name, y.0, y.1) in z) (quote_taken (past_blanks r)))) four
    ∙ ap (λ t. option_map (λ (y : ℕ × List ℕ). let z : List ℕ × ℕ × List ℕ = (name, y.0, y.1) in z) (quote_taken t)) five
    ∙ ap (option_map (λ (y : ℕ × List ℕ). let z : List ℕ × ℕ × List ℕ = (name, y.0, y.1) in z)) six

pub flat_attribute : (a b c d e : List ℕ) (q : ℕ) (inner rest : List ℕ) → (((((a ++ b) ++ c) ++ d) ++ e) ++ q ∷ (inner ++ q ∷ [])) ++ rest ≡ a ++ (b ++ (c ++ (d ++ (e ++ q ∷ (inner ++ q ∷ rest)))))
flat_attribute a b c d e q inner rest = simp append_assoc

pub attribute_again : (bytes : List ℕ) (a : Attribute) → SpellsAttribute bytes a → (rest : List ℕ) → attribute_taken (bytes ++ rest) ≡ Some (a, rest)
unfolding attribute_taken
attribute_again bytes a s rest =
    let behind = s.inner ++ s.quote ∷ rest in
    let flat = ap (λ t. t ++ rest) s.parts ∙ flat_attribute s.before a.name s.behind_name (codes "=") s.before_value s.quote s.inner rest in
    let begun = begun_again s.before a.name s.behind_name s.before_value s.quote behind s.blanks.0 s.some_blank s.name s.blanks.1 s.blanks.2 s.quotes in
    let few : length s.inner < length behind = omega (arith, length-append s.inner (s.quote ∷ rest)) in
    let valued : value_taken (length behind) s.quote behind ≡ Some (a.value, rest) = value_again s.quote s.quotes s.value (length behind) rest few in
    ap attribute_taken flat
    ∙ ap (option_and_then (λ (x : List ℕ × ℕ × List ℕ). option_map (λ (y : List ℕ × List ℕ). let z : Attribute × List ℕ = (record { name = x.0; value = y.0 }, y.1) in z) (value_taken (length x.2) x.1 x.2))) begun
    ∙ ap (option_map (λ (y : List ℕ × List ℕ). let z : Attribute × List ℕ = (record { name = a.name; value = y.0 }, y.1) in z)) valued

-- what was taken of an attribute up to its value
record IsBegun (bytes name : List ℕ) (q : ℕ) (rest : List ℕ) : Type 0 where
  before : List ℕ
  behind : List ℕ
  before_value : List ℕ
  parts : bytes ≡ before ++ (name ++ (behind ++ 61 ∷ (before_value ++ q ∷ rest)))
  some : before ≢ []
  blanks : AreBlanks before × AreBlanks behind × AreBlanks before_value
  named : IsTagName name
  quote : IsQuote q

begun_takes : (bytes name : List ℕ) (q : ℕ) (rest : List ℕ) → attribute_begun bytes ≡ Some (name, q, rest) → IsBegun bytes name q rest
unfolding attribute_begun
begun_takes bytes name q rest e =
    let took = test_some (begins_with is_blank bytes) _ (name, q, rest) e in
    let front = some_blanks bytes took.0 in
    then_some _ (tag_name_taken (past_blanks bytes)) (name, q, rest) took.1 (λ x named h.
    then_some _ (stripped (codes "=") (past_blanks x.1)) (name, q, rest) h (λ value equal k.
    map_some _ (quote_taken (past_blanks value)) (name, q, rest) k (λ y quoted is.
    let name_parts = name_takes (past_blanks bytes) x.0 x.1 named in
    let behind = blanks_taken x.1 in
    let equal_parts : past_blanks x.1 ≡ 61 ∷ value = stripped_takes (codes "=") (past_blanks x.1) value equal in
    let before_value = blanks_taken value in
    let quote_parts = quote_takes (past_blanks value) y.0 y.1 quoted in
    let value_parts : value ≡ before_value.0 ++ y.0 ∷ y.1 = before_value.1 ∙ ap (λ t. before_value.0 ++ t) quote_parts.0 in
    let rest_parts : x.1 ≡ behind.0 ++ 61 ∷ (before_value.0 ++ y.0 ∷ y.1) = behind.1 ∙ ap (λ t. behind.0 ++ t) (equal_parts ∙ ap (λ t. 61 ∷ t) value_parts) in
    let whole : bytes ≡ front.0 ++ (x.0 ++ (behind.0 ++ 61 ∷ (before_value.0 ++ y.0 ∷ y.1))) =
    front.1 ∙ ap (λ t. front.0 ++ t) (name_parts.0 ∙ ap (λ t. x.0 ++ t) rest_parts) in
    subst (λ (z : List ℕ × ℕ × List ℕ). IsBegun bytes z.0 z.1 z.2) is (record {
      before = front.0;
      behind = behind.0;
      before_value = before_value.0;
      parts = whole;
      some = front.3;
      blanks = (front.2, behind.2, before_value.2);
      named = name_parts.1;
      quote = quote_parts.1;
    }))))

unflat_attribute : (a b c d e : List ℕ) (q : ℕ) (inner rest : List ℕ) → a ++ (b ++ (c ++ (d ++ (e ++ q ∷ (inner ++ q ∷ rest))))) ≡ (((((a ++ b) ++ c) ++ d) ++ e) ++ q ∷ (inner ++ q ∷ [])) ++ rest
unflat_attribute a b c d e q inner rest = sym (flat_attribute a b c d e q inner rest)

-- an attribute that was taken, and how it is spelled
abbrev pub HasSpelledAttribute : List ℕ → Attribute → List ℕ → Type 0
HasSpelledAttribute bytes a rest = (front : List ℕ) × (bytes ≡ front ++ rest) × SpellsAttribute front a

pub attribute_takes : (bytes : List ℕ) (a : Attribute) (rest : List ℕ) → attribute_taken bytes ≡ Some (a, rest) → HasSpelledAttribute bytes a rest
unfolding attribute_taken
attribute_takes bytes a rest e =
    then_some _ (attribute_begun bytes) (a, rest) e (λ x begun h.
    map_some _ (value_taken (length x.2) x.1 x.2) (a, rest) h (λ y valued is.
    let b = begun_takes bytes x.0 x.1 x.2 begun in
    let v = value_takes (length x.2) x.1 x.2 y.0 y.1 valued in
    let made : Attribute = record { name = x.0; value = y.0 } in
    let front = ((((b.before ++ x.0) ++ b.behind) ++ codes "=") ++ b.before_value) ++ x.1 ∷ (v.0 ++ x.1 ∷ []) in
    let parts : bytes ≡ front ++ y.1 =
    b.parts ∙ ap (λ t. b.before ++ (x.0 ++ (b.behind ++ 61 ∷ (b.before_value ++ x.1 ∷ t)))) v.1 ∙ unflat_attribute b.before x.0 b.behind (codes "=") b.before_value x.1 v.0 y.1 in
    let spelled : SpellsAttribute front made = record {
      before = b.before;
      behind_name = b.behind;
      before_value = b.before_value;
      quote = x.1;
      inner = v.0;
      parts = refl;
      some_blank = b.some;
      blanks = b.blanks;
      name = b.named;
      quotes = b.quote;
      value = v.2;
    } in
    subst (λ (z : Attribute × List ℕ). HasSpelledAttribute bytes z.0 z.1) is (front, parts, spelled)))

-- ---- the ends of tags

-- what ends a tag, by whether it is one of an empty element
abbrev pub tag_close : Bool → List ℕ
tag_close false = codes ">"
tag_close true = codes "/>"

pub end_again : (blanks rest : List ℕ) (empty : Bool) → AreBlanks blanks → tag_end_taken (blanks ++ (tag_close empty ++ rest)) ≡ Some (empty, rest)
unfolding tag_end_taken
end_again blanks rest false are =
    let one : past_blanks (blanks ++ 62 ∷ rest) ≡ 62 ∷ rest = blanks_again blanks (62 ∷ rest) are refl in
    let two : stripped (codes ">") (62 ∷ rest) ≡ Some rest = stripped_again (codes ">") rest in
    rw (one, two) refl
end_again blanks rest true are =
    let one : past_blanks (blanks ++ 47 ∷ 62 ∷ rest) ≡ 47 ∷ 62 ∷ rest = blanks_again blanks (47 ∷ 62 ∷ rest) are refl in
    let two : stripped (codes ">") (47 ∷ 62 ∷ rest) ≡ None = not_taken (codes ">") (47 ∷ 62 ∷ rest) (λ more e. clash 47 62 refl cc) in
    let three : stripped (codes "/>") (47 ∷ 62 ∷ rest) ≡ Some rest = stripped_again (codes "/>") rest in
    rw (one, two, three) refl

abbrev pub HasTagEnd : List ℕ → Bool → List ℕ → Type 0
HasTagEnd bytes empty rest = (blanks : List ℕ) × (bytes ≡ blanks ++ (tag_close empty ++ rest)) × AreBlanks blanks

pub end_takes : (bytes : List ℕ) (empty : Bool) (rest : List ℕ) → tag_end_taken bytes ≡ Some (empty, rest) → HasTagEnd bytes empty rest
unfolding tag_end_taken
end_takes bytes empty rest e = by_kind (stripped (codes ">") (past_blanks bytes)) (stripped (codes "/>") (past_blanks bytes)) refl refl e where
  by_kind : (x y : Option (List ℕ)) → stripped (codes ">") (past_blanks bytes) ≡ x → stripped (codes "/>") (past_blanks bytes) ≡ y
      → or_else (option_map (λ (r : List ℕ). let z : Bool × List ℕ = (false, r) in z) x) (option_map (λ (r : List ℕ). let z : Bool × List ℕ = (true, r) in z) y) ≡ Some (empty, rest)
      → HasTagEnd bytes empty rest
  by_kind (Some r) y found other h =
      let blanks = blanks_taken bytes in
      let pair : (let z : Bool × List ℕ = (false, r) in z) ≡ (empty, rest) = some_same (false, r) (empty, rest) h in
      let parts : bytes ≡ blanks.0 ++ 62 ∷ r = blanks.1 ∙ ap (λ t. blanks.0 ++ t) (stripped_takes (codes ">") (past_blanks bytes) r found) in
      subst (λ (z : Bool × List ℕ). HasTagEnd bytes z.0 z.1) pair (blanks.0, parts, blanks.2)
  by_kind None (Some r) none found h =
      let blanks = blanks_taken bytes in
      let pair : (let z : Bool × List ℕ = (true, r) in z) ≡ (empty, rest) = some_same (true, r) (empty, rest) h in
      let parts : bytes ≡ blanks.0 ++ 47 ∷ 62 ∷ r = blanks.1 ∙ ap (λ t. blanks.0 ++ t) (stripped_takes (codes "/>") (past_blanks bytes) r found) in
      subst (λ (z : Bool × List ℕ). HasTagEnd bytes z.0 z.1) pair (blanks.0, parts, blanks.2)
  by_kind None None none other h = absurd cc

-- No tag ends where an attribute begins.
no_end_yet : (bytes : List ℕ) (a : Attribute) → SpellsAttribute bytes a → (rest : List ℕ) → tag_end_taken (bytes ++ rest) ≡ None
unfolding tag_end_taken
no_end_yet bytes a s rest =
    let after_name = s.behind_name ++ 61 ∷ (s.before_value ++ s.quote ∷ (s.inner ++ s.quote ∷ rest)) in
    let flat : bytes ++ rest ≡ s.before ++ (a.name ++ after_name) =
    ap (λ t. t ++ rest) s.parts ∙ flat_attribute s.before a.name s.behind_name (codes "=") s.before_value s.quote s.inner rest in
    let one : past_blanks (bytes ++ rest) ≡ a.name ++ after_name =
    ap past_blanks flat ∙ blanks_again s.before (a.name ++ after_name) s.blanks.0 (name_ends_blanks a.name after_name s.name) in
    let two : stripped (codes ">") (a.name ++ after_name) ≡ None = no_word a.name after_name [] 62 s.name refl in
    let three : stripped (codes "/>") (a.name ++ after_name) ≡ None = no_word a.name after_name (62 ∷ []) 47 s.name refl in
    rw (one, two, three) refl

-- ---- the rests of tags

pub rest_again : {given : List ℕ} {attributes : List Attribute} → SpellsAttributes given attributes → (n : ℕ) (tail : List ℕ) (empty : Bool) (rest : List ℕ)
    → length attributes < n → tag_end_taken tail ≡ Some (empty, rest) → tag_rest_taken n (given ++ tail) ≡ Some (attributes, empty, rest)
rest_again s zero tail empty rest few end = absurd (omega arith)
rest_again SpellsAttributes.nothing (suc n) tail empty rest few end = ap (λ o. behind_part o (attribute_taken tail) (λ more. tag_rest_taken n more)) end
rest_again (SpellsAttributes.further {bytes = bytes} {more = more} {attribute = a} {rest = others} s later) (suc n) tail empty rest few end =
    let behind = more ++ tail in
    ap (tag_rest_taken (suc n)) (append_assoc bytes more tail)
    ∙ ap (λ o. behind_part o (attribute_taken (bytes ++ behind)) (λ t. tag_rest_taken n t)) (no_end_yet bytes a s behind)
    ∙ ap (λ o. behind_part None o (λ t. tag_rest_taken n t)) (attribute_again bytes a s behind)
    ∙ ap (option_map (with_attribute a)) (rest_again later n tail empty rest (omega arith) end)

-- the rest of a tag that was taken, and how it is spelled
abbrev pub HasTagRest : List ℕ → TagParts → Type 0
HasTagRest bytes parts = (given : List ℕ) × (tail : List ℕ) × (bytes ≡ given ++ tail) × SpellsAttributes given parts.0 × HasTagEnd tail parts.1 parts.2

pub rest_takes : (n : ℕ) (bytes : List ℕ) (parts : TagParts) → tag_rest_taken n bytes ≡ Some parts → HasTagRest bytes parts
rest_takes zero bytes parts e = absurd cc
rest_takes (suc n) bytes parts e = by_part (tag_end_taken bytes) (attribute_taken bytes) refl refl e (λ more p. rest_takes n more p) where
  by_part : (x : Option (Bool × List ℕ)) (y : Option (Attribute × List ℕ)) → tag_end_taken bytes ≡ x → attribute_taken bytes ≡ y
      → behind_part x y (λ more. tag_rest_taken n more) ≡ Some parts → ((more : List ℕ) (p : TagParts) → tag_rest_taken n more ≡ Some p → HasTagRest more p) → HasTagRest bytes parts
  by_part (Some end) y found other h later =
      let made : TagParts = ([], end.0, end.1) in
      let same : made ≡ parts = some_same made parts h in
      subst (λ (p : TagParts). HasTagRest bytes p) same ([], bytes, refl, SpellsAttributes.nothing, end_takes bytes end.0 end.1 found)
  by_part None (Some a) none found h later =
      map_some (with_attribute a.0) (tag_rest_taken n a.1) parts h (λ p rest_found is.
      let attribute = attribute_takes bytes a.0 a.1 found in
      let more = later a.1 p rest_found in
      let whole : bytes ≡ (attribute.0 ++ more.0) ++ more.1 = attribute.1 ∙ ap (λ t. attribute.0 ++ t) more.2 ∙ sym (append_assoc attribute.0 more.0 more.1) in
      subst (λ (x : TagParts). HasTagRest bytes x) is (attribute.0 ++ more.0, more.1, whole, SpellsAttributes.further attribute.2 more.3, more.4))
  by_part None None none other h later = absurd cc

front_empty : (xs ys : List ℕ) → [] ≡ xs ++ ys → xs ≡ []
front_empty [] ys e = refl
front_empty (x ∷ xs) ys e = absurd cc

-- There are no more attributes than bytes.
pub few_attributes : {given : List ℕ} {attributes : List Attribute} → SpellsAttributes given attributes → length attributes ≤ length given
few_attributes SpellsAttributes.nothing = omega arith
few_attributes (SpellsAttributes.further {bytes = bytes} {more = more} {attribute = a} s later) =
    let some : 1 ≤ length bytes = one_byte bytes a s in
    let fewer = few_attributes later in omega (arith, some, fewer, length-append bytes more) where
      one_byte : (bytes : List ℕ) (a : Attribute) → SpellsAttribute bytes a → 1 ≤ length bytes
      one_byte [] a s =
          let none : [] ≡ s.before ++ (a.name ++ (s.behind_name ++ (codes "=" ++ (s.before_value ++ s.quote ∷ (s.inner ++ s.quote ∷ []))))) =
          s.parts ∙ sym (append-nil _) ∙ flat_attribute s.before a.name s.behind_name (codes "=") s.before_value s.quote s.inner [] in
          absurd (s.some_blank (front_empty s.before _ none))
      one_byte (b ∷ bytes) a s = omega arith

-- ---- different names

any_at : (p : List ℕ → Bool) (xs : List (List ℕ)) → list_any p xs ≡ true → (j : ℕ) × (j < length xs) × ((d : List ℕ) → p (slice_index_or xs j d) ≡ true)
any_at p [] e = absurd cc
any_at p (x ∷ xs) e = elim (or_cases (p x) (list_any p xs) e) [
  | inl here ↦ (0, omega arith, λ d. here)
  | inr later ↦ let more = any_at p xs later in (suc more.0, omega (arith, more.1), more.2)
]

any_from : (p : List ℕ → Bool) (xs : List (List ℕ)) (j : ℕ) (d : List ℕ) → j < length xs → p (slice_index_or xs j d) ≡ true → list_any p xs ≡ true
any_from p [] j d within e = absurd (omega arith)
any_from p (x ∷ xs) zero d within e = or_left (p x) (list_any p xs) e
any_from p (x ∷ xs) (suc j) d within e = or_right (p x) (list_any p xs) (any_from p xs j d (omega arith) e)

pub pairs_from : (xs : List (List ℕ)) → all_different xs ≡ true → AllPairs (λ a b. a ≢ b) xs
pairs_from [] e i j d less within = absurd (omega arith)
pairs_from (x ∷ xs) e zero zero d less within = absurd (omega arith)
pairs_from (x ∷ xs) e (suc i) zero d less within = absurd (omega arith)
pairs_from (x ∷ xs) e zero (suc j) d less within = λ same.
    let both = and_parts (not (list_any (bytes_eq x) xs)) (all_different xs) e in
    let none : list_any (bytes_eq x) xs ≡ false = not-true (list_any (bytes_eq x) xs) both.0 in
    let some : list_any (bytes_eq x) xs ≡ true = any_from (bytes_eq x) xs j d (omega arith) ((bytes_eq-Decides x (slice_index_or xs j d)).1 same) in absurd cc
pairs_from (x ∷ xs) e (suc i) (suc j) d less within =
    pairs_from xs (and_parts (not (list_any (bytes_eq x) xs)) (all_different xs) e).1 i j d (omega arith) (omega arith)

pub from_pairs : (xs : List (List ℕ)) → AllPairs (λ a b. a ≢ b) xs → all_different xs ≡ true
from_pairs [] pairs = refl
from_pairs (x ∷ xs) pairs =
    and_from (not (list_any (bytes_eq x) xs)) (all_different xs) (by_test (list_any (bytes_eq x) xs) refl)
    (from_pairs xs (λ i j d less within. pairs (suc i) (suc j) d (omega arith) (omega arith))) where
      by_test : (b : Bool) → list_any (bytes_eq x) xs ≡ b → not b ≡ true
      by_test false e = refl
      by_test true e =
          let twin = any_at (bytes_eq x) xs e in
          let same : x ≡ slice_index_or xs twin.0 [] = (bytes_eq-Decides x (slice_index_or xs twin.0 [])).0 (twin.2 []) in
          absurd (pairs 0 (suc twin.0) [] (omega arith) (omega (arith, twin.1)) same)
