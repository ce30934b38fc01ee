-- The values of attributes in a text are UTF-8, and so are labels that are made of them.
use Rattle.std.proofs.Common.{◌≡◌, ◌<◌, ℕ, ◌+◌, zero, suc, Bool, true, false, cond, eqb, ltb, leb, ◌||◌, List, [], ◌∷◌, ◌++◌, drop, length, get_or, map, Option, Some, None, refl, sym, ◌∙◌, ap, subst, arith, append_assoc, length-append, codes, IsTrue}
use Rattle.std.specs.Prelude.{encode_utf8, find, slice_get, not}
use Rattle.std.specs.Str.{IsUtf8, all_scalars, bytes_eq}
use Rattle.std.specs.List.{AllByRecursion, list_all}
use Rattle.std.specs.Option.{option_map, option_and_then}
use Rattle.std.proofs.Math.Seq.{take-append_seam, drop-append_seam, get_or-append_seam}
use Rattle.std.proofs.lemmas.List.{append-nil}
use Rattle.std.proofs.lemmas.Bool.{and_parts, and_from, eqb-true, ltb-false, le-leb}
use Rattle.std.proofs.lemmas.Str.{encode_ascii, IsUtf8-nil, IsUtf8-append, IsUtf8-take, IsUtf8-drop, IsCharBoundary-before_ascii, IsCharBoundary-after_ascii}
use lib.Utf8.{scalar}
use Rattle.pssm_values.specs.Labels.{label_byte, label_said}
use Rattle.pssm_values.proofs.LabelLaws.{by_characters}
use Rattle.pssm_xml.specs.Characters.{IsCharacter}
use Rattle.pssm_xml.specs.Pieces.{Attribute, SpellsEscape, less, greater, ampersand, apostrophe, quotation, decimal, hexadecimal, IsQuote, SpellsValue, SpellsAttribute, SpellsAttributes, Piece, Start, Empty, SpellsPiece}
use Rattle.pssm_xml.specs.Documents.{Placed, IsCutInto, IsFileCut, Element, IsContent, IsRootElement}
use Rattle.pssm_xml.specs.Elements.{attribute_value}
use Rattle.pssm_xml.specs.TextFaults.{HasElements}
use Rattle.pssm_xml.proofs.EscapeLaws.{character_from, has_inner}
use Rattle.pssm_xml.proofs.GoodLaws.{characters_utf8}
use Rattle.pssm_semantics.proofs.Appended.{AllByRecursion-append, AllByRecursion-back, AllByRecursion-front}
use Rattle.pssm_flat.specs.Flat.{is_label_byte, IsLabel}

-- ---- UTF-8 is cut beside ASCII

ascii_split : (xs : List ℕ) (c : ℕ) (ys : List ℕ) → c < 128 → IsUtf8 (xs ++ c ∷ ys) → IsUtf8 xs × IsUtf8 ys
ascii_split xs c ys low utf8 =
    let whole : List ℕ = xs ++ c ∷ ys in
    let here : get_or whole (length xs) 0 ≡ c = get_or-append_seam xs c ys 0 in
    let size : length whole ≡ length xs + length (c ∷ ys) = length-append xs (c ∷ ys) in
    let small : get_or whole (length xs) 0 < 128 = omega (arith, here, low) in
    let within : length xs < length whole = omega (arith, size) in
    let before = IsCharBoundary-before_ascii whole (length xs) within small in
    let after = IsCharBoundary-after_ascii whole (length xs) utf8 within small in
    let same : whole ≡ (xs ++ c ∷ []) ++ ys = sym (append_assoc xs (c ∷ []) ys) in
    let next : length xs + 1 ≡ length (xs ++ c ∷ []) = sym (length-append xs (c ∷ [])) in
    let rest : drop (length xs + 1) whole ≡ ys =
    ap (λ n. drop n whole) next ∙ ap (drop (length (xs ++ c ∷ []))) same ∙ drop-append_seam (xs ++ c ∷ []) ys in (
      subst IsUtf8 (take-append_seam xs (c ∷ ys)) (IsUtf8-take whole (length xs) utf8 before),
      subst IsUtf8 rest (IsUtf8-drop whole (length xs + 1) utf8 after),
    )

-- ---- values

one_character : (c : ℕ) → IsCharacter c → IsUtf8 (encode_utf8 c)
one_character c is = characters_utf8 (encode_utf8 c) (record { codes = c ∷ []; characters = (is, tt); spelled = append-nil (encode_utf8 c) })

ascii_character : (c : ℕ) → c < 128 → IsCharacter c → IsUtf8 (c ∷ [])
ascii_character c low is = subst IsUtf8 (encode_ascii c low) (one_character c is)

escape_utf8 : {spelled text : List ℕ} → SpellsEscape spelled text → IsUtf8 text
escape_utf8 less = ascii_character 60 (omega arith) (character_from 60 refl refl)
escape_utf8 greater = ascii_character 62 (omega arith) (character_from 62 refl refl)
escape_utf8 ampersand = ascii_character 38 (omega arith) (character_from 38 refl refl)
escape_utf8 apostrophe = ascii_character 39 (omega arith) (character_from 39 refl refl)
escape_utf8 quotation = ascii_character 34 (omega arith) (character_from 34 refl refl)
escape_utf8 (decimal {digits} {c} are) = one_character c are.character
escape_utf8 (hexadecimal {digits} {c} are) = one_character c are.character

value_utf8 : {quote : ℕ} {inner value : List ℕ} → SpellsValue quote inner value → (front : List ℕ) → IsUtf8 (front ++ inner) → IsUtf8 (front ++ value)
value_utf8 SpellsValue.nothing front utf8 = utf8
value_utf8 (SpellsValue.escape {spelled} {more} {text} {rest} spells value) front utf8 =
    let has = has_inner spells in
    let tail : List ℕ = has.body ++ 59 ∷ [] in
    let first = ascii_split front 38 (tail ++ more) (omega arith) (subst (λ (s : List ℕ). IsUtf8 (front ++ (s ++ more))) has.parts utf8) in
    let second = ascii_split has.body 59 more (omega arith) (subst IsUtf8 (append_assoc has.body (59 ∷ []) more) first.1) in
    IsUtf8-append front (text ++ rest) first.0 (IsUtf8-append text rest (escape_utf8 spells) (value_utf8 value [] second.1))
value_utf8 (SpellsValue.other {c} {more} {rest} no_quote no_tag no_escape value) front utf8 =
    subst IsUtf8 (append_assoc front (c ∷ []) rest) (value_utf8 value (front ++ c ∷ []) (subst IsUtf8 (sym (append_assoc front (c ∷ []) more)) utf8))

-- ---- attributes

low_quote : (c : ℕ) → IsQuote c → c < 128
low_quote c is = go (eqb c 34) refl is where
  go : (b : Bool) → eqb c 34 ≡ b → IsTrue (b || eqb c 39) → c < 128
  go true e is = (let same : c ≡ 34 = eqb-true c 34 e in omega arith)
  go false e is = (let same : c ≡ 39 = eqb-true c 39 is in omega arith)

attribute_utf8 : (bytes : List ℕ) (a : Attribute) → SpellsAttribute bytes a → (front more : List ℕ) → IsUtf8 (front ++ (bytes ++ more))
    → IsUtf8 a.value × IsUtf8 more
attribute_utf8 bytes a spells front more utf8 =
    let q = spells.quote in
    let end : List ℕ = q ∷ (spells.inner ++ q ∷ []) in
    let head : List ℕ = spells.before ++ a.name ++ spells.behind_name ++ codes "=" ++ spells.before_value in
    let whole : front ++ (bytes ++ more) ≡ (front ++ head) ++ q ∷ ((spells.inner ++ q ∷ []) ++ more) =
    ap (λ b. front ++ (b ++ more)) spells.parts ∙ ap (λ b. front ++ b) (append_assoc head end more) ∙ sym (append_assoc front head (end ++ more)) in
    let low = low_quote q spells.quotes in
    let behind = ascii_split (front ++ head) q ((spells.inner ++ q ∷ []) ++ more) low (subst IsUtf8 whole utf8) in
    let parts = ascii_split spells.inner q more low (subst IsUtf8 (append_assoc spells.inner (q ∷ []) more) behind.1) in
    (value_utf8 spells.value [] parts.0, parts.1)

-- Each value is UTF-8.
abbrev pub AreTexts : List Attribute → Type 0
AreTexts attributes = AllByRecursion (λ (a : Attribute). IsUtf8 a.value) attributes

attributes_utf8 : {given : List ℕ} {attributes : List Attribute} → SpellsAttributes given attributes → (front behind : List ℕ)
    → IsUtf8 (front ++ (given ++ behind)) → AreTexts attributes
attributes_utf8 SpellsAttributes.nothing front behind utf8 = tt
attributes_utf8 (SpellsAttributes.further {bytes} {more} {attribute} {rest} one others) front behind utf8 =
    let both = attribute_utf8 bytes attribute one front (more ++ behind) (subst (λ (b : List ℕ). IsUtf8 (front ++ b)) (append_assoc bytes more behind) utf8) in
    (both.0, attributes_utf8 others [] behind both.1)

-- ---- pieces

abbrev HasTexts : Piece → Type 0
HasTexts (Start name attributes) = AreTexts attributes
HasTexts (Empty name attributes) = AreTexts attributes
HasTexts _ = Unit {0}

piece_utf8 : {bytes : List ℕ} {piece : Piece} → SpellsPiece bytes piece → IsUtf8 bytes → HasTexts piece
piece_utf8 (SpellsPiece.start name blanks {given} {attributes} is are blank) utf8 =
    attributes_utf8 are.spelled (60 ∷ name) (blanks ++ codes ">")
    (subst IsUtf8 (append_assoc ((60 ∷ name) ++ given) blanks (codes ">") ∙ append_assoc (60 ∷ name) given (blanks ++ codes ">")) utf8)
piece_utf8 (SpellsPiece.empty name blanks {given} {attributes} is are blank) utf8 =
    attributes_utf8 are.spelled (60 ∷ name) (blanks ++ codes "/>")
    (subst IsUtf8 (append_assoc ((60 ∷ name) ++ given) blanks (codes "/>") ∙ append_assoc (60 ∷ name) given (blanks ++ codes "/>")) utf8)
piece_utf8 (SpellsPiece.closing name blanks is blank) utf8 = tt
piece_utf8 (SpellsPiece.comment inner has_none) utf8 = tt
piece_utf8 (SpellsPiece.bare_instruction name is) utf8 = tt
piece_utf8 (SpellsPiece.instruction name inner blank is blank_is has_none) utf8 = tt
piece_utf8 (SpellsPiece.section inner has_none) utf8 = tt
piece_utf8 (SpellsPiece.escape spells) utf8 = tt
piece_utf8 (SpellsPiece.character c is no_tag no_escape) utf8 = tt

abbrev PlacedTexts : List Placed → Type 0
PlacedTexts ps = AllByRecursion (λ (p : Placed). HasTexts p.piece) ps

cut_utf8 : {at : ℕ} {bytes rest : List ℕ} {ps : List Placed} → IsCutInto at bytes ps rest → PlacedTexts ps
cut_utf8 IsCutInto.nothing = tt
cut_utf8 (IsCutInto.piece {bytes} is others) = (piece_utf8 is.spelled (characters_utf8 bytes is.characters), cut_utf8 others)

file_utf8 : (bytes rest : List ℕ) (ps : List Placed) → IsFileCut bytes ps rest → PlacedTexts ps
file_utf8 bytes rest ps (IsFileCut.with_order_mark text is cut) = cut_utf8 cut
file_utf8 bytes rest ps (IsFileCut.bare none cut) = cut_utf8 cut

-- ---- elements

abbrev OfPlaced : Placed → Type 0
OfPlaced p = HasTexts p.piece

-- The values of each element are UTF-8.
abbrev pub ElementTexts : List Element → Type 0
ElementTexts es = AllByRecursion (λ (e : Element). AreTexts e.attributes) es

abbrev OfElement : Element → Type 0
OfElement e = AreTexts e.attributes

content_utf8 : {parent next : ℕ} {ps : List Placed} {text : List ℕ} {es : List Element} → IsContent parent next ps text es → PlacedTexts ps → ElementTexts es
content_utf8 IsContent.nothing all = tt
content_utf8 (IsContent.aside is more) all = content_utf8 more all.1
content_utf8 (IsContent.text first is more) all = content_utf8 more all.1
content_utf8 (IsContent.empty is more) all = (subst HasTexts is all.0, content_utf8 more all.1)
content_utf8 (IsContent.nested {parent} {next} {p} q {ps} {inner} {name} {text} {inner_text} {attributes} {es} {inner_es} is within ends more) all =
    let front = AllByRecursion-front OfPlaced inner (q ∷ ps) all.1 in
    let back = AllByRecursion-back OfPlaced inner (q ∷ ps) all.1 in
    (subst HasTexts is all.0, AllByRecursion-append OfElement inner_es es (content_utf8 within front) (content_utf8 more back.1))

root_utf8 : {ps : List Placed} {es : List Element} → IsRootElement ps es → PlacedTexts ps → ElementTexts es
root_utf8 (IsRootElement.empty is) all = (subst HasTexts is all.0, tt)
root_utf8 (IsRootElement.nested {p} q {inner} {name} {text} {attributes} {es} is within ends) all = (subst HasTexts is all.0, content_utf8 within (AllByRecursion-front OfPlaced inner (q ∷ []) all.1))

-- The values of the attributes of a text are UTF-8.
pub elements_utf8 : (bytes : List ℕ) (elements : List Element) → HasElements bytes elements → ElementTexts elements
elements_utf8 bytes elements has =
    let all = subst PlacedTexts has.document.parts (file_utf8 bytes [] has.pieces has.cut) in
    let root = has.document.root in
    root_utf8 has.document.root_is (AllByRecursion-back OfPlaced has.document.before root (AllByRecursion-front OfPlaced (has.document.before ++ root) has.document.behind all))

found_utf8 : (p : Attribute → Bool) (attributes : List Attribute) (v : List ℕ) → AreTexts attributes
    → option_map (λ (a : Attribute). a.value) (find p attributes) ≡ Some v → IsUtf8 v
found_utf8 p [] v all e = absurd cc
found_utf8 p (a ∷ rest) v all e = go (p a) e (λ later. found_utf8 p rest v all.1 later) where
  go : (b : Bool) → option_map (λ (x : Attribute). x.value) (cond b (Some a) (find p rest)) ≡ Some v
      → (option_map (λ (x : Attribute). x.value) (find p rest) ≡ Some v → IsUtf8 v) → IsUtf8 v
  go true e others = (let same : a.value ≡ v = cc in subst IsUtf8 same all.0)
  go false e others = others e

-- So is each value that is asked for.
pub value_texts : (doc : List Element) (n : ℕ) (name v : List ℕ) → ElementTexts doc → option_and_then (attribute_value name) (slice_get doc n) ≡ Some v
    → IsUtf8 v
value_texts [] n name v all e = absurd cc
value_texts (x ∷ doc) zero name v all e = found_utf8 (λ (a : Attribute). bytes_eq a.name name) x.attributes v all.0 e
value_texts (x ∷ doc) (suc n) name v all e = value_texts doc n name v all.1 e

-- ---- labels

label_scalars : (cs : List ℕ) → all_scalars cs ≡ true → all_scalars (map label_byte cs) ≡ true
label_scalars [] e = refl
label_scalars (c ∷ cs) e =
    let parts = and_parts (scalar c) (all_scalars cs) e in
    and_from (scalar (label_byte c)) (all_scalars (map label_byte cs)) (go (ltb c 32 || eqb c 127) parts.0) (label_scalars cs parts.1) where
      go : (b : Bool) → scalar c ≡ true → scalar (cond b 32 c) ≡ true
      go true is = refl
      go false is = is

label_utf8 : (bytes : List ℕ) → IsUtf8 bytes → IsUtf8 (map label_byte bytes)
label_utf8 bytes utf8 = (map label_byte utf8.0, (label_scalars utf8.0 utf8.1.0, sym (by_characters utf8.0) ∙ ap (map label_byte) utf8.1.1))

label_clean : (b : ℕ) → is_label_byte (label_byte b) ≡ true
label_clean b = go (ltb b 32) refl where
  high : (t : Bool) → eqb b 127 ≡ t → ltb b 32 ≡ false → is_label_byte (cond t 32 b) ≡ true
  high true is low = refl
  high false is low = and_from (leb 32 b) (not (eqb b 127)) (le-leb 32 b (ltb-false b 32 low)) (ap not is)

  go : (t : Bool) → ltb b 32 ≡ t → is_label_byte (cond (t || eqb b 127) 32 b) ≡ true
  go true e = refl
  go false e = high (eqb b 127) refl e

label_bytes : (bytes : List ℕ) → list_all is_label_byte (map label_byte bytes) ≡ true
label_bytes [] = refl
label_bytes (b ∷ bytes) = and_from (is_label_byte (label_byte b)) (list_all is_label_byte (map label_byte bytes)) (label_clean b) (label_bytes bytes)

pub no_label : IsLabel []
no_label = record { text = IsUtf8-nil; no_control = refl }

-- A label that is made of a text is one.
pub label_is : (said : Option (List ℕ)) (label : List ℕ) → ((v : List ℕ) → said ≡ Some v → IsUtf8 v) → label_said said ≡ Some label → IsLabel label
label_is None label texts e = absurd cc
label_is (Some []) label texts e = absurd cc
label_is (Some (c ∷ cs)) label texts e =
    let same : map label_byte (c ∷ cs) ≡ label = cc in
    subst IsLabel same (record { text = label_utf8 (c ∷ cs) (texts (c ∷ cs) refl); no_control = label_bytes (c ∷ cs) })
