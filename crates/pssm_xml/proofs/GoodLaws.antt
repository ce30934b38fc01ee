-- The good front of a text, and pieces in it.
use Rattle.std.proofs.Common.{◌≡◌, ◌<◌, ◌≤◌, ℕ, ◌+◌, Bool, true, false, cond, List, [], ◌∷◌, ◌++◌, take, drop, length, get_or, Some, None, refl, sym, ◌∙◌, ap, subst, arith, append_assoc}
use Rattle.std.specs.Prelude.{encode_utf8, encode_utf8_all, codes}
use Rattle.std.specs.Str.{IsUtf8, chars, all_scalars}
use Rattle.std.specs.Char.{len_utf8}
use Rattle.std.specs.List.{AllByRecursion}
use Rattle.std.proofs.Math.Seq.{take-append_seam, drop-append_seam}
use Rattle.std.proofs.lemmas.List.{append-nil, length-append, take-append-drop, length-take}
use Rattle.std.proofs.lemmas.Bool.{and_parts, and_from, cond-true, cond-false}
use Rattle.std.proofs.lemmas.Str.{encodes-append, encodes_same, cons_from_encodes, chars_from_encodes, length-encode, IsUtf8-take, IsUtf8-drop, IsCharBoundary-after_ascii}
use lib.Utf8.{scalar, encode}
use Rattle.pssm_xml.proofs.RunLaws.{clash}
use Rattle.pssm_xml.specs.Characters.{IsCharacter, AreCharacters}
use Rattle.pssm_xml.specs.Pieces.{Piece, SpellsPiece, IsPiece}
use Rattle.pssm_xml.specs.Documents.{Placed, IsCutInto, IsFileCut, byte_order_mark}
use Rattle.pssm_xml.specs.TextFaults.{BeginsNoPiece}
use Rattle.pssm_xml.specs.inner.Reading.{is_xml, good_bytes, piece_taken}
use Rattle.pssm_xml.specs.inner.Reads.{IsGoodText}
use Rattle.pssm_xml.proofs.EscapeLaws.{character_from, character_code, has_inner}
use Rattle.pssm_xml.proofs.PieceLaws.{piece_again, piece_takes}

-- ---- characters one behind another

all_joined : (P : ℕ → Type 0) (xs ys : List ℕ) → AllByRecursion P xs → AllByRecursion P ys → AllByRecursion P (xs ++ ys)
all_joined P [] ys a b = b
all_joined P (x ∷ xs) ys a b = (a.0, all_joined P xs ys a.1 b)

all_front : (P : ℕ → Type 0) (xs ys : List ℕ) → AllByRecursion P (xs ++ ys) → AllByRecursion P xs
all_front P [] ys a = tt
all_front P (x ∷ xs) ys a = (a.0, all_front P xs ys a.1)

all_back : (P : ℕ → Type 0) (xs ys : List ℕ) → AllByRecursion P (xs ++ ys) → AllByRecursion P ys
all_back P [] ys a = a
all_back P (x ∷ xs) ys a = all_back P xs ys a.1

pub characters_joined : (xs ys : List ℕ) → AreCharacters xs → AreCharacters ys → AreCharacters (xs ++ ys)
characters_joined xs ys a b = record {
  codes = a.codes ++ b.codes;
  characters = all_joined IsCharacter a.codes b.codes a.characters b.characters;
  spelled = encodes-append a.codes b.codes ∙ ap (λ t. t ++ encode_utf8_all b.codes) a.spelled ∙ ap (λ t. xs ++ t) b.spelled;
}

pub no_characters : AreCharacters []
no_characters = record { codes = []; characters = tt; spelled = refl }

-- ---- the good front

-- the codes that are good, and those from the first on that is not
record IsGoodSplit (cs : List ℕ) : Type 0 where
  good : List ℕ
  rest : List ℕ
  parts : cs ≡ good ++ rest
  characters : AllByRecursion IsCharacter good
  counted : length (encode_utf8_all good) ≡ good_bytes cs

good_split : (cs : List ℕ) → all_scalars cs ≡ true → IsGoodSplit cs
good_split [] e = record { good = []; rest = []; parts = refl; characters = tt; counted = refl }
good_split (c ∷ cs) e =
    let both = and_parts (scalar c) (all_scalars cs) e in by_test (is_xml c) refl both.0 (good_split cs both.1) where
      by_test : (b : Bool) → is_xml c ≡ b → scalar c ≡ true → IsGoodSplit cs → IsGoodSplit (c ∷ cs)
      by_test false is code later = record { good = []; rest = c ∷ cs; parts = refl; characters = tt; counted = sym (cond-false (is_xml c) (len_utf8 c + good_bytes cs) 0 is) }
      by_test true is code later =
          let l = later.counted in
          let long : length (encode_utf8 c ++ encode_utf8_all later.good) ≡ len_utf8 c + good_bytes cs = omega (arith, l, length-append (encode_utf8 c) (encode_utf8_all later.good), length-encode c) in
          record {
            good = c ∷ later.good;
            rest = later.rest;
            parts = ap (λ t. c ∷ t) later.parts;
            characters = (character_from c code is, later.characters);
            counted = long ∙ sym (cond-true (is_xml c) (len_utf8 c + good_bytes cs) 0 is);
          }

-- Good codes are within the good front.
good_most : (ds es : List ℕ) → AllByRecursion IsCharacter ds → length (encode_utf8_all ds) ≤ good_bytes (ds ++ es)
good_most [] es all = omega arith
good_most (d ∷ ds) es all =
    let is = (character_code d all.0).1 in
    let more = good_most ds es all.1 in
    let here : good_bytes (d ∷ (ds ++ es)) ≡ len_utf8 d + good_bytes (ds ++ es) = cond-true (is_xml d) (len_utf8 d + good_bytes (ds ++ es)) 0 is in
    omega (arith, more, here, length-append (encode_utf8 d) (encode_utf8_all ds), length-encode d)

-- Codes whose bytes go on with those of others go on with these.
codes_front : (ds cs : List ℕ) (more : List ℕ) → encode_utf8_all cs ≡ encode_utf8_all ds ++ more → (es : List ℕ) × (cs ≡ ds ++ es)
codes_front [] cs more e = (cs, refl)
codes_front (d ∷ ds) cs more e =
    let first = cons_from_encodes cs (encode_utf8_all ds ++ more) d (e ∙ append_assoc (encode_utf8 d) (encode_utf8_all ds) more) in
    let later = codes_front ds first.0 more first.2 in
    (later.0, first.1 ∙ ap (λ t. d ∷ t) later.1)

pub good_text : (bytes : List ℕ) → IsUtf8 bytes → IsGoodText bytes (take (good_bytes (chars bytes)) bytes) (drop (good_bytes (chars bytes)) bytes)
good_text bytes u =
    let cs = u.0 in
    let same : cs ≡ chars bytes = chars_from_encodes cs bytes u u.1.1 in
    let split = good_split cs u.1.0 in
    let n = good_bytes (chars bytes) in
    let long : length (encode_utf8_all split.good) ≡ n = split.counted ∙ ap good_bytes same in
    let whole : bytes ≡ encode_utf8_all split.good ++ encode_utf8_all split.rest = sym u.1.1 ∙ ap encode_utf8_all split.parts ∙ encodes-append split.good split.rest in
    let text : take n bytes ≡ encode_utf8_all split.good =
    ap (λ k. take k bytes) (sym long) ∙ ap (take (length (encode_utf8_all split.good))) whole ∙ take-append_seam (encode_utf8_all split.good) (encode_utf8_all split.rest) in
    record {
      parts = sym (take-append-drop n bytes);
      characters = record { codes = split.good; characters = split.characters; spelled = sym text };
      longest = λ longer more parts are.
          let e : encode_utf8_all cs ≡ encode_utf8_all are.codes ++ more = u.1.1 ∙ parts ∙ ap (λ t. t ++ more) (sym are.spelled) in
          let front = codes_front are.codes cs more e in
          let most = good_most are.codes front.0 are.characters in
          let there : good_bytes (are.codes ++ front.0) ≡ n = ap good_bytes (sym front.1) ∙ ap good_bytes same in
          let size : length longer ≡ length (encode_utf8_all are.codes) = ap length (sym are.spelled) in
          let text_size : length (take n bytes) ≡ n = ap length text ∙ long in
          omega (arith, most, there, size, text_size);
    }

-- ---- pieces end where characters end

-- The front ends with an ASCII byte, or is one character.
data EndsCharacter (front : List ℕ) : Type 0 where
  ascii : (body : List ℕ) (k : ℕ) → front ≡ body ++ k ∷ [] → k < 128 → EndsCharacter front
  character : (c : ℕ) → front ≡ encode_utf8 c → EndsCharacter front

piece_ends : {front : List ℕ} {piece : Piece} → SpellsPiece front piece → EndsCharacter front
piece_ends (SpellsPiece.start name blanks {given = given} named are blank) = ascii (((codes "<" ++ name) ++ given) ++ blanks) 62 refl (omega arith)
piece_ends (SpellsPiece.empty name blanks {given = given} named are blank) =
    let body = ((codes "<" ++ name) ++ given) ++ blanks in ascii (body ++ 47 ∷ []) 62 (sym (append_assoc body (47 ∷ []) (62 ∷ []))) (omega arith)
piece_ends (SpellsPiece.closing name blanks named blank) = ascii ((codes "</" ++ name) ++ blanks) 62 refl (omega arith)
piece_ends (SpellsPiece.comment inner none) = let body = codes "<!--" ++ inner in ascii (body ++ 45 ∷ 45 ∷ []) 62 (sym (append_assoc body (45 ∷ 45 ∷ []) (62 ∷ []))) (omega arith)
piece_ends (SpellsPiece.bare_instruction name named) = let body = codes "<?" ++ name in ascii (body ++ 63 ∷ []) 62 (sym (append_assoc body (63 ∷ []) (62 ∷ []))) (omega arith)
piece_ends (SpellsPiece.instruction name inner blank named is none) =
    let body = codes "<?" ++ name in
    ascii (body ++ blank ∷ (inner ++ 63 ∷ [])) 62
    (ap (λ t. body ++ blank ∷ t) (sym (append_assoc inner (63 ∷ []) (62 ∷ []))) ∙ sym (append_assoc body (blank ∷ (inner ++ 63 ∷ [])) (62 ∷ []))) (omega arith)
piece_ends (SpellsPiece.section inner none) = let body = codes "<![CDATA[" ++ inner in ascii (body ++ 93 ∷ 93 ∷ []) 62 (sym (append_assoc body (93 ∷ 93 ∷ []) (62 ∷ []))) (omega arith)
piece_ends (SpellsPiece.escape {bytes = spelled} escape) = let has = has_inner escape in ascii (38 ∷ has.body) 59 has.parts (omega arith)
piece_ends (SpellsPiece.character c is one two) = character c refl

get_seam : (xs : List ℕ) (k : ℕ) (ys : List ℕ) → get_or (xs ++ k ∷ ys) (length xs) 0 ≡ k
get_seam [] k ys = refl
get_seam (x ∷ xs) k ys = get_seam xs k ys

-- the characters of both parts
record AreBoth (front rest : List ℕ) : Type 0 where
  first : AreCharacters front
  second : AreCharacters rest

both_parts : (front rest : List ℕ) (cs : List ℕ) → AllByRecursion IsCharacter cs → encode_utf8_all cs ≡ front ++ rest → IsUtf8 front → IsUtf8 rest → AreBoth front rest
both_parts front rest cs all spelled a b =
    let joined : encode_utf8_all (a.0 ++ b.0) ≡ encode_utf8_all cs = encodes-append a.0 b.0 ∙ ap (λ t. t ++ encode_utf8_all b.0) a.1.1 ∙ ap (λ t. front ++ t) b.1.1 ∙ sym spelled in
    let same : cs ≡ a.0 ++ b.0 = sym (encodes_same (a.0 ++ b.0) cs joined) in
    let both : AllByRecursion IsCharacter (a.0 ++ b.0) = subst (λ (x : List ℕ). AllByRecursion IsCharacter x) same all in
    record {
      first = record { codes = a.0; characters = all_front IsCharacter a.0 b.0 both; spelled = a.1.1 };
      second = record { codes = b.0; characters = all_back IsCharacter a.0 b.0 both; spelled = b.1.1 };
    }

scalars_of : (cs : List ℕ) → AllByRecursion IsCharacter cs → all_scalars cs ≡ true
scalars_of [] all = refl
scalars_of (c ∷ cs) all = and_from (scalar c) (all_scalars cs) (character_code c all.0).0 (scalars_of cs all.1)

pub characters_utf8 : (bytes : List ℕ) → AreCharacters bytes → IsUtf8 bytes
characters_utf8 bytes a = (a.codes, (scalars_of a.codes a.characters, a.spelled))

cut_there : (front rest : List ℕ) → AreCharacters (front ++ rest) → EndsCharacter front → AreBoth front rest
cut_there front rest a (character c is) =
    let first = cons_from_encodes a.codes rest c (a.spelled ∙ ap (λ t. t ++ rest) is) in
    let all : AllByRecursion IsCharacter (c ∷ first.0) = subst (λ (x : List ℕ). AllByRecursion IsCharacter x) first.1 a.characters in
    record {
      first = record { codes = c ∷ []; characters = (all.0, tt); spelled = append-nil (encode_utf8 c) ∙ sym is };
      second = record { codes = first.0; characters = all.1; spelled = first.2 };
    }
cut_there front rest a (ascii body k is low) =
    let whole = front ++ rest in
    let utf8 = characters_utf8 whole a in
    let flat : whole ≡ body ++ k ∷ rest = ap (λ t. t ++ rest) is ∙ append_assoc body (k ∷ []) rest in
    let here : get_or whole (length body) 0 ≡ k = ap (λ t. get_or t (length body) 0) flat ∙ get_seam body k rest in
    let size : length front ≡ length body + 1 = ap length is ∙ length-append body (k ∷ []) in
    let long : length whole ≡ length front + length rest = length-append front rest in
    let boundary = IsCharBoundary-after_ascii whole (length body) utf8 (omega (arith, size, long)) (omega (arith, here, low)) in
    let front_is : take (length body + 1) whole ≡ front = ap (λ n. take n whole) (sym size) ∙ take-append_seam front rest in
    let rest_is : drop (length body + 1) whole ≡ rest = ap (λ n. drop n whole) (sym size) ∙ drop-append_seam front rest in
    let one : IsUtf8 front = subst IsUtf8 front_is (IsUtf8-take whole (length body + 1) utf8 boundary) in
    let two : IsUtf8 rest = subst IsUtf8 rest_is (IsUtf8-drop whole (length body + 1) utf8 boundary) in
    both_parts front rest a.codes a.characters a.spelled one two

-- a piece that was taken of good characters
pub record IsTaken (bytes : List ℕ) (piece : Piece) (rest : List ℕ) : Type 0 where
  pub front : List ℕ
  pub parts : bytes ≡ front ++ rest
  pub is_piece : IsPiece front piece
  pub characters : AreCharacters rest

pub piece_of_characters : (bytes : List ℕ) (piece : Piece) (rest : List ℕ) → AreCharacters bytes → piece_taken bytes ≡ Some (piece, rest) → IsTaken bytes piece rest
piece_of_characters bytes piece rest a e =
    let has = piece_takes bytes piece rest a e in
    let both = cut_there has.0 rest (subst AreCharacters has.1 a) (piece_ends has.2) in
    record { front = has.0; parts = has.1; is_piece = record { spelled = has.2; characters = both.first }; characters = both.second }

-- ---- where no piece begins

front_within : (xs ys zs ws : List ℕ) → xs ++ ys ≡ zs ++ ws → length zs ≤ length xs → (r : List ℕ) × (xs ≡ zs ++ r)
front_within xs ys [] ws e few = (xs, refl)
front_within [] ys (z ∷ zs) ws e few = absurd (omega arith)
front_within (x ∷ xs) ys (z ∷ zs) ws e few =
    let head : x ≡ z = cc in let tail : xs ++ ys ≡ zs ++ ws = cc in
    let later = front_within xs ys zs ws tail (omega arith) in
    (later.0, ap (λ k. k ∷ xs) head ∙ ap (λ t. z ∷ t) later.1)

pub none_begins : (bytes text bad front rest : List ℕ) → IsGoodText bytes text bad → text ≡ front ++ rest → AreCharacters front → piece_taken rest ≡ None → BeginsNoPiece (rest ++ bad)
none_begins bytes text bad front rest good parts are none b more piece split is =
    let whole : bytes ≡ (front ++ b) ++ more = good.parts ∙ ap (λ t. t ++ bad) parts ∙ append_assoc front rest bad ∙ ap (λ t. front ++ t) split ∙ sym (append_assoc front b more) in
    let longest = good.longest (front ++ b) more whole (characters_joined front b are is.characters) in
    let size : length text ≡ length front + length rest = ap length parts ∙ length-append front rest in
    let few : length b ≤ length rest = omega (arith, longest, size, length-append front b) in
    let within = front_within rest bad b more split few in
    let taken : piece_taken rest ≡ Some (let z : Piece × List ℕ = (piece, within.0) in z) = ap piece_taken within.1 ∙ piece_again is.spelled within.0 in
    absurd cc

-- ---- the byte order mark

pub mark_characters : AreCharacters byte_order_mark
unfolding encode
mark_characters = record { codes = 65279 ∷ []; characters = (IsCharacter.printed refl (omega arith) (λ e. clash 65279 65534 refl e) (λ e. clash 65279 65535 refl e), tt); spelled = refl }

mark_spelled : encode_utf8 65279 ≡ byte_order_mark
unfolding encode
mark_spelled = refl

pub mark_rest : (rest : List ℕ) → AreCharacters (byte_order_mark ++ rest) → AreCharacters rest
mark_rest rest a = (cut_there byte_order_mark rest a (character 65279 (sym mark_spelled))).second

-- The good front has the mark where the bytes have it.
pub mark_within : (bytes text bad t : List ℕ) → IsGoodText bytes text bad → bytes ≡ byte_order_mark ++ t → (r : List ℕ) × (text ≡ byte_order_mark ++ r)
mark_within bytes text bad t good mark =
    let long = good.longest byte_order_mark t mark mark_characters in
    front_within text bad byte_order_mark t (sym good.parts ∙ mark) long

-- ---- what was cut

cut_bytes : {at : ℕ} {bytes rest : List ℕ} {ps : List Placed} → IsCutInto at bytes ps rest → (c : List ℕ) × (bytes ≡ c ++ rest)
cut_bytes IsCutInto.nothing = ([], refl)
cut_bytes (IsCutInto.piece {bytes = b} {more = x} {rest = r} is c) = let later = cut_bytes c in (b ++ later.0, ap (λ t. b ++ t) later.1 ∙ sym (append_assoc b later.0 r))

pub cut_front : (bytes rest : List ℕ) (ps : List Placed) → IsFileCut bytes ps rest → (c : List ℕ) × (bytes ≡ c ++ rest)
cut_front bytes rest ps (IsFileCut.with_order_mark text mark c) =
    let later = cut_bytes c in (byte_order_mark ++ later.0, mark ∙ ap (λ t. byte_order_mark ++ t) later.1 ∙ sym (append_assoc byte_order_mark later.0 rest))
cut_front bytes rest ps (IsFileCut.bare none c) = cut_bytes c

good_one : (c : ℕ) (cs : List ℕ) (b : Bool) → good_bytes cs ≤ length (encode_utf8_all cs) → cond b (len_utf8 c + good_bytes cs) 0 ≤ length (encode_utf8 c ++ encode_utf8_all cs)
good_one c cs true l = omega (arith, l, length-append (encode_utf8 c) (encode_utf8_all cs), length-encode c)
good_one c cs false l = omega arith

good_le : (cs : List ℕ) → good_bytes cs ≤ length (encode_utf8_all cs)
good_le [] = omega arith
good_le (c ∷ cs) = good_one c cs (is_xml c) (good_le cs)

-- The good front is no longer than the bytes.
pub good_within : (bytes : List ℕ) → IsUtf8 bytes → good_bytes (chars bytes) ≤ length bytes
good_within bytes u =
    let same : u.0 ≡ chars bytes = chars_from_encodes u.0 bytes u u.1.1 in
    let few = good_le u.0 in
    let n : good_bytes u.0 ≡ good_bytes (chars bytes) = ap good_bytes same in
    let l : length (encode_utf8_all u.0) ≡ length bytes = ap length u.1.1 in
    omega (arith, few, n, l)

-- the same by what the code has cut
pub good_slice : (bytes good : List ℕ) (n : ℕ) → IsUtf8 bytes → n ≡ good_bytes (chars bytes) → good ≡ take n bytes → IsGoodText bytes good (drop (length good) bytes)
good_slice bytes good n utf8 count is =
    let k = good_bytes (chars bytes) in
    let g = good_text bytes utf8 in
    let text : good ≡ take k bytes = is ∙ ap (λ m. take m bytes) count in
    let size : length good ≡ k = ap length text ∙ (let l = good_within bytes utf8 in let t = length-take k bytes in omega (arith, l, t)) in
    subst (λ (t : List ℕ). IsGoodText bytes t (drop (length good) bytes)) (sym text) (subst (λ (m : ℕ). IsGoodText bytes (take k bytes) (drop m bytes)) (sym size) g)
