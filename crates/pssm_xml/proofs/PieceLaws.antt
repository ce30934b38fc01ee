-- Pieces: what is taken is spelled so, and what is spelled so is taken.
use Rattle.std.proofs.Common.{◌≡◌, ◌≢◌, ◌<◌, ◌≤◌, ◌⊎◌, inl, inr, ℕ, ◌+◌, ◌/◌, Bool, true, false, cond, eqb, leb, List, [], ◌∷◌, ◌++◌, take, drop, length, map, Option, Some, None, refl, sym, ◌∙◌, ap, subst, arith, append_assoc}
use Rattle.std.specs.Prelude.{option_map, option_and_then, codes, encode_utf8, encode_utf8_all}
use Rattle.std.specs.List.{list_all, AllPairs, AllByRecursion}
use Rattle.std.specs.Str.{continuation_len}
use Rattle.std.proofs.Math.Seq.{take-append_seam, drop-append_seam}
use Rattle.std.proofs.lemmas.List.{length-append, append_cancel_right}
use Rattle.std.proofs.lemmas.Bool.{and_parts, cases_lt, le-ltb, lt-ltb, le-leb, eqb-true, ne_eqb, cond-true, cond-false}
use Rattle.std.proofs.lemmas.Str.{encode_ascii}
use lib.Utf8.{encode, next}
use Rattle.pssm_spelling.specs.SpellingReading.{stripped, EndsRun}
use Rattle.pssm_spelling.proofs.SpellingLaws.{stripped_takes, stripped_again}
use Rattle.pssm_xml.specs.Characters.{IsCharacter, AreCharacters, is_blank, AreBlanks, HasNo}
use Rattle.pssm_xml.specs.Pieces.{continues_tag_name, IsTagName, Attribute, SpellsAttributes, AreAttributes, Piece, End, Aside, Escaped, Plain, SpellsPiece}
use Rattle.pssm_xml.specs.inner.Reading.{past_blanks, begins_with, tag_name_taken, until, escape_taken, or_else, tag_rest_taken, all_different, tag_piece, whole_tag, tag_taken, end_taken, comment_taken, section_taken, instruction_rest, instruction_taken, behind_word, markup_taken, plain_taken, escape_piece_taken, piece_taken}
use Rattle.pssm_xml.proofs.RunLaws.{then_some, map_some, test_some, some_same, clash, blanks_again, blanks_taken, blank_is, name_again, name_takes, until_again, until_takes, not_taken, instruction_end, section_end, comment_end, has_none, comment_has_none}
use Rattle.pssm_xml.proofs.EscapeLaws.{has_inner, escape_again, escape_takes}
use Rattle.pssm_xml.proofs.PartLaws.{blanks_end_name, no_word, flat_attribute, tag_close, end_again, rest_again, rest_takes, few_attributes, pairs_from, from_pairs}

-- a piece that was taken, and how it is spelled
abbrev pub HasPiece : List ℕ → Piece → List ℕ → Type 0
HasPiece bytes piece rest = (front : List ℕ) × (bytes ≡ front ++ rest) × SpellsPiece front piece

moved : (bytes : List ℕ) (p q : Piece) (x y : List ℕ) → (let a : Piece × List ℕ = (p, x) in Some a) ≡ Some (q, y) → HasPiece bytes p x → HasPiece bytes q y
moved bytes p q x y e has = let a : Piece × List ℕ = (p, x) in let b : Piece × List ℕ = (q, y) in subst (λ (z : Piece × List ℕ). HasPiece bytes z.0 z.1) (some_same a b e) has

-- ---- tags that begin elements

given_ends : {given : List ℕ} {attributes : List Attribute} → SpellsAttributes given attributes → (tail : List ℕ) → EndsRun continues_tag_name tail → EndsRun continues_tag_name (given ++ tail)
given_ends SpellsAttributes.nothing tail ends = ends
given_ends (SpellsAttributes.further {bytes = bytes} {more = more} {attribute = a} s later) tail ends =
    let behind = a.name ++ (s.behind_name ++ (codes "=" ++ (s.before_value ++ s.quote ∷ (s.inner ++ s.quote ∷ (more ++ tail))))) in
    let flat : (bytes ++ more) ++ tail ≡ s.before ++ behind =
    append_assoc bytes more tail ∙ ap (λ t. t ++ (more ++ tail)) s.parts ∙ flat_attribute s.before a.name s.behind_name (codes "=") s.before_value s.quote s.inner (more ++ tail) in
    subst (λ (t : List ℕ). EndsRun continues_tag_name t) (sym flat) (some_end s.before behind s.blanks.0 s.some_blank) where
      some_end : (blanks rest : List ℕ) → AreBlanks blanks → blanks ≢ [] → EndsRun continues_tag_name (blanks ++ rest)
      some_end [] rest are some = absurd (some refl)
      some_end (c ∷ cs) rest are some = blank_is c (and_parts (is_blank c) (list_all is_blank cs) are).0 (λ k. continues_tag_name k ≡ false) refl refl refl refl

close_ends : (empty : Bool) (rest : List ℕ) → EndsRun continues_tag_name (tag_close empty ++ rest)
close_ends false rest = refl
close_ends true rest = refl

tag_again : (name : List ℕ) {given : List ℕ} {attributes : List Attribute} (blanks rest : List ℕ) (empty : Bool) → IsTagName name → AreAttributes given attributes → AreBlanks blanks
    → tag_taken (name ++ (given ++ (blanks ++ (tag_close empty ++ rest)))) ≡ Some (tag_piece name attributes empty, rest)
unfolding tag_taken
tag_again name {given = given} {attributes = attributes} blanks rest empty named are blank =
    let tail = blanks ++ (tag_close empty ++ rest) in
    let behind = given ++ tail in
    let ends = given_ends are.spelled tail (blanks_end_name blanks (tag_close empty ++ rest) blank (close_ends empty rest)) in
    let one : tag_name_taken (name ++ behind) ≡ Some (name, behind) = name_again name behind named ends in
    let few : length attributes < length behind + 1 = omega (arith, few_attributes are.spelled, length-append given tail) in
    let two : tag_rest_taken (length behind + 1) behind ≡ Some (attributes, empty, rest) = rest_again are.spelled (length behind + 1) tail empty rest few (end_again blanks rest empty blank) in
    let three = from_pairs (map (λ (a : Attribute). a.name) attributes) are.different in
    ap (option_and_then (λ (x : List ℕ × List ℕ). option_and_then (whole_tag x.0) (tag_rest_taken (length x.1 + 1) x.1))) one
    ∙ ap (option_and_then (whole_tag name)) two
    ∙ cond-true (all_different (map (λ (a : Attribute). a.name) attributes)) (Some (tag_piece name attributes empty, rest)) None three

markup_tag : (name rest : List ℕ) → IsTagName name → markup_taken (name ++ rest) ≡ tag_taken (name ++ rest)
unfolding markup_taken
markup_tag name rest named =
    let one : stripped (codes "/") (name ++ rest) ≡ None = no_word name rest [] 47 named refl in
    let two : stripped (codes "!--") (name ++ rest) ≡ None = no_word name rest (codes "--") 33 named refl in
    let three : stripped (codes "![CDATA[") (name ++ rest) ≡ None = no_word name rest (codes "[CDATA[") 33 named refl in
    let four : stripped (codes "?") (name ++ rest) ≡ None = no_word name rest [] 63 named refl in
    rw (one, two, three, four) refl

flat_tag : (name given blanks close rest : List ℕ) → (((name ++ given) ++ blanks) ++ close) ++ rest ≡ name ++ (given ++ (blanks ++ (close ++ rest)))
flat_tag name given blanks close rest = simp append_assoc

markup_piece : (bytes : List ℕ) → piece_taken (60 ∷ bytes) ≡ markup_taken bytes
unfolding piece_taken
markup_piece bytes = refl

tag_piece_again : (name : List ℕ) {given : List ℕ} {attributes : List Attribute} (blanks rest : List ℕ) (empty : Bool) → IsTagName name → AreAttributes given attributes → AreBlanks blanks
    → piece_taken (60 ∷ ((((name ++ given) ++ blanks) ++ tag_close empty) ++ rest)) ≡ Some (tag_piece name attributes empty, rest)
tag_piece_again name {given = given} {attributes = attributes} blanks rest empty named are blank =
    ap (λ t. piece_taken (60 ∷ t)) (flat_tag name given blanks (tag_close empty) rest)
    ∙ markup_piece (name ++ (given ++ (blanks ++ (tag_close empty ++ rest))))
    ∙ markup_tag name (given ++ (blanks ++ (tag_close empty ++ rest))) named
    ∙ tag_again name blanks rest empty named are blank

tag_takes : (bytes : List ℕ) (piece : Piece) (rest : List ℕ) → tag_taken bytes ≡ Some (piece, rest) → HasPiece (60 ∷ bytes) piece rest
unfolding tag_taken
tag_takes bytes piece rest e =
    then_some _ (tag_name_taken bytes) (piece, rest) e (λ x named h.
    then_some _ (tag_rest_taken (length x.1 + 1) x.1) (piece, rest) h (λ parts found k.
    let tests = test_some (all_different (map (λ (a : Attribute). a.name) parts.0)) (Some (tag_piece x.0 parts.0 parts.1, parts.2)) (piece, rest) k in
    let name = name_takes bytes x.0 x.1 named in
    let behind = rest_takes (length x.1 + 1) x.1 parts found in
    let end = behind.4 in
    let different : AllPairs (λ a b. a ≢ b) (map (λ (a : Attribute). a.name) parts.0) = pairs_from (map (λ (a : Attribute). a.name) parts.0) tests.0 in
    let are : AreAttributes behind.0 parts.0 = record { spelled = behind.3; different = different } in
    let whole : bytes ≡ (((x.0 ++ behind.0) ++ end.0) ++ tag_close parts.1) ++ parts.2 =
    name.0 ∙ ap (λ t. x.0 ++ t) (behind.2 ∙ ap (λ t. behind.0 ++ t) end.1) ∙ sym (flat_tag x.0 behind.0 end.0 (tag_close parts.1) parts.2) in
    moved (60 ∷ bytes) (tag_piece x.0 parts.0 parts.1) piece parts.2 rest tests.1
    (60 ∷ (((x.0 ++ behind.0) ++ end.0) ++ tag_close parts.1), ap (λ t. 60 ∷ t) whole, spelled x.0 parts.0 behind.0 end.0 parts.1 name.1 are end.2))) where
      spelled : (name : List ℕ) (attributes : List Attribute) (given blanks : List ℕ) (empty : Bool) → IsTagName name → AreAttributes given attributes → AreBlanks blanks
          → SpellsPiece (60 ∷ (((name ++ given) ++ blanks) ++ tag_close empty)) (tag_piece name attributes empty)
      spelled name attributes given blanks false named are blank = SpellsPiece.start name blanks named are blank
      spelled name attributes given blanks true named are blank = SpellsPiece.empty name blanks named are blank

-- ---- tags that end elements

end_piece_again : (name blanks rest : List ℕ) → IsTagName name → AreBlanks blanks → end_taken (name ++ (blanks ++ 62 ∷ rest)) ≡ Some (End name, rest)
unfolding end_taken
end_piece_again name blanks rest named blank =
    let one : tag_name_taken (name ++ (blanks ++ 62 ∷ rest)) ≡ Some (name, blanks ++ 62 ∷ rest) = name_again name (blanks ++ 62 ∷ rest) named (blanks_end_name blanks (62 ∷ rest) blank refl) in
    let two : past_blanks (blanks ++ 62 ∷ rest) ≡ 62 ∷ rest = blanks_again blanks (62 ∷ rest) blank refl in
    let three : stripped (codes ">") (62 ∷ rest) ≡ Some rest = stripped_again (codes ">") rest in
    ap (option_and_then (λ (x : List ℕ × List ℕ). option_map (λ (r : List ℕ). let z : Piece × List ℕ = (End x.0, r) in z) (stripped (codes ">") (past_blanks x.1)))) one
    ∙ ap (λ t. option_map (λ (r : List ℕ). let z : Piece × List ℕ = (End name, r) in z) (stripped (codes ">") t)) two
    ∙ ap (option_map (λ (r : List ℕ). let z : Piece × List ℕ = (End name, r) in z)) three

flat_end : (name blanks close rest : List ℕ) → ((name ++ blanks) ++ close) ++ rest ≡ name ++ (blanks ++ (close ++ rest))
flat_end name blanks close rest = simp append_assoc

end_takes : (bytes : List ℕ) (piece : Piece) (rest : List ℕ) → end_taken bytes ≡ Some (piece, rest) → HasPiece (60 ∷ 47 ∷ bytes) piece rest
unfolding end_taken
end_takes bytes piece rest e =
    then_some _ (tag_name_taken bytes) (piece, rest) e (λ x named h.
    map_some _ (stripped (codes ">") (past_blanks x.1)) (piece, rest) h (λ r found is.
    let name = name_takes bytes x.0 x.1 named in
    let blanks = blanks_taken x.1 in
    let close : past_blanks x.1 ≡ 62 ∷ r = stripped_takes (codes ">") (past_blanks x.1) r found in
    let whole : bytes ≡ ((x.0 ++ blanks.0) ++ codes ">") ++ r =
    name.0 ∙ ap (λ t. x.0 ++ t) (blanks.1 ∙ ap (λ t. blanks.0 ++ t) close) ∙ sym (flat_end x.0 blanks.0 (codes ">") r) in
    moved (60 ∷ 47 ∷ bytes) (End x.0) piece r rest (ap Some is)
    (60 ∷ 47 ∷ ((x.0 ++ blanks.0) ++ codes ">"), ap (λ t. 60 ∷ 47 ∷ t) whole, SpellsPiece.closing x.0 blanks.0 name.1 blanks.2)))

-- ---- comments, sections, instructions

comment_again : (inner rest : List ℕ) → HasNo (codes "--") (inner ++ codes "-") → comment_taken (inner ++ 45 ∷ 45 ∷ 62 ∷ rest) ≡ Some (Aside, rest)
unfolding comment_taken
comment_again inner rest none =
    let one : until (codes "--") (inner ++ 45 ∷ 45 ∷ 62 ∷ rest) ≡ Some (inner, 62 ∷ rest) = until_again (codes "--") inner (62 ∷ rest) (λ e. absurd cc) (comment_end inner (62 ∷ rest) none) in
    let two : stripped (codes ">") (62 ∷ rest) ≡ Some rest = stripped_again (codes ">") rest in
    ap (option_and_then (λ (x : List ℕ × List ℕ). option_map (λ (r : List ℕ). let z : Piece × List ℕ = (Aside, r) in z) (stripped (codes ">") x.1))) one
    ∙ ap (option_map (λ (r : List ℕ). let z : Piece × List ℕ = (Aside, r) in z)) two

comment_takes : (bytes : List ℕ) (piece : Piece) (rest : List ℕ) → comment_taken bytes ≡ Some (piece, rest) → HasPiece (60 ∷ 33 ∷ 45 ∷ 45 ∷ bytes) piece rest
unfolding comment_taken
comment_takes bytes piece rest e =
    then_some _ (until (codes "--") bytes) (piece, rest) e (λ x found h.
    map_some _ (stripped (codes ">") x.1) (piece, rest) h (λ r closed is.
    let word = until_takes (codes "--") bytes x.0 x.1 found in
    let close : x.1 ≡ 62 ∷ r = stripped_takes (codes ">") x.1 r closed in
    let whole : bytes ≡ (x.0 ++ codes "-->") ++ r = word.0 ∙ ap (λ t. x.0 ++ 45 ∷ 45 ∷ t) close ∙ sym (append_assoc x.0 (codes "-->") r) in
    moved (60 ∷ 33 ∷ 45 ∷ 45 ∷ bytes) Aside piece r rest (ap Some is)
    (60 ∷ 33 ∷ 45 ∷ 45 ∷ (x.0 ++ codes "-->"), ap (λ t. 60 ∷ 33 ∷ 45 ∷ 45 ∷ t) whole, SpellsPiece.comment x.0 (comment_has_none x.0 x.1 word.1))))

section_again : (inner rest : List ℕ) → HasNo (codes "]]>") inner → section_taken (inner ++ 93 ∷ 93 ∷ 62 ∷ rest) ≡ Some (Escaped inner, rest)
unfolding section_taken
section_again inner rest none =
    let one : until (codes "]]>") (inner ++ 93 ∷ 93 ∷ 62 ∷ rest) ≡ Some (inner, rest) = until_again (codes "]]>") inner rest (λ e. absurd cc) (section_end inner rest none) in
    ap (option_map (λ (x : List ℕ × List ℕ). let z : Piece × List ℕ = (Escaped x.0, x.1) in z)) one

section_takes : (bytes : List ℕ) (piece : Piece) (rest : List ℕ) → section_taken bytes ≡ Some (piece, rest) → HasPiece (codes "<![CDATA[" ++ bytes) piece rest
unfolding section_taken
section_takes bytes piece rest e =
    map_some _ (until (codes "]]>") bytes) (piece, rest) e (λ x found is.
    let word = until_takes (codes "]]>") bytes x.0 x.1 found in
    let whole : bytes ≡ (x.0 ++ codes "]]>") ++ x.1 = word.0 ∙ sym (append_assoc x.0 (codes "]]>") x.1) in
    moved (codes "<![CDATA[" ++ bytes) (Escaped x.0) piece x.1 rest (ap Some is)
    (codes "<![CDATA[" ++ (x.0 ++ codes "]]>"), ap (λ t. codes "<![CDATA[" ++ t) whole, SpellsPiece.section x.0 (has_none (codes "]]>") x.0 x.1 (λ n. absurd cc) word.1)))

bare_rest : (rest : List ℕ) → instruction_rest (63 ∷ 62 ∷ rest) ≡ Some rest
unfolding instruction_rest
bare_rest rest = let found : stripped (codes "?>") (63 ∷ 62 ∷ rest) ≡ Some rest = stripped_again (codes "?>") rest in rw found refl

inner_rest : (blank : ℕ) (inner rest : List ℕ) → is_blank blank ≡ true → HasNo (codes "?>") inner → instruction_rest (blank ∷ (inner ++ 63 ∷ 62 ∷ rest)) ≡ Some rest
unfolding instruction_rest
inner_rest blank inner rest is none =
    let one : stripped (codes "?>") (blank ∷ (inner ++ 63 ∷ 62 ∷ rest)) ≡ None = not_taken (codes "?>") (blank ∷ (inner ++ 63 ∷ 62 ∷ rest)) (λ more e.
    let same : blank ≡ 63 = cc in blank_is blank is (λ k. k ≡ 63 → ⊥) (λ w. clash 32 63 refl w) (λ w. clash 9 63 refl w) (λ w. clash 13 63 refl w) (λ w. clash 10 63 refl w) same) in
    let two : until (codes "?>") (inner ++ 63 ∷ 62 ∷ rest) ≡ Some (inner, rest) = until_again (codes "?>") inner rest (λ e. absurd cc) (instruction_end inner rest none) in
    ap (λ o. or_else o (cond (is_blank blank) (option_map (λ (x : List ℕ × List ℕ). x.1) (until (codes "?>") (inner ++ 63 ∷ 62 ∷ rest))) None)) one
    ∙ cond-true (is_blank blank) (option_map (λ (x : List ℕ × List ℕ). x.1) (until (codes "?>") (inner ++ 63 ∷ 62 ∷ rest))) None is
    ∙ ap (option_map (λ (x : List ℕ × List ℕ). x.1)) two

instruction_again : (name behind rest : List ℕ) → IsTagName name → EndsRun continues_tag_name behind → instruction_rest behind ≡ Some rest → instruction_taken (name ++ behind) ≡ Some (Aside, rest)
unfolding instruction_taken
instruction_again name behind rest named ends found =
    ap (option_and_then (λ (x : List ℕ × List ℕ). option_map (λ (r : List ℕ). let z : Piece × List ℕ = (Aside, r) in z) (instruction_rest x.1))) (name_again name behind named ends)
    ∙ ap (option_map (λ (r : List ℕ). let z : Piece × List ℕ = (Aside, r) in z)) found

instruction_takes : (bytes : List ℕ) (piece : Piece) (rest : List ℕ) → instruction_taken bytes ≡ Some (piece, rest) → HasPiece (60 ∷ 63 ∷ bytes) piece rest
unfolding instruction_taken instruction_rest
instruction_takes bytes piece rest e =
    then_some _ (tag_name_taken bytes) (piece, rest) e (λ x named h.
    map_some _ (instruction_rest x.1) (piece, rest) h (λ r found is.
    let name = name_takes bytes x.0 x.1 named in
    moved (60 ∷ 63 ∷ bytes) Aside piece r rest (ap Some is) (by_end bytes x.0 x.1 r name.0 name.1 (stripped (codes "?>") x.1) refl found))) where
      by_end : (bytes name behind r : List ℕ) → bytes ≡ name ++ behind → IsTagName name → (o : Option (List ℕ)) → stripped (codes "?>") behind ≡ o
          → or_else o (cond (begins_with is_blank behind) (option_map (λ (x : List ℕ × List ℕ). x.1) (until (codes "?>") (drop 1 behind))) None) ≡ Some r
          → HasPiece (60 ∷ 63 ∷ bytes) Aside r
      by_end bytes name behind r parts named (Some more) found h =
          let same : more ≡ r = some_same more r h in
          let close : behind ≡ 63 ∷ 62 ∷ r = stripped_takes (codes "?>") behind more found ∙ ap (λ t. 63 ∷ 62 ∷ t) same in
          let whole : bytes ≡ (name ++ codes "?>") ++ r = parts ∙ ap (λ t. name ++ t) close ∙ sym (append_assoc name (codes "?>") r) in
          (60 ∷ 63 ∷ (name ++ codes "?>"), ap (λ t. 60 ∷ 63 ∷ t) whole, SpellsPiece.bare_instruction name named)
      by_end bytes name [] r parts named None found h = absurd cc
      by_end bytes name (blank ∷ behind) r parts named None found h =
          let tests = test_some (is_blank blank) (option_map (λ (x : List ℕ × List ℕ). x.1) (until (codes "?>") behind)) r h in
          map_some (λ (x : List ℕ × List ℕ). x.1) (until (codes "?>") behind) r tests.1 (λ x split is.
          let word = until_takes (codes "?>") behind x.0 x.1 split in
          let close : behind ≡ x.0 ++ 63 ∷ 62 ∷ r = word.0 ∙ ap (λ t. x.0 ++ 63 ∷ 62 ∷ t) is in
          let whole : bytes ≡ (name ++ blank ∷ (x.0 ++ codes "?>")) ++ r =
          parts ∙ ap (λ t. name ++ blank ∷ t) (close ∙ sym (append_assoc x.0 (codes "?>") r)) ∙ sym (append_assoc name (blank ∷ (x.0 ++ codes "?>")) r) in (
            60 ∷ 63 ∷ (name ++ blank ∷ (x.0 ++ codes "?>")),
            ap (λ t. 60 ∷ 63 ∷ t) whole,
            SpellsPiece.instruction name x.0 blank named tests.0 (has_none (codes "?>") x.0 x.1 (λ n. absurd cc) word.1),
          ))

-- ---- markup

markup_end : (bytes : List ℕ) → markup_taken (47 ∷ bytes) ≡ end_taken bytes
unfolding markup_taken
markup_end bytes = let found : stripped (codes "/") (47 ∷ bytes) ≡ Some bytes = stripped_again (codes "/") bytes in rw found refl

markup_comment : (bytes : List ℕ) → markup_taken (33 ∷ 45 ∷ 45 ∷ bytes) ≡ comment_taken bytes
unfolding markup_taken
markup_comment bytes =
    let one : stripped (codes "/") (33 ∷ 45 ∷ 45 ∷ bytes) ≡ None = not_taken (codes "/") (33 ∷ 45 ∷ 45 ∷ bytes) (λ r e. clash 33 47 refl cc) in
    let two : stripped (codes "!--") (33 ∷ 45 ∷ 45 ∷ bytes) ≡ Some bytes = stripped_again (codes "!--") bytes in
    rw (one, two) refl

markup_section : (bytes : List ℕ) → markup_taken (codes "![CDATA[" ++ bytes) ≡ section_taken bytes
unfolding markup_taken
markup_section bytes =
    let one : stripped (codes "/") (codes "![CDATA[" ++ bytes) ≡ None = not_taken (codes "/") (codes "![CDATA[" ++ bytes) (λ r e. clash 33 47 refl cc) in
    let two : stripped (codes "!--") (codes "![CDATA[" ++ bytes) ≡ None = not_taken (codes "!--") (codes "![CDATA[" ++ bytes) (λ r e. clash 91 45 refl cc) in
    let three : stripped (codes "![CDATA[") (codes "![CDATA[" ++ bytes) ≡ Some bytes = stripped_again (codes "![CDATA[") bytes in
    rw (one, two, three) refl

markup_instruction : (bytes : List ℕ) → markup_taken (63 ∷ bytes) ≡ instruction_taken bytes
unfolding markup_taken
markup_instruction bytes =
    let one : stripped (codes "/") (63 ∷ bytes) ≡ None = not_taken (codes "/") (63 ∷ bytes) (λ r e. clash 63 47 refl cc) in
    let two : stripped (codes "!--") (63 ∷ bytes) ≡ None = not_taken (codes "!--") (63 ∷ bytes) (λ r e. clash 63 33 refl cc) in
    let three : stripped (codes "![CDATA[") (63 ∷ bytes) ≡ None = not_taken (codes "![CDATA[") (63 ∷ bytes) (λ r e. clash 63 33 refl cc) in
    let four : stripped (codes "?") (63 ∷ bytes) ≡ Some bytes = stripped_again (codes "?") bytes in
    rw (one, two, three, four) refl

markup_takes : (bytes : List ℕ) (piece : Piece) (rest : List ℕ) → markup_taken bytes ≡ Some (piece, rest) → HasPiece (60 ∷ bytes) piece rest
unfolding markup_taken
markup_takes bytes piece rest e =
    first (stripped (codes "/") bytes) (stripped (codes "!--") bytes) (stripped (codes "![CDATA[") bytes) (stripped (codes "?") bytes) refl refl refl refl e where
      first : (a b c d : Option (List ℕ)) → stripped (codes "/") bytes ≡ a → stripped (codes "!--") bytes ≡ b → stripped (codes "![CDATA[") bytes ≡ c → stripped (codes "?") bytes ≡ d
          → behind_word a end_taken (behind_word b comment_taken (behind_word c section_taken (behind_word d instruction_taken (tag_taken bytes)))) ≡ Some (piece, rest)
          → HasPiece (60 ∷ bytes) piece rest
      first (Some more) b c d found two three four h =
          subst (λ (t : List ℕ). HasPiece (60 ∷ t) piece rest) (sym (stripped_takes (codes "/") bytes more found)) (end_takes more piece rest h)
      first None (Some more) c d one found three four h =
          subst (λ (t : List ℕ). HasPiece (60 ∷ t) piece rest) (sym (stripped_takes (codes "!--") bytes more found)) (comment_takes more piece rest h)
      first None None (Some more) d one two found four h =
          subst (λ (t : List ℕ). HasPiece (60 ∷ t) piece rest) (sym (stripped_takes (codes "![CDATA[") bytes more found)) (section_takes more piece rest h)
      first None None None (Some more) one two three found h =
          subst (λ (t : List ℕ). HasPiece (60 ∷ t) piece rest) (sym (stripped_takes (codes "?") bytes more found)) (instruction_takes more piece rest h)
      first None None None None one two three four h = tag_takes bytes piece rest h

-- ---- characters that stand for themselves

-- the first byte of a character, and how many follow it
record HasLead (c : ℕ) : Type 0 where
  first : ℕ
  others : List ℕ
  spelled : encode_utf8 c ≡ first ∷ others
  counted : continuation_len first + 1 ≡ length (first ∷ others)
  same : (first ≡ c) ⊎ (128 ≤ first)

follows_none : (b : ℕ) → b < 128 → continuation_len b ≡ 0
follows_none b low = rw (lt-ltb b 128 low) refl

follows_one : (b : ℕ) → 128 ≤ b → b < 224 → continuation_len b ≡ 1
follows_one b low high = rw (le-ltb b 128 low, lt-ltb b 224 high) refl

follow_two : (b : ℕ) → 224 ≤ b → b < 240 → continuation_len b ≡ 2
follow_two b low high = rw (le-ltb b 128 (omega arith), le-ltb b 224 low, lt-ltb b 240 high) refl

follow_three : (b : ℕ) → 240 ≤ b → continuation_len b ≡ 3
follow_three b low = rw (le-ltb b 128 (omega arith), le-ltb b 224 (omega arith), le-ltb b 240 low) refl

lead : (c : ℕ) → HasLead c
unfolding encode
lead c = elim (cases_lt c 128) [
  | inl ascii ↦ record { first = c; others = []; spelled = encode_ascii c ascii; counted = ap (λ n. n + 1) (follows_none c ascii); same = inl refl }
  | inr past ↦ elim (cases_lt c 2048) [
    | inl two ↦
        let bound : c / 64 < 32 = omega arith in
        record {
          first = 192 + c / 64;
          others = next c ∷ [];
          spelled = rw (le-ltb c 128 past, lt-ltb c 2048 two) refl;
          counted = ap (λ n. n + 1) (follows_one (192 + c / 64) (omega arith) (omega (arith, bound)));
          same = inr (omega arith);
        }
    | inr past_two ↦ elim (cases_lt c 65536) [
      | inl three ↦
          let bound : c / 4096 < 16 = omega arith in
          record {
            first = 224 + c / 4096;
            others = next (c / 64) ∷ next c ∷ [];
            spelled = rw (le-ltb c 128 past, le-ltb c 2048 past_two, lt-ltb c 65536 three) refl;
            counted = ap (λ n. n + 1) (follow_two (224 + c / 4096) (omega arith) (omega (arith, bound)));
            same = inr (omega arith);
          }
      | inr past_three ↦ record {
        first = 240 + c / 262144;
        others = next (c / 4096) ∷ next (c / 64) ∷ next c ∷ [];
        spelled = rw (le-ltb c 128 past, le-ltb c 2048 past_two, le-ltb c 65536 past_three) refl;
        counted = ap (λ n. n + 1) (follow_three (240 + c / 262144) (omega arith));
        same = inr (omega arith);
      }
    ]
  ]
]

plain_from : (b : ℕ) (bs rest : List ℕ) → continuation_len b + 1 ≡ length (b ∷ bs) → plain_taken (b ∷ (bs ++ rest)) ≡ Some (Plain (b ∷ bs), rest)
plain_from b bs rest counted =
    let whole = b ∷ (bs ++ rest) in
    let within : length (b ∷ bs) ≤ length whole = omega (arith, length-append bs rest) in
    ap (λ (n : ℕ). cond (leb n (length whole)) (let z : Piece × List ℕ = (Plain (take n whole), drop n whole) in Some z) None) counted
    ∙ cond-true (leb (length (b ∷ bs)) (length whole)) (let z : Piece × List ℕ = (Plain (take (length (b ∷ bs)) whole), drop (length (b ∷ bs)) whole) in Some z) None (le-leb (length (b ∷ bs)) (length whole) within)
    ∙ ap (λ t. Some (Plain t, drop (length (b ∷ bs)) whole)) (take-append_seam (b ∷ bs) rest)
    ∙ ap (λ t. Some (Plain (b ∷ bs), t)) (drop-append_seam (b ∷ bs) rest)

other_first : (c k b : ℕ) → k < 128 → c ≢ k → (b ≡ c) ⊎ (128 ≤ b) → eqb b k ≡ false
other_first c k b low other (inl same) = ne_eqb b k (λ e. other (sym same ∙ e))
other_first c k b low other (inr high) = ne_eqb b k (λ e. absurd (omega arith))

pub plain_again : (c : ℕ) (rest : List ℕ) → c ≢ 60 → c ≢ 38 → piece_taken (encode_utf8 c ++ rest) ≡ Some (Plain (encode_utf8 c), rest)
unfolding piece_taken
plain_again c rest one two =
    let h = lead c in
    let first : eqb h.first 60 ≡ false = other_first c 60 h.first (omega arith) one h.same in
    let second : eqb h.first 38 ≡ false = other_first c 38 h.first (omega arith) two h.same in
    let taken : piece_taken (h.first ∷ (h.others ++ rest)) ≡ Some (Plain (h.first ∷ h.others), rest) =
    cond-false (eqb h.first 60) (markup_taken (h.others ++ rest)) _ first
    ∙ cond-false (eqb h.first 38) (escape_piece_taken (h.others ++ rest)) (plain_taken (h.first ∷ (h.others ++ rest))) second
    ∙ plain_from h.first h.others rest h.counted in
    ap (λ t. piece_taken (t ++ rest)) h.spelled ∙ taken ∙ ap (λ t. Some (Plain t, rest)) (sym h.spelled)

-- ---- all pieces

escape_piece_again : (body : List ℕ) (c : ℕ) (rest : List ℕ) → escape_taken (body ++ 59 ∷ rest) ≡ Some (c, rest) → piece_taken (38 ∷ (body ++ 59 ∷ rest)) ≡ Some (Escaped (encode_utf8 c), rest)
unfolding piece_taken escape_piece_taken
escape_piece_again body c rest taken = ap (option_map (λ (x : ℕ × List ℕ). let z : Piece × List ℕ = (Escaped (encode_utf8 x.0), x.1) in z)) taken

pub piece_again : {bytes : List ℕ} {piece : Piece} → SpellsPiece bytes piece → (rest : List ℕ) → piece_taken (bytes ++ rest) ≡ Some (piece, rest)
piece_again (SpellsPiece.start name blanks {given = given} {attributes = attributes} named are blank) rest = tag_piece_again name blanks rest false named are blank
piece_again (SpellsPiece.empty name blanks {given = given} {attributes = attributes} named are blank) rest = tag_piece_again name blanks rest true named are blank
piece_again (SpellsPiece.closing name blanks named blank) rest =
    ap (λ t. piece_taken (60 ∷ 47 ∷ t)) (flat_end name blanks (codes ">") rest)
    ∙ markup_piece (47 ∷ (name ++ (blanks ++ 62 ∷ rest))) ∙ markup_end (name ++ (blanks ++ 62 ∷ rest)) ∙ end_piece_again name blanks rest named blank
piece_again (SpellsPiece.comment inner none) rest =
    ap (λ t. piece_taken (60 ∷ 33 ∷ 45 ∷ 45 ∷ t)) (append_assoc inner (codes "-->") rest)
    ∙ markup_piece (33 ∷ 45 ∷ 45 ∷ (inner ++ 45 ∷ 45 ∷ 62 ∷ rest)) ∙ markup_comment (inner ++ 45 ∷ 45 ∷ 62 ∷ rest) ∙ comment_again inner rest none
piece_again (SpellsPiece.bare_instruction name named) rest =
    ap (λ t. piece_taken (60 ∷ 63 ∷ t)) (append_assoc name (codes "?>") rest)
    ∙ markup_piece (63 ∷ (name ++ 63 ∷ 62 ∷ rest)) ∙ markup_instruction (name ++ 63 ∷ 62 ∷ rest)
    ∙ instruction_again name (63 ∷ 62 ∷ rest) rest named refl (bare_rest rest)
piece_again (SpellsPiece.instruction name inner blank named is none) rest =
    let behind = blank ∷ (inner ++ 63 ∷ 62 ∷ rest) in
    let flat : (name ++ blank ∷ (inner ++ codes "?>")) ++ rest ≡ name ++ behind = append_assoc name (blank ∷ (inner ++ codes "?>")) rest ∙ ap (λ t. name ++ blank ∷ t) (append_assoc inner (codes "?>") rest) in
    let ends : EndsRun continues_tag_name behind = blank_is blank is (λ k. continues_tag_name k ≡ false) refl refl refl refl in
    ap (λ t. piece_taken (60 ∷ 63 ∷ t)) flat ∙ markup_piece (63 ∷ (name ++ behind)) ∙ markup_instruction (name ++ behind)
    ∙ instruction_again name behind rest named ends (inner_rest blank inner rest is none)
piece_again (SpellsPiece.section inner none) rest =
    ap (λ t. piece_taken (codes "<![CDATA[" ++ t)) (append_assoc inner (codes "]]>") rest)
    ∙ markup_piece (codes "![CDATA[" ++ (inner ++ 93 ∷ 93 ∷ 62 ∷ rest)) ∙ markup_section (inner ++ 93 ∷ 93 ∷ 62 ∷ rest) ∙ section_again inner rest none
piece_again (SpellsPiece.escape {bytes = spelled} {text = text} escape) rest =
    let has = has_inner escape in
    let taken = escape_again has.body has.code rest has.no_end has.found in
    let parts : spelled ++ rest ≡ 38 ∷ (has.body ++ 59 ∷ rest) = ap (λ t. t ++ rest) has.parts ∙ ap (λ t. 38 ∷ t) (append_assoc has.body (59 ∷ []) rest) in
    ap piece_taken parts ∙ escape_piece_again has.body has.code rest taken ∙ ap (λ t. Some (Escaped t, rest)) (sym has.text_is)
piece_again (SpellsPiece.character c is one two) rest = plain_again c rest one two

pub piece_takes : (bytes : List ℕ) (piece : Piece) (rest : List ℕ) → AreCharacters bytes → piece_taken bytes ≡ Some (piece, rest) → HasPiece bytes piece rest
unfolding piece_taken escape_piece_taken
piece_takes [] piece rest are e = absurd cc
piece_takes (c ∷ cs) piece rest are e = first (eqb c 60) refl e where
  plain : (codes_of : List ℕ) → AllByRecursion IsCharacter codes_of → encode_utf8_all codes_of ≡ c ∷ cs → eqb c 60 ≡ false → eqb c 38 ≡ false → plain_taken (c ∷ cs) ≡ Some (piece, rest)
      → HasPiece (c ∷ cs) piece rest
  plain [] all spelled one two h = absurd cc
  plain (k ∷ ks) all spelled one two h =
      let other : (m : ℕ) → m < 128 → eqb c m ≡ false → k ≢ m = λ m low not_m same.
      let ascii : encode_utf8 k ≡ m ∷ [] = ap encode_utf8 same ∙ encode_ascii m low in
      let front : m ∷ encode_utf8_all ks ≡ c ∷ cs = ap (λ t. t ++ encode_utf8_all ks) (sym ascii) ∙ spelled in
      let head : c ≡ m = cc in clash c m not_m head in
      let again : piece_taken (encode_utf8 k ++ encode_utf8_all ks) ≡ Some (Plain (encode_utf8 k), encode_utf8_all ks) = plain_again k (encode_utf8_all ks) (other 60 (omega arith) one) (other 38 (omega arith) two) in
      let same : piece_taken (c ∷ cs) ≡ plain_taken (c ∷ cs) = cond-false (eqb c 60) (markup_taken cs) _ one ∙ cond-false (eqb c 38) _ (plain_taken (c ∷ cs)) two in
      let told : (let z : Piece × List ℕ = (Plain (encode_utf8 k), encode_utf8_all ks) in Some z) ≡ Some (piece, rest) = sym again ∙ ap piece_taken spelled ∙ same ∙ h in
      moved (c ∷ cs) (Plain (encode_utf8 k)) piece (encode_utf8_all ks) rest told
      (encode_utf8 k, sym spelled, SpellsPiece.character k all.0 (other 60 (omega arith) one) (other 38 (omega arith) two))

  second : (t : Bool) → eqb c 38 ≡ t → eqb c 60 ≡ false
      → cond t (option_map (λ (x : ℕ × List ℕ). let z : Piece × List ℕ = (Escaped (encode_utf8 x.0), x.1) in z) (escape_taken cs)) (plain_taken (c ∷ cs)) ≡ Some (piece, rest)
      → HasPiece (c ∷ cs) piece rest
  second true same other h =
      map_some (λ (x : ℕ × List ℕ). let z : Piece × List ℕ = (Escaped (encode_utf8 x.0), x.1) in z) (escape_taken cs) (piece, rest) h (λ x found is.
      let spelled = escape_takes cs x.0 x.1 found in
      let head : c ∷ cs ≡ spelled.0 ++ x.1 = ap (λ k. k ∷ cs) (eqb-true c 38 same) ∙ spelled.1 in
      moved (c ∷ cs) (Escaped (encode_utf8 x.0)) piece x.1 rest (ap Some is) (spelled.0, head, SpellsPiece.escape spelled.2))
  second false two one h = plain are.codes are.characters are.spelled one two h

  first : (t : Bool) → eqb c 60 ≡ t
      → cond t (markup_taken cs) (cond (eqb c 38) (option_map (λ (x : ℕ × List ℕ). let z : Piece × List ℕ = (Escaped (encode_utf8 x.0), x.1) in z) (escape_taken cs)) (plain_taken (c ∷ cs))) ≡ Some (piece, rest)
      → HasPiece (c ∷ cs) piece rest
  first true same h = subst (λ (k : ℕ). HasPiece (k ∷ cs) piece rest) (sym (eqb-true c 60 same)) (markup_takes cs piece rest h)
  first false one h = second (eqb c 38) refl one h

-- ---- one piece at a place

-- A piece has at least one byte.
pub some_bytes : {bytes : List ℕ} {piece : Piece} → SpellsPiece bytes piece → 1 ≤ length bytes
unfolding piece_taken
some_bytes {bytes = []} {piece = piece} s = let wrong : None ≡ Some (let z : Piece × List ℕ = (piece, []) in z) = piece_again s [] in absurd cc
some_bytes {bytes = b ∷ bytes} s = omega arith

-- Two pieces at one place are the same, with the same behind them.
pub one_piece : {b c x y : List ℕ} {p q : Piece} → SpellsPiece b p → SpellsPiece c q → b ++ x ≡ c ++ y → (p ≡ q) × (b ≡ c) × (x ≡ y)
one_piece {b = b} {c = c} {x = x} {y = y} {p = p} {q = q} s t e =
    let u : Piece × List ℕ = (p, x) in let v : Piece × List ℕ = (q, y) in
    let same : u ≡ v = some_same u v (sym (piece_again s x) ∙ ap piece_taken e ∙ piece_again t y) in
    let rest : x ≡ y = ap (λ (z : Piece × List ℕ). z.1) same in
    (ap (λ (z : Piece × List ℕ). z.0) same, append_cancel_right b c y (ap (λ r. b ++ r) (sym rest) ∙ e), rest)

-- No piece begins with a document type.
pub doctype_none : (more : List ℕ) → piece_taken (codes "<!DOCTYPE" ++ more) ≡ None
unfolding markup_taken tag_taken tag_name_taken
doctype_none more =
    let bytes = codes "!DOCTYPE" ++ more in
    let one : stripped (codes "/") bytes ≡ None = not_taken (codes "/") bytes (λ r e. clash 33 47 refl cc) in
    let two : stripped (codes "!--") bytes ≡ None = not_taken (codes "!--") bytes (λ r e. clash 68 45 refl cc) in
    let three : stripped (codes "![CDATA[") bytes ≡ None = not_taken (codes "![CDATA[") bytes (λ r e. clash 68 91 refl cc) in
    let four : stripped (codes "?") bytes ≡ None = not_taken (codes "?") bytes (λ r e. clash 33 63 refl cc) in
    let tag : tag_taken bytes ≡ None = refl in
    let markup : markup_taken bytes ≡ None = rw (one, two, three, four) tag in
    markup_piece bytes ∙ markup
