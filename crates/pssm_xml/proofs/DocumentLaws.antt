-- What the reader answers at each place of a text.
use Rattle.std.proofs.Common.{◌≡◌, ◌<◌, ◌≤◌, ◌⊎◌, inl, inr, ℕ, suc, ◌+◌, Bool, true, false, cond, ◌&&◌, List, [], ◌∷◌, ◌++◌, take, drop, length, Option, Some, None, refl, sym, ◌∙◌, ap, subst, arith, append_assoc}
use Rattle.std.specs.Prelude.{codes, MatchOption, bytes_eq, is_some, ◌==◌, nat_lt}
use Rattle.std.specs.Str.{IsUtf8, IsValidUpTo}
use Rattle.std.specs.List.{AllByRecursion, list_all}
use Rattle.std.proofs.Math.Seq.{take-append_seam, drop-append_seam}
use Rattle.std.proofs.lemmas.List.{length-append, take-append-drop, length-take}
use Rattle.std.proofs.lemmas.Bool.{cases_lt, and_parts, and_from, ltb-true, lt-ltb, eq-eqb, eqb-true}
use Rattle.pssm_spelling.specs.SpellingReading.{stripped}
use Rattle.pssm_spelling.proofs.SpellingLaws.{stripped_takes, stripped_again}
use Rattle.pssm_xml.specs.declared.fault.TextFault.{TextFault}
use Rattle.pssm_xml.specs.declared.fault.TextFault.TheVariants as faults
use Rattle.pssm_xml.specs.Characters.{AreCharacters, IsNoUtf8At, is_blank}
use Rattle.pssm_xml.specs.Pieces.{Piece, Start, Empty, End, Aside, Escaped, Plain}
use Rattle.pssm_xml.specs.Documents.{byte_order_mark, Element, BeginsElement}
use Rattle.pssm_xml.specs.TextFaults.{BeginsNoPiece, HasByteFault, HasElements}
use Rattle.pssm_xml.specs.Faults.{byte_of, IsTextFault}
use Rattle.pssm_xml.specs.inner.Reading.{piece_taken}
use Rattle.pssm_xml.specs.inner.Growth.{Frame, State, parent_of, may_begin, new_element, with_text, with_more_text, behind_piece, nothing_yet}
use Rattle.pssm_xml.specs.inner.Frames.{HasFrames}
use Rattle.pssm_xml.specs.inner.Reads.{IsRead, IsGoodText, IsBefore, HasEnd, GoesOnTo, StopsAt, StartsAt, ends_whole, ends_doctype}
use Rattle.pssm_xml.proofs.CutLaws.{one_byte}
use Rattle.pssm_xml.proofs.ShapeLaws.{length_text}
use Rattle.pssm_xml.proofs.PieceLaws.{some_bytes}
use Rattle.pssm_xml.proofs.GoodLaws.{piece_of_characters, none_begins, characters_joined, no_characters, mark_characters, mark_rest, mark_within, cut_front}
use Rattle.pssm_xml.proofs.ReadLaws.{read_turn, read_bare, read_marked, read_end, ends_early, no_piece_there, doctype_there, wrong_there, deep_there}

-- ---- bytes that are no UTF-8

length_front : (bytes : List ℕ) (n : ℕ) → n ≤ length bytes → length (take n bytes) ≡ n
length_front bytes n few = omega (arith, few, length-take n bytes)

shorter : (bytes : List ℕ) (n : ℕ) → IsValidUpTo bytes n → (longer more : List ℕ) → bytes ≡ longer ++ more → IsUtf8 longer → length longer ≤ n
shorter bytes n v longer more parts utf8 = elim (cases_lt n (length longer)) as (λ _. length longer ≤ n) [
  | inr few ↦ few
  | inl many ↦
      let front : take (length longer) bytes ≡ longer = ap (take (length longer)) parts ∙ take-append_seam longer more in
      absurd (v.longest (length longer) many (subst IsUtf8 (sym front) utf8))
]

no_character : (bytes : List ℕ) (n : ℕ) → IsValidUpTo bytes n → IsNoUtf8At bytes n
no_character bytes n v = record {
  front = take n bytes;
  rest = drop n bytes;
  parts = sym (take-append-drop n bytes);
  counted = sym (length_front bytes n (let short = v.short in omega (arith, short)));
  utf8 = v.front;
  some = λ empty. let short = v.short in let long = ap length (sym (take-append-drop n bytes)) ∙ length-append (take n bytes) (drop n bytes) in let e = ap length empty in
      let size = length_front bytes n (omega (arith, short)) in absurd (omega (arith, short, long, e, size));
  last = λ longer more parts utf8. let size = length_front bytes n (let short = v.short in omega (arith, short)) in let l = shorter bytes n v longer more parts utf8 in omega (arith, size, l);
}

first_byte : (bytes : List ℕ) (n : ℕ) → IsNoUtf8At bytes n → (other : TextFault) → HasByteFault bytes other → byte_of other < n → ⊥
first_byte bytes n none other (HasByteFault.not_utf8 {at = at} also) less = let same : at ≡ n = one_byte bytes at n also none in omega (arith, same, less)

pub no_text : (bytes : List ℕ) (n : ℕ) → IsValidUpTo bytes n → IsTextFault bytes (faults.NotUtf8 n)
no_text bytes n v =
    let none = no_character bytes n v in IsTextFault.no_text (record { has = HasByteFault.not_utf8 none; first = first_byte bytes n none })

-- ---- the first place

pub before_bare : (bytes text bad : List ℕ) → IsGoodText bytes text bad → stripped byte_order_mark text ≡ None → IsBefore bytes text bad text 0 nothing_yet
before_bare bytes text bad good none =
    let unmarked : (t : List ℕ) → bytes ≡ byte_order_mark ++ t → ⊥ = λ t mark.
    let within = mark_within bytes text bad t good mark in
    let found : stripped byte_order_mark text ≡ Some within.0 = ap (stripped byte_order_mark) within.1 ∙ stripped_again byte_order_mark within.0 in absurd cc in
    record {
      good = good;
      read = subst (λ (r : List ℕ). IsRead bytes r 0 nothing_yet) good.parts (read_bare bytes unmarked);
      front = [];
      parts = refl;
      front_characters = no_characters;
      characters = good.characters;
    }

pub before_marked : (bytes text bad rest : List ℕ) → IsGoodText bytes text bad → stripped byte_order_mark text ≡ Some rest → IsBefore bytes text bad rest 3 nothing_yet
before_marked bytes text bad rest good found =
    let parts : text ≡ byte_order_mark ++ rest = stripped_takes byte_order_mark text rest found in
    let whole : bytes ≡ byte_order_mark ++ (rest ++ bad) = good.parts ∙ ap (λ t. t ++ bad) parts ∙ append_assoc byte_order_mark rest bad in
    record {
      good = good;
      read = read_marked bytes (rest ++ bad) whole;
      front = byte_order_mark;
      parts = parts;
      front_characters = mark_characters;
      characters = mark_rest rest (subst AreCharacters parts good.characters);
    }

-- ---- the next place

pub before_turn : (bytes text bad rest more : List ℕ) (at place : ℕ) (s t : State) (piece : Piece) → IsBefore bytes text bad rest at s → Some (piece, more) ≡ piece_taken rest → GoesOnTo s at piece t
    → place + length more ≡ at + length rest → IsBefore bytes text bad more place t
before_turn bytes text bad rest more at place s t piece b found goes count =
    let taken = piece_of_characters rest piece more b.characters (sym found) in
    let c = b.read.counted in
    let one = length-append rest bad in let two = length-append more bad in
    let behind : rest ++ bad ≡ taken.front ++ (more ++ bad) = ap (λ r. r ++ bad) taken.parts ∙ append_assoc taken.front more bad in
    record {
      good = b.good;
      read = read_turn bytes (rest ++ bad) taken.front (more ++ bad) at place s t piece b.read taken.is_piece behind goes.step goes.shallow (omega (arith, c, count, one, two));
      front = b.front ++ taken.front;
      parts = b.parts ∙ ap (λ r. b.front ++ r) taken.parts ∙ sym (append_assoc b.front taken.front more);
      front_characters = characters_joined b.front taken.front b.front_characters taken.is_piece.characters;
      characters = taken.characters;
    }

-- A tag stands in the open elements.
may_go : (f : Frame) (fs : List Frame) (E : List Element) (at : ℕ) (piece : Piece) → BeginsElement piece → (t : State) × (behind_piece (record { frames = f ∷ fs; elements = E }) at piece ≡ Some t)
may_go f fs E at (Start name attributes) b = (_, refl)
may_go f fs E at (Empty name attributes) b = (_, refl)
may_go f fs E at (End name) b = absurd b
may_go f fs E at Aside b = absurd b
may_go f fs E at (Escaped text) b = absurd b
may_go f fs E at (Plain text) b = absurd b

pub before_stop : (bytes text bad rest more : List ℕ) (at : ℕ) (s : State) (piece : Piece) (fault : TextFault) → IsUtf8 bytes → IsBefore bytes text bad rest at s → Some (piece, more) ≡ piece_taken rest
    → StopsAt s at piece fault → IsTextFault bytes fault
before_stop bytes text bad rest more at s piece fault utf8 b found (StopsAt.wrong none) =
    let taken = piece_of_characters rest piece more b.characters (sym found) in
    let behind : rest ++ bad ≡ taken.front ++ (more ++ bad) = ap (λ r. r ++ bad) taken.parts ∙ append_assoc taken.front more bad in
    wrong_there bytes (rest ++ bad) taken.front (more ++ bad) at s piece utf8 b.read taken.is_piece behind none
before_stop bytes text bad rest more at s piece fault utf8 b found (StopsAt.too_deep element deep) =
    let taken = piece_of_characters rest piece more b.characters (sym found) in
    let behind : rest ++ bad ≡ taken.front ++ (more ++ bad) = ap (λ r. r ++ bad) taken.parts ∙ append_assoc taken.front more bad in
    let goes = may_stand s.frames s.elements deep in
    deep_there bytes (rest ++ bad) taken.front (more ++ bad) at s goes.0 piece utf8 b.read taken.is_piece behind goes.1 element deep where
      may_stand : (fs : List Frame) (E : List Element) → 128 ≤ length fs → (t : State) × (behind_piece (record { frames = fs; elements = E }) at piece ≡ Some t)
      may_stand [] E many = absurd (omega arith)
      may_stand (f ∷ fs) E many = may_go f fs E at piece element

-- ---- the last place

pub before_end : (bytes text bad rest : List ℕ) (at : ℕ) (s : State) → IsBefore bytes text bad rest at s → None ≡ piece_taken rest → HasEnd bytes at s
before_end bytes text bad rest at s b none =
    record { rest = rest ++ bad; read = b.read; none = none_begins bytes text bad b.front rest b.good b.parts b.front_characters (sym none) }

end_rest : (bytes : List ℕ) (at : ℕ) (s : State) (h : HasEnd bytes at s) → h.rest ≡ drop at bytes
end_rest bytes at s h =
    let front = cut_front bytes h.rest h.read.pieces h.read.cut in
    let c = h.read.counted in
    let size : length bytes ≡ length front.0 + length h.rest = ap length front.1 ∙ length-append front.0 h.rest in
    let here : length front.0 ≡ at = omega (arith, c, size) in
    sym (ap (λ n. drop n bytes) (sym here) ∙ ap (drop (length front.0)) front.1 ∙ drop-append_seam front.0 h.rest)

pub end_within : (bytes : List ℕ) (at : ℕ) (s : State) → HasEnd bytes at s → at ≤ length bytes
end_within bytes at s h = let c = h.read.counted in omega (arith, c)

pub end_whole : (bytes : List ℕ) (at : ℕ) (s : State) → IsUtf8 bytes → HasEnd bytes at s → drop at bytes ≡ [] → s.frames ≡ [] → 0 < length s.elements → HasElements bytes s.elements
end_whole bytes at s utf8 h none outside some =
    let empty : h.rest ≡ [] = end_rest bytes at s h ∙ none in
    read_end bytes at s utf8 (subst (λ (r : List ℕ). IsRead bytes r at s) empty h.read) outside some

pub end_doctype : (bytes more : List ℕ) (at : ℕ) (s : State) → IsUtf8 bytes → HasEnd bytes at s → s.elements ≡ [] → stripped (codes "<!DOCTYPE") (drop at bytes) ≡ Some more → IsTextFault bytes (faults.Doctype at)
end_doctype bytes more at s utf8 h none found =
    let parts : h.rest ≡ codes "<!DOCTYPE" ++ more = end_rest bytes at s h ∙ stripped_takes (codes "<!DOCTYPE") (drop at bytes) more found in
    doctype_there bytes h.rest more at s utf8 h.read h.none none parts

pub end_malformed : (bytes : List ℕ) (at : ℕ) (s : State) → IsUtf8 bytes → HasEnd bytes at s → (drop at bytes ≡ [] → s.frames ≡ [] → 0 < length s.elements → ⊥)
    → (s.elements ≡ [] → stripped (codes "<!DOCTYPE") (drop at bytes) ≡ None) → IsTextFault bytes (faults.Malformed at)
end_malformed bytes at s utf8 h unfinished other = by_rest h.rest h.read h.none (end_rest bytes at s h) where
  by_rest : (rest : List ℕ) → IsRead bytes rest at s → BeginsNoPiece rest → rest ≡ drop at bytes → IsTextFault bytes (faults.Malformed at)
  by_rest [] read none is =
      ends_early bytes at s utf8 read (λ d whole some.
      unfinished (sym is) (ap (λ (x : State). x.frames) whole) (subst (λ (x : State). 0 < length x.elements) (sym whole) some))
  by_rest (c ∷ rest) read none is =
      no_piece_there bytes (c ∷ rest) at s utf8 read (λ e. absurd cc) none (λ start more parts.
      let empty : s.elements ≡ [] = ap (λ (x : State). x.elements) start in
      let found : stripped (codes "<!DOCTYPE") (drop at bytes) ≡ Some more = ap (stripped (codes "<!DOCTYPE")) (sym is ∙ parts) ∙ stripped_again (codes "<!DOCTYPE") more in
      let nothing = other empty in absurd cc)

-- ---- frames

all_within : (n m : ℕ) (fs : List Frame) → n ≤ m → AllByRecursion (λ (f : Frame). f.number < n) fs → AllByRecursion (λ (f : Frame). f.number < m) fs
all_within n m [] more all = tt
all_within n m (f ∷ fs) more all = (let l = all.0 in omega (arith, l, more), all_within n m fs more all.1)

abbrev Within : List Frame → ℕ → Type 0
Within fs n = AllByRecursion (λ (f : Frame). f.number < n) fs

module _ (t : State) where
  moved : (fs : List Frame) (E : List Element) → Some (let s : State = record { frames = fs; elements = E } in s) ≡ Some t → Within fs (length E) → HasFrames t
  moved fs E e all = let same : (let s : State = record { frames = fs; elements = E } in s) ≡ t = cc in
      subst HasFrames same (let h : HasFrames (record { frames = fs; elements = E }) = record { within = all } in h)

  tested : (fs : List Frame) (E : List Element) (b : Bool) → cond b (Some (let s : State = record { frames = fs; elements = E } in s)) None ≡ Some t → Within fs (length E) → HasFrames t
  tested fs E true e all = moved fs E e all
  tested fs E false e all = absurd cc

  frames_in : (fs : List Frame) (E : List Element) (at : ℕ) (piece : Piece) → Within fs (length E) → behind_piece (record { frames = fs; elements = E }) at piece ≡ Some t → HasFrames t
  frames_in fs E at Aside all e = moved fs E e all
  frames_in [] E at (Escaped text) all e = absurd cc
  frames_in (f ∷ fs) E at (Escaped text) all e = moved (with_more_text text f ∷ fs) E e all
  frames_in [] E at (Plain text) all e = tested [] E (list_all is_blank text) e tt
  frames_in (f ∷ fs) E at (Plain text) all e = moved (with_more_text text f ∷ fs) E e all
  frames_in fs E at (Empty name attributes) all e =
      let x : Element = new_element at (parent_of fs) name attributes in let long = length-append E (x ∷ []) in
      tested fs (E ++ x ∷ []) (may_begin fs E) e (all_within (length E) (length (E ++ x ∷ [])) fs (omega (arith, long)) all)
  frames_in fs E at (Start name attributes) all e =
      let x : Element = new_element at (parent_of fs) name attributes in let long = length-append E (x ∷ []) in
      tested (record { number = length E; name = name; text = [] } ∷ fs) (E ++ x ∷ []) (may_begin fs E) e
      (let here : length E < length (E ++ x ∷ []) = omega (arith, long) in here, all_within (length E) (length (E ++ x ∷ [])) fs (omega (arith, long)) all)
  frames_in [] E at (End name) all e = absurd cc
  frames_in (f ∷ fs) E at (End name) all e =
      let same = length_text E f.number f.text in
      tested fs (with_text E f.number f.text) (bytes_eq f.name name) e (all_within (length E) (length (with_text E f.number f.text)) fs (omega (arith, same)) all.1)

pub frames_turn : (s t : State) (at : ℕ) (piece : Piece) → HasFrames s → GoesOnTo s at piece t → HasFrames t
frames_turn s t at piece h goes = frames_in t s.frames s.elements at piece h.within goes.step

-- ---- by what the code has tested

zero_length : {X : Type 0} (xs : List X) → (length xs == 0) ≡ true → xs ≡ []
zero_length [] e = refl
zero_length (x ∷ xs) e = let none : suc (length xs) ≡ 0 = eqb-true (suc (length xs)) 0 e in absurd (omega (arith, none))

pub whole_by_test : (bytes rest : List ℕ) (at : ℕ) (s : State) → IsUtf8 bytes → HasEnd bytes at s → rest ≡ drop at bytes → ends_whole rest s.elements s.frames ≡ true → HasElements bytes s.elements
whole_by_test bytes rest at s utf8 h is e =
    let first = and_parts (length rest == 0) (nat_lt 0 (length s.elements) && (length s.frames == 0)) e in
    let second = and_parts (nat_lt 0 (length s.elements)) (length s.frames == 0) first.1 in
    end_whole bytes at s utf8 h (sym is ∙ zero_length rest first.0) (zero_length s.frames second.1) (ltb-true 0 (length s.elements) second.0)

pub doctype_by_test : (bytes rest : List ℕ) (at : ℕ) (s : State) → IsUtf8 bytes → HasEnd bytes at s → rest ≡ drop at bytes → ends_doctype rest s.elements ≡ true → IsTextFault bytes (faults.Doctype at)
doctype_by_test bytes rest at s utf8 h is e =
    let both = and_parts (length s.elements == 0) (is_some (stripped (codes "<!DOCTYPE") rest)) e in
    by_found (stripped (codes "<!DOCTYPE") rest) refl both.1 where
      by_found : (o : Option (List ℕ)) → stripped (codes "<!DOCTYPE") rest ≡ o → is_some o ≡ true → IsTextFault bytes (faults.Doctype at)
      by_found None found some = absurd cc
      by_found (Some more) found some =
          let both = and_parts (length s.elements == 0) (is_some (stripped (codes "<!DOCTYPE") rest)) e in
          end_doctype bytes more at s utf8 h (zero_length s.elements both.0) (ap (stripped (codes "<!DOCTYPE")) (sym is) ∙ found)

pub malformed_by_tests : (bytes rest : List ℕ) (at : ℕ) (s : State) → IsUtf8 bytes → HasEnd bytes at s → rest ≡ drop at bytes → ends_whole rest s.elements s.frames ≡ false
    → ends_doctype rest s.elements ≡ false → IsTextFault bytes (faults.Malformed at)
malformed_by_tests bytes rest at s utf8 h is unfinished other =
    end_malformed bytes at s utf8 h
    (λ none outside some.
    let whole : ends_whole rest s.elements s.frames ≡ true =
    and_from (length rest == 0) (nat_lt 0 (length s.elements) && (length s.frames == 0)) (eq-eqb (length rest) 0 (ap length (is ∙ none)))
    (and_from (nat_lt 0 (length s.elements)) (length s.frames == 0) (lt-ltb 0 (length s.elements) some) (eq-eqb (length s.frames) 0 (ap length outside))) in absurd cc)
    (λ empty. by_found (stripped (codes "<!DOCTYPE") rest) refl empty) where
      by_found : (o : Option (List ℕ)) → stripped (codes "<!DOCTYPE") rest ≡ o → s.elements ≡ [] → stripped (codes "<!DOCTYPE") (drop at bytes) ≡ None
      by_found None found empty = ap (stripped (codes "<!DOCTYPE")) (sym is) ∙ found
      by_found (Some more) found empty =
          let doctype : ends_doctype rest s.elements ≡ true =
          and_from (length s.elements == 0) (is_some (stripped (codes "<!DOCTYPE") rest)) (eq-eqb (length s.elements) 0 (ap length empty)) (ap is_some found) in absurd cc

-- ---- the turns of the reader

pub before_start : (bytes text bad rest : List ℕ) (at : ℕ) (s : State) → IsGoodText bytes text bad → StartsAt text at rest → s ≡ nothing_yet → IsBefore bytes text bad rest at s
before_start bytes text bad rest at s good starts is = subst (λ (x : State). IsBefore bytes text bad rest at x) (sym is) (by_mark (stripped byte_order_mark text) refl starts) where
  by_mark : (o : Option (List ℕ)) → stripped byte_order_mark text ≡ o → MatchOption o ((at ≡ 0) × (rest ≡ text)) (λ r. (at ≡ 3) × (rest ≡ r)) → IsBefore bytes text bad rest at nothing_yet
  by_mark None found m =
      subst (λ (r : List ℕ). IsBefore bytes text bad r at nothing_yet) (sym m.1) (subst (λ (n : ℕ). IsBefore bytes text bad text n nothing_yet) (sym m.0) (before_bare bytes text bad good found))
  by_mark (Some r) found m =
      subst (λ (x : List ℕ). IsBefore bytes text bad x at nothing_yet) (sym m.1) (subst (λ (n : ℕ). IsBefore bytes text bad r n nothing_yet) (sym m.0) (before_marked bytes text bad r good found))

pub before_count : (bytes text bad rest : List ℕ) (at : ℕ) (s : State) → IsBefore bytes text bad rest at s → at + length rest ≡ length text
before_count bytes text bad rest at s b =
    let c = b.read.counted in let one = length-append rest bad in let whole : length bytes ≡ length text + length bad = ap length b.good.parts ∙ length-append text bad in
    omega (arith, c, one, whole)

pub taken_shorter : (bytes text bad rest more : List ℕ) (at : ℕ) (s : State) (piece : Piece) → IsBefore bytes text bad rest at s → Some (piece, more) ≡ piece_taken rest → length more < length rest
taken_shorter bytes text bad rest more at s piece b found =
    let taken = piece_of_characters rest piece more b.characters (sym found) in
    let some : 1 ≤ length taken.front = some_bytes taken.is_piece.spelled in
    let size : length rest ≡ length taken.front + length more = ap length taken.parts ∙ length-append taken.front more in
    omega (arith, some, size)

pub before_room : (bytes text bad rest more : List ℕ) (at : ℕ) (s : State) (piece : Piece) → IsBefore bytes text bad rest at s → Some (piece, more) ≡ piece_taken rest → length bytes ≤ 16777216
    → length s.elements < 16777216
before_room bytes text bad rest more at s piece b found few =
    let shorter = taken_shorter bytes text bad rest more at s piece b found in
    let c = b.read.counted in let f = b.read.few in let one = length-append rest bad in omega (arith, shorter, c, f, one, few)

pub stop_told : (bytes text bad rest more : List ℕ) (at : ℕ) (s : State) (piece : Piece) (fault : TextFault) → IsUtf8 bytes → IsBefore bytes text bad rest at s → Some (piece, more) ≡ piece_taken rest
    → (fault ≡ faults.NoMemory) ⊎ StopsAt s at piece fault → (fault ≡ faults.NoMemory) ⊎ IsTextFault bytes fault
stop_told bytes text bad rest more at s piece fault utf8 b found (inl none) = inl none
stop_told bytes text bad rest more at s piece fault utf8 b found (inr stop) = inr (before_stop bytes text bad rest more at s piece fault utf8 b found stop)
