-- What is known of a text that was read up to a byte, and what it is worth there.
use Rattle.std.proofs.Common.{◌≡◌, ◌≢◌, ◌<◌, ◌≤◌, ◌⊎◌, inl, inr, ℕ, ◌+◌, Bool, true, false, cond, List, [], ◌∷◌, ◌++◌, length, Option, Some, None, refl, sym, ◌∙◌, ap, subst, arith}
use Rattle.std.specs.Prelude.{option_and_then, codes, bytes_eq, count_by}
use Rattle.std.specs.Str.{IsUtf8}
use Rattle.std.specs.List.{AllByRecursion, list_all}
use Rattle.std.proofs.lemmas.List.{length-append}
use Rattle.std.proofs.lemmas.List.Sums.{sum_by-cons}
use Rattle.pssm_xml.specs.declared.fault.TextFault.{TextFault}
use Rattle.pssm_xml.specs.declared.fault.TextFault.TheVariants as faults
use Rattle.pssm_xml.specs.Characters.{is_blank}
use Rattle.pssm_xml.specs.Pieces.{Piece, Start, Empty, End, Aside, Escaped, Plain, IsPiece}
use Rattle.pssm_xml.specs.Documents.{Placed, IsCutInto, IsFileCut, byte_order_mark, Element, IsOutside, BeginDocument, BeginsElement, is_start, is_end, open_count}
use Rattle.pssm_xml.specs.TextFaults.{BeginsNoPiece, BeginsWrongPiece, IsStuck, GoesWrong, IsDoctype, NestsTooDeep, HasTextFault, HasElements}
use Rattle.pssm_xml.specs.Faults.{byte_of, IsTextFault}
use Rattle.pssm_xml.specs.inner.Reading.{piece_taken}
use Rattle.pssm_xml.specs.inner.Growth.{Frame, State, parent_of, may_begin, new_element, with_text, with_more_text, behind_piece, behind_pieces, nothing_yet, all_read}
use Rattle.pssm_xml.specs.inner.Reads.{IsRead}
use Rattle.pssm_xml.proofs.PieceLaws.{piece_again, some_bytes, one_piece, doctype_none}
use Rattle.pssm_xml.proofs.GrowthLaws.{pieces_from, outside_grows}
use Rattle.pssm_xml.proofs.ShapeLaws.{grown_document, grown_begins, stuck_begins_none, whole_only, document_rooted, length_text}
use Rattle.pssm_xml.proofs.CutLaws.{two_file_cuts, cut_length, HasNext, next_of, stuck_whole, no_more_cut, deep_tag}

-- ---- depth

starts : List Placed → ℕ
starts ps = count_by (λ (p : Placed). is_start p.piece) ps

ends : List Placed → ℕ
ends ps = count_by (λ (p : Placed). is_end p.piece) ps

-- what one piece does to the number of open elements
abbrev Weighs : List Frame → Piece → List Frame → Type 0
Weighs fs piece gs = cond (is_start piece) 1 0 + length fs ≡ cond (is_end piece) 1 0 + length gs

module _ (t : State) where
  weigh_same : (fs : List Frame) (E : List Element) → Some (let s : State = record { frames = fs; elements = E } in s) ≡ Some t → length fs ≡ length t.frames
  weigh_same fs E e = let same : (let s : State = record { frames = fs; elements = E } in s) ≡ t = cc in ap (λ (s : State). length s.frames) same

  weigh_if : (fs : List Frame) (E : List Element) (b : Bool) → cond b (Some (let s : State = record { frames = fs; elements = E } in s)) None ≡ Some t → length fs ≡ length t.frames
  weigh_if fs E true e = weigh_same fs E e
  weigh_if fs E false e = absurd cc

  weighs : (fs : List Frame) (E : List Element) (at : ℕ) (piece : Piece) → behind_piece (record { frames = fs; elements = E }) at piece ≡ Some t → Weighs fs piece t.frames
  weighs fs E at Aside e = let l = weigh_same fs E e in omega (arith, l)
  weighs [] E at (Escaped text) e = absurd cc
  weighs (f ∷ fs) E at (Escaped text) e = let l = weigh_same (with_more_text text f ∷ fs) E e in omega (arith, l)
  weighs [] E at (Plain text) e = let l = weigh_if [] E (list_all is_blank text) e in omega (arith, l)
  weighs (f ∷ fs) E at (Plain text) e = let l = weigh_same (with_more_text text f ∷ fs) E e in omega (arith, l)
  weighs fs E at (Empty name attributes) e = let l = weigh_if fs (E ++ new_element at (parent_of fs) name attributes ∷ []) (may_begin fs E) e in omega (arith, l)
  weighs fs E at (Start name attributes) e =
      let l = weigh_if (record { number = length E; name = name; text = [] } ∷ fs) (E ++ new_element at (parent_of fs) name attributes ∷ []) (may_begin fs E) e in omega (arith, l)
  weighs [] E at (End name) e = absurd cc
  weighs (f ∷ fs) E at (End name) e = let l = weigh_if fs (with_text E f.number f.text) (bytes_eq f.name name) e in omega (arith, l)

count_more : (q : Placed → Bool) (p : Placed) (ps : List Placed) → count_by q (p ∷ ps) ≡ cond (q p) 1 0 + count_by q ps
count_more q p ps = sum_by-cons (λ (x : Placed). cond (q x) 1 0) p ps

depth_counts : (s t : State) (ps : List Placed) → behind_pieces s ps ≡ Some t → starts ps + length s.frames ≡ ends ps + length t.frames
unfolding starts ends
depth_counts s t [] e = let same : s ≡ t = cc in ap (λ (u : State). 0 + length u.frames) same
depth_counts s t (p ∷ ps) e = by_first (behind_piece s p.at p.piece) refl e (λ u. depth_counts u t ps) where
  by_first : (o : Option State) → behind_piece s p.at p.piece ≡ o → option_and_then (λ u. behind_pieces u ps) o ≡ Some t
      → ((u : State) → behind_pieces u ps ≡ Some t → starts ps + length u.frames ≡ ends ps + length t.frames) → starts (p ∷ ps) + length s.frames ≡ ends (p ∷ ps) + length t.frames
  by_first None is h later = absurd cc
  by_first (Some u) is h later =
      let one : cond (is_start p.piece) 1 0 + length s.frames ≡ cond (is_end p.piece) 1 0 + length u.frames = weighs u s.frames s.elements p.at p.piece is in
      let more = later u h in
      omega (arith, one, more, count_more (λ (x : Placed). is_start x.piece) p ps, count_more (λ (x : Placed). is_end x.piece) p ps)

-- As many elements are open as the definition counts.
pub depth_is : (ps : List Placed) (s : State) → behind_pieces nothing_yet ps ≡ Some s → open_count ps ≡ length s.frames
unfolding starts ends
depth_is ps s e = let d = depth_counts nothing_yet s ps e in omega (arith, d)

-- ---- numbers of elements

-- how many elements there are with one piece more
abbrev IsNear : List Element → List Element → Type 0
IsNear E F = (length E ≤ length F) × (length F ≤ length E + 1)

module _ (t : State) where
  near_same : (fs : List Frame) (E : List Element) → Some (let u : State = record { frames = fs; elements = E } in u) ≡ Some t → length t.elements ≡ length E
  near_same fs E h = let equal : (let u : State = record { frames = fs; elements = E } in u) ≡ t = cc in ap (λ (u : State). length u.elements) (sym equal)

  near_test : (fs : List Frame) (E : List Element) (b : Bool) → cond b (Some (let u : State = record { frames = fs; elements = E } in u)) None ≡ Some t → length t.elements ≡ length E
  near_test fs E true h = near_same fs E h
  near_test fs E false h = absurd cc

  near : (fs : List Frame) (E : List Element) (at : ℕ) (x : Piece) → behind_piece (record { frames = fs; elements = E }) at x ≡ Some t → IsNear E t.elements
  near fs E at Aside h = let l = near_same fs E h in (omega (arith, l), omega (arith, l))
  near [] E at (Escaped text) h = absurd cc
  near (f ∷ fs) E at (Escaped text) h = let l = near_same (with_more_text text f ∷ fs) E h in (omega (arith, l), omega (arith, l))
  near [] E at (Plain text) h = let l = near_test [] E (list_all is_blank text) h in (omega (arith, l), omega (arith, l))
  near (f ∷ fs) E at (Plain text) h = let l = near_same (with_more_text text f ∷ fs) E h in (omega (arith, l), omega (arith, l))
  near fs E at (Empty name attributes) h =
      let x : Element = new_element at (parent_of fs) name attributes in let l = near_test fs (E ++ x ∷ []) (may_begin fs E) h in
      let long = length-append E (x ∷ []) in (omega (arith, l, long), omega (arith, l, long))
  near fs E at (Start name attributes) h =
      let x : Element = new_element at (parent_of fs) name attributes in
      let l = near_test (record { number = length E; name = name; text = [] } ∷ fs) (E ++ x ∷ []) (may_begin fs E) h in
      let long = length-append E (x ∷ []) in (omega (arith, l, long), omega (arith, l, long))
  near [] E at (End name) h = absurd cc
  near (f ∷ fs) E at (End name) h =
      let l = near_test fs (with_text E f.number f.text) (bytes_eq f.name name) h in let same = length_text E f.number f.text in (omega (arith, l, same), omega (arith, l, same))

-- One piece makes one element more at most.
pub one_element : (s t : State) (at : ℕ) (piece : Piece) → behind_piece s at piece ≡ Some t → length t.elements ≤ length s.elements + 1
one_element s t at piece e = (near t s.frames s.elements at piece e).1

no_fewer : (s t : State) (ps : List Placed) → behind_pieces s ps ≡ Some t → length s.elements ≤ length t.elements
no_fewer s t [] e = let same : s ≡ t = cc in let l = ap (λ (u : State). length u.elements) same in omega (arith, l)
no_fewer s t (p ∷ ps) e = by_first (behind_piece s p.at p.piece) refl e (λ u. no_fewer u t ps) where
  by_first : (o : Option State) → behind_piece s p.at p.piece ≡ o → option_and_then (λ u. behind_pieces u ps) o ≡ Some t
      → ((u : State) → behind_pieces u ps ≡ Some t → length u.elements ≤ length t.elements) → length s.elements ≤ length t.elements
  by_first None is h later = absurd cc
  by_first (Some u) is h later = let one = (near u s.frames s.elements p.at p.piece is).0 in let more = later u h in omega (arith, one, more)

-- Pieces that make no element stand outside.
module _ (t : State) (none : t.elements ≡ []) (p : Placed) (ps : List Placed) (more : behind_pieces nothing_yet ps ≡ Some t → AllByRecursion IsOutside ps) where
  begun : (fs : List Frame) (e : Element) → behind_pieces (record { frames = fs; elements = e ∷ [] }) ps ≡ Some t → AllByRecursion IsOutside (p ∷ ps)
  begun fs e h =
      let some = no_fewer (record { frames = fs; elements = e ∷ [] }) t ps h in let l : length t.elements ≡ 0 = ap length none in absurd (omega (arith, some, l))

  blank_outside : (text : List ℕ) (b : Bool) → list_all is_blank text ≡ b → p.piece ≡ Plain text → option_and_then (λ u. behind_pieces u ps) (cond b (Some nothing_yet) None) ≡ Some t
      → AllByRecursion IsOutside (p ∷ ps)
  blank_outside text true blanks is h = (inr (text, is, blanks), more h)
  blank_outside text false blanks is h = absurd cc

  outside_piece : (piece : Piece) → p.piece ≡ piece → option_and_then (λ u. behind_pieces u ps) (behind_piece nothing_yet p.at piece) ≡ Some t → AllByRecursion IsOutside (p ∷ ps)
  outside_piece Aside is h = (inl is, more h)
  outside_piece (Escaped text) is h = absurd cc
  outside_piece (Plain text) is h = blank_outside text (list_all is_blank text) refl is h
  outside_piece (End name) is h = absurd cc
  outside_piece (Empty name attributes) is h = begun [] (new_element p.at None name attributes) h
  outside_piece (Start name attributes) is h = begun (record { number = 0; name = name; text = [] } ∷ []) (new_element p.at None name attributes) h

all_outside : (t : State) → t.elements ≡ [] → (ps : List Placed) → behind_pieces nothing_yet ps ≡ Some t → AllByRecursion IsOutside ps
all_outside t none [] e = tt
all_outside t none (p ∷ ps) e = outside_piece t none p ps (λ h. all_outside t none ps h) p.piece refl e

-- ---- one piece more

cut_snoc : {at : ℕ} {bytes rest : List ℕ} {ps : List Placed} → IsCutInto at bytes ps rest → (front more : List ℕ) (piece : Piece) (place : ℕ) → rest ≡ front ++ more → IsPiece front piece
    → place + length rest ≡ at + length bytes → IsCutInto at bytes (ps ++ (let p : Placed = record { at = place; piece = piece } in p) ∷ []) more
cut_snoc (IsCutInto.nothing {at = at} {rest = rest}) front more piece place parts is count =
    let here : at ≡ place = omega (arith, count) in
    subst (λ (r : List ℕ). IsCutInto at r ((let p : Placed = record { at = place; piece = piece } in p) ∷ []) more) (sym parts)
    (subst (λ (n : ℕ). IsCutInto at (front ++ more) ((let p : Placed = record { at = n; piece = piece } in p) ∷ []) more) here (IsCutInto.piece is IsCutInto.nothing))
cut_snoc (IsCutInto.piece {at = at} {bytes = b} {more = x} first c) front more piece place parts is count =
    IsCutInto.piece first (cut_snoc c front more piece place parts is (omega (arith, count, length-append b x)))

file_cut_snoc : (bytes rest : List ℕ) (ps : List Placed) → IsFileCut bytes ps rest → (front more : List ℕ) (piece : Piece) (place : ℕ) → rest ≡ front ++ more → IsPiece front piece
    → place + length rest ≡ length bytes → IsFileCut bytes (ps ++ (let p : Placed = record { at = place; piece = piece } in p) ∷ []) more
file_cut_snoc bytes rest ps (IsFileCut.with_order_mark text mark c) front more piece place parts is count =
    let long : length bytes ≡ length (byte_order_mark ++ text) = ap length mark in
    IsFileCut.with_order_mark text mark (cut_snoc c front more piece place parts is (omega (arith, count, long)))
file_cut_snoc bytes rest ps (IsFileCut.bare none c) front more piece place parts is count =
    IsFileCut.bare none (cut_snoc c front more piece place parts is (omega (arith, count)))

-- where a piece stands among some with one more at the end
abbrev StandsIn : List Placed → Placed → List Placed → Placed → Type 0
StandsIn xs p before q = ((xs ≡ before) × (p ≡ q)) ⊎ ((rest : List Placed) × (xs ≡ before ++ q ∷ rest))

snoc_cases : (xs : List Placed) (p : Placed) (before : List Placed) (q : Placed) (after : List Placed) → xs ++ p ∷ [] ≡ before ++ q ∷ after → StandsIn xs p before q
snoc_cases [] p [] q after e = let same : p ≡ q = cc in inl (refl, same)
snoc_cases [] p (b ∷ []) q after e = let wrong : [] ≡ q ∷ after = cc in absurd cc
snoc_cases [] p (b ∷ d ∷ before) q after e = let wrong : [] ≡ d ∷ (before ++ q ∷ after) = cc in absurd cc
snoc_cases (x ∷ xs) p [] q after e = let same : x ≡ q = cc in inr (xs, ap (λ z. z ∷ xs) same)
snoc_cases (x ∷ xs) p (b ∷ before) q after e =
    let head : x ≡ b = cc in let tail : xs ++ p ∷ [] ≡ before ++ q ∷ after = cc in
    elim (snoc_cases xs p before q after tail) as (λ _. StandsIn (x ∷ xs) p (b ∷ before) q) [
      | inl at ↦ inl (ap (λ z. z ∷ xs) head ∙ ap (λ t. b ∷ t) at.0, at.1)
      | inr in_front ↦ inr (in_front.0, ap (λ z. z ∷ xs) head ∙ ap (λ t. b ∷ t) in_front.1)
    ]

pub read_turn : (bytes rest front more : List ℕ) (at place : ℕ) (s t : State) (piece : Piece) → IsRead bytes rest at s → IsPiece front piece → rest ≡ front ++ more
    → behind_piece s at piece ≡ Some t → (BeginsElement piece → length s.frames < 128) → place + length more ≡ length bytes → IsRead bytes more place t
read_turn bytes rest front more at place s t piece r is parts step shallow count =
    let p : Placed = record { at = at; piece = piece } in
    let c = r.counted in let some : 1 ≤ length front = some_bytes is.spelled in
    let long : length rest ≡ length front + length more = ap length parts ∙ length-append front more in
    let few = r.few in
    record {
      pieces = r.pieces ++ p ∷ [];
      cut = file_cut_snoc bytes rest r.pieces r.cut front more piece at parts is c;
      counted = count;
      grown = pieces_from nothing_yet s r.pieces (p ∷ []) r.grown ∙ ap (option_and_then (λ u. behind_pieces u [])) step;
      shallow = λ before q after e begins. elim (snoc_cases r.pieces p before q after e) as (λ _. open_count before < 128) [
        | inl here ↦
            let depth : open_count r.pieces ≡ length s.frames = depth_is r.pieces s r.grown in
            let low = shallow (subst (λ (z : Placed). BeginsElement z.piece) (sym here.1) begins) in
            subst (λ (x : List Placed). open_count x < 128) here.0 (omega (arith, depth, low))
        | inr in_front ↦ r.shallow before q in_front.0 in_front.1 begins
      ];
      few = let one = one_element s t at piece step in omega (arith, one, few, c, count, long, some);
    }

-- ---- the beginning

pub read_bare : (bytes : List ℕ) → ((text : List ℕ) → bytes ≡ byte_order_mark ++ text → ⊥) → IsRead bytes bytes 0 nothing_yet
read_bare bytes none = record {
  pieces = [];
  cut = IsFileCut.bare none IsCutInto.nothing;
  counted = omega arith;
  grown = refl;
  shallow = λ before q after e begins. nowhere before q after e;
  few = omega arith;
} where
  nowhere : (before : List Placed) (q : Placed) (after : List Placed) → [] ≡ before ++ q ∷ after → open_count before < 128
  nowhere [] q after e = absurd cc
  nowhere (b ∷ before) q after e = absurd cc

pub read_marked : (bytes text : List ℕ) → bytes ≡ byte_order_mark ++ text → IsRead bytes text 3 nothing_yet
read_marked bytes text mark = record {
  pieces = [];
  cut = IsFileCut.with_order_mark text mark IsCutInto.nothing;
  counted = let long : length bytes ≡ length (byte_order_mark ++ text) = ap length mark in omega (arith, long);
  grown = refl;
  shallow = λ before q after e begins. nowhere before q after e;
  few = omega arith;
} where
  nowhere : (before : List Placed) (q : Placed) (after : List Placed) → [] ≡ before ++ q ∷ after → open_count before < 128
  nowhere [] q after e = absurd cc
  nowhere (b ∷ before) q after e = absurd cc

-- ---- no fault before this byte

begins_like : (p : Placed) (piece : Piece) → piece ≡ p.piece → BeginsElement piece → BeginsElement p.piece
begins_like p piece same begins = subst BeginsElement same begins

-- A tag that is too deep stands at this byte or behind it.
pub deep_later : (bytes rest : List ℕ) (at other : ℕ) (s : State) → IsRead bytes rest at s → NestsTooDeep bytes other → at ≤ other
deep_later bytes rest at other s r deep = let t = deep_tag bytes other deep in let i = r.counted in let j = t.counted in
    elim (two_file_cuts bytes rest t.between r.pieces t.before r.cut t.cut) as (λ _. at ≤ other) [
      | inl f ↦ let long = cut_length f.cut in omega (arith, long, i, j)
      | inr f ↦ by_more f.at f.more t.before t.tag t.between t.next t.element t.deep f.parts f.cut j
    ] where
      by_more : (place : ℕ) (more before : List Placed) (tag : Placed) (between : List ℕ) → HasNext between tag → BeginsElement tag.piece → 128 ≤ open_count before → r.pieces ≡ before ++ more
          → IsCutInto place between more rest → other + length between ≡ length bytes → at ≤ other
      by_more place [] before tag between next element deep_here parts cut j =
          let same : between ≡ rest = no_more_cut place between rest cut in
          let l : length between ≡ length rest = ap length same in let i = r.counted in omega (arith, i, j, l)
      by_more place (q ∷ more) before tag between next element deep_here parts cut j =
          let here = next_of q more cut in
          let same = one_piece next.piece.spelled here.piece.spelled (sym next.parts ∙ here.parts) in
          let low = r.shallow before q more parts (subst BeginsElement same.0 element) in
          absurd (omega (arith, low, deep_here))

-- Nothing goes wrong before this byte.
wrong_later : (bytes rest : List ℕ) (at other : ℕ) (s : State) (ps : List Placed) (end : List ℕ) → IsRead bytes rest at s → GoesWrong bytes other ps end → at ≤ other
wrong_later bytes rest at other s ps end r wrong = let i = r.counted in let j = wrong.counted in
    elim (two_file_cuts bytes rest end r.pieces ps r.cut wrong.cut) as (λ _. at ≤ other) [
      | inl f ↦ let long = cut_length f.cut in omega (arith, long, i, j)
      | inr f ↦
          let begins : BeginDocument (ps ++ f.more) = subst BeginDocument f.parts (grown_begins r.pieces s r.grown) in
          let none : f.more ≡ [] = stuck_whole ps f.more f.at end rest wrong.stuck f.cut begins in
          let same : end ≡ rest = no_more_cut f.at end rest (subst (λ (x : List Placed). IsCutInto f.at end x rest) none f.cut) in
          let l : length end ≡ length rest = ap length same in omega (arith, i, j, l)
    ]

fault_later : (bytes rest : List ℕ) (at : ℕ) (s : State) (f : TextFault) → IsRead bytes rest at s → HasTextFault bytes f → at ≤ byte_of f
fault_later bytes rest at s f r (HasTextFault.malformed {at = other} {pieces = ps} {rest = end} wrong none) = wrong_later bytes rest at other s ps end r wrong
fault_later bytes rest at s f r (HasTextFault.doctype {at = other} {pieces = ps} {rest = end} wrong doctype) = wrong_later bytes rest at other s ps end r wrong
fault_later bytes rest at s f r (HasTextFault.too_deep {at = other} deep) = deep_later bytes rest at other s r deep

told : (bytes rest : List ℕ) (at : ℕ) (s : State) (f : TextFault) → IsUtf8 bytes → IsRead bytes rest at s → HasTextFault bytes f → byte_of f ≡ at → IsTextFault bytes f
told bytes rest at s f utf8 r has is =
    IsTextFault.text utf8 (record { has = has; first = λ other also less. let later = fault_later bytes rest at s other r also in absurd (omega (arith, later, less, is)) })

-- ---- the end

pub read_end : (bytes : List ℕ) (at : ℕ) (s : State) → IsUtf8 bytes → IsRead bytes [] at s → s.frames ≡ [] → 0 < length s.elements → HasElements bytes s.elements
read_end bytes at s utf8 r none some =
    let whole : behind_pieces nothing_yet r.pieces ≡ Some (all_read s.elements) = r.grown ∙ ap (λ (fs : List Frame). let t : State = record { frames = fs; elements = s.elements } in Some t) none in
    record {
      utf8 = utf8;
      pieces = r.pieces;
      cut = r.cut;
      document = grown_document s.elements r.pieces some whole;
      shallow = λ other deep.
          let later = deep_later bytes [] at other s r deep in
          let t = deep_tag bytes other deep in
          let i = r.counted in let j = t.counted in
          let one : 1 ≤ length t.next.bytes = some_bytes t.next.piece.spelled in
          let long : length t.between ≡ length t.next.bytes + length t.next.behind = ap length t.next.parts ∙ length-append t.next.bytes t.next.behind in
          omega (arith, later, i, j, one, long);
    }

goes_wrong : (bytes rest : List ℕ) (at : ℕ) (s : State) (r : IsRead bytes rest at s) → IsStuck r.pieces rest → GoesWrong bytes at r.pieces rest
goes_wrong bytes rest at s r stuck = let i = r.counted in record { cut = r.cut; counted = omega (arith, i); begins = grown_begins r.pieces s r.grown; stuck = stuck }

no_doctype_end : (pieces : List Placed) → IsDoctype pieces [] → ⊥
no_doctype_end pieces d = let parts : [] ≡ codes "<!DOCTYPE" ++ d.more = d.spelled in absurd cc

pub ends_early : (bytes : List ℕ) (at : ℕ) (s : State) → IsUtf8 bytes → IsRead bytes [] at s → ((d : List Element) → s ≡ all_read d → 0 < length d → ⊥) → IsTextFault bytes (faults.Malformed at)
ends_early bytes at s utf8 r unfinished =
    let stuck : IsStuck r.pieces [] = IsStuck.ended refl (λ d whole. unfinished d (whole_only r.pieces s d r.grown whole) (document_rooted r.pieces d whole)) in
    told bytes [] at s (faults.Malformed at) utf8 r (HasTextFault.malformed (goes_wrong bytes [] at s r stuck) (no_doctype_end r.pieces)) refl

-- ---- where no piece begins

outside_so_far : (ps : List Placed) (s : State) → behind_pieces nothing_yet ps ≡ Some s → AllByRecursion IsOutside ps → s ≡ nothing_yet
outside_so_far ps s e all = let same : Some (all_read []) ≡ Some s = sym (outside_grows [] ps all) ∙ e in cc

pub no_piece_there : (bytes rest : List ℕ) (at : ℕ) (s : State) → IsUtf8 bytes → IsRead bytes rest at s → rest ≢ [] → BeginsNoPiece rest
    → ((s ≡ nothing_yet) → (more : List ℕ) → rest ≡ codes "<!DOCTYPE" ++ more → ⊥) → IsTextFault bytes (faults.Malformed at)
no_piece_there bytes rest at s utf8 r some none other =
    told bytes rest at s (faults.Malformed at) utf8 r
    (HasTextFault.malformed (goes_wrong bytes rest at s r (IsStuck.no_piece some none)) (λ d. other (outside_so_far r.pieces s r.grown d.before_root) d.more d.spelled)) refl

pub doctype_there : (bytes rest more : List ℕ) (at : ℕ) (s : State) → IsUtf8 bytes → IsRead bytes rest at s → BeginsNoPiece rest → s.elements ≡ [] → rest ≡ codes "<!DOCTYPE" ++ more
    → IsTextFault bytes (faults.Doctype at)
doctype_there bytes rest more at s utf8 r none empty parts =
    let some : rest ≢ [] = λ e. let wrong : [] ≡ codes "<!DOCTYPE" ++ more = sym e ∙ parts in absurd cc in
    let doctype : IsDoctype r.pieces rest = record { before_root = all_outside s empty r.pieces r.grown; more = more; spelled = parts } in
    told bytes rest at s (faults.Doctype at) utf8 r (HasTextFault.doctype (goes_wrong bytes rest at s r (IsStuck.no_piece some none)) doctype) refl

-- ---- where a piece cannot stand

none_anywhere : (s : State) (at other : ℕ) (piece : Piece) → behind_piece s at piece ≡ None → behind_piece s other piece ≡ None
none_anywhere s at other (Start name attributes) e = by_test (may_begin s.frames s.elements) e where
  by_test : (b : Bool) → cond b (Some (let t : State = record { frames = record { number = length s.elements; name = name; text = [] } ∷ s.frames; elements = s.elements ++ new_element at (parent_of s.frames) name attributes ∷ [] } in t)) None ≡ None
      → cond b (Some (let t : State = record { frames = record { number = length s.elements; name = name; text = [] } ∷ s.frames; elements = s.elements ++ new_element other (parent_of s.frames) name attributes ∷ [] } in t)) None ≡ None
  by_test true h = absurd cc
  by_test false h = refl
none_anywhere s at other (Empty name attributes) e = by_test (may_begin s.frames s.elements) e where
  by_test : (b : Bool) → cond b (Some (let t : State = record { frames = s.frames; elements = s.elements ++ new_element at (parent_of s.frames) name attributes ∷ [] } in t)) None ≡ None
      → cond b (Some (let t : State = record { frames = s.frames; elements = s.elements ++ new_element other (parent_of s.frames) name attributes ∷ [] } in t)) None ≡ None
  by_test true h = absurd cc
  by_test false h = refl
none_anywhere s at other (End name) e = e
none_anywhere s at other Aside e = e
none_anywhere s at other (Escaped text) e = e
none_anywhere s at other (Plain text) e = e

pub wrong_there : (bytes rest front more : List ℕ) (at : ℕ) (s : State) (piece : Piece) → IsUtf8 bytes → IsRead bytes rest at s → IsPiece front piece → rest ≡ front ++ more
    → behind_piece s at piece ≡ None → IsTextFault bytes (faults.Malformed at)
wrong_there bytes rest front more at s piece utf8 r is parts none =
    let hasnt : (other : ℕ) → BeginDocument (r.pieces ++ (let p : Placed = record { at = other; piece = piece } in p) ∷ []) → ⊥ = λ other begins.
    let p : Placed = record { at = other; piece = piece } in
    let grown : behind_pieces nothing_yet (r.pieces ++ p ∷ []) ≡ None =
    pieces_from nothing_yet s r.pieces (p ∷ []) r.grown ∙ ap (option_and_then (λ u. behind_pieces u [])) (none_anywhere s at other piece none) in
    stuck_begins_none (r.pieces ++ p ∷ []) grown begins in
    let wrong : BeginsWrongPiece r.pieces rest = (front, more, piece, parts, is, hasnt) in
    let no_doctype : IsDoctype r.pieces rest → ⊥ = λ d.
    let taken : piece_taken rest ≡ Some (let z : Piece × List ℕ = (piece, more) in z) = ap piece_taken parts ∙ piece_again is.spelled more in
    let nothing : piece_taken rest ≡ None = ap piece_taken d.spelled ∙ doctype_none d.more in absurd cc in
    told bytes rest at s (faults.Malformed at) utf8 r (HasTextFault.malformed (goes_wrong bytes rest at s r (IsStuck.wrong_piece wrong)) no_doctype) refl

-- ---- where a tag is too deep

pub deep_there : (bytes rest front more : List ℕ) (at : ℕ) (s t : State) (piece : Piece) → IsUtf8 bytes → IsRead bytes rest at s → IsPiece front piece → rest ≡ front ++ more
    → behind_piece s at piece ≡ Some t → BeginsElement piece → 128 ≤ length s.frames → IsTextFault bytes (faults.TooDeep at)
deep_there bytes rest front more at s t piece utf8 r is parts step element deep =
    let p : Placed = record { at = at; piece = piece } in
    let i = r.counted in
    let cut : IsFileCut bytes (r.pieces ++ p ∷ []) more = file_cut_snoc bytes rest r.pieces r.cut front more piece at parts is i in
    let grown : behind_pieces nothing_yet (r.pieces ++ p ∷ []) ≡ Some t = pieces_from nothing_yet s r.pieces (p ∷ []) r.grown ∙ ap (option_and_then (λ u. behind_pieces u [])) step in
    let depth : open_count r.pieces ≡ length s.frames = depth_is r.pieces s r.grown in
    let nests : NestsTooDeep bytes at = record {
      before = r.pieces;
      tag = piece;
      rest = more;
      cut = cut;
      begins = grown_begins (r.pieces ++ p ∷ []) t grown;
      element = element;
      deep = omega (arith, depth, deep);
    } in
    told bytes rest at s (faults.TooDeep at) utf8 r (HasTextFault.too_deep nests) refl
