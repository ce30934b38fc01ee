-- What pieces make of a tree is what their grammar says: pieces that grow to a whole tree are a document.
use Rattle.std.proofs.Common.{◌≡◌, ◌⊎◌, inl, inr, ℕ, zero, suc, ◌+◌, ◌<◌, Bool, true, false, cond, List, [], ◌∷◌, ◌++◌, length, Option, Some, None, refl, sym, ◌∙◌, ap, subst, arith, append_assoc}
use Rattle.std.specs.Prelude.{option_and_then, bytes_eq}
use Rattle.std.specs.List.{list_all, AllByRecursion}
use Rattle.std.proofs.lemmas.List.{length-append}
use Rattle.std.proofs.lemmas.Slice.Eq.{bytes_eq-Decides}
use Rattle.pssm_xml.specs.Characters.{is_blank}
use Rattle.pssm_xml.specs.Pieces.{Attribute, Piece, Start, Empty, End, Aside, Escaped, Plain}
use Rattle.pssm_xml.specs.Documents.{Placed, Element, IsContent, IsRootElement, IsOutside, IsDocument, BeginDocument}
use Rattle.pssm_xml.specs.inner.Growth.{Frame, State, parent_of, may_begin, new_element, having_text, with_text, with_more_text, behind_piece, behind_pieces, nothing_yet, all_read}
use Rattle.pssm_xml.proofs.GrowthLaws.{pieces_then, pieces_from, document_grows}

-- ---- what closes the elements that are open

-- The pieces are the rest of the innermost element, its end, and so on; behind the root stands what may stand outside.
abbrev pub Closes : List Frame → ℕ → List Placed → Type 0
Closes [] next ps = AllByRecursion IsOutside ps
Closes (f ∷ fs) next ps =
    (inner : List Placed) × (q : Placed) × (rest : List Placed) × (text : List ℕ) × (es : List Element)
    × (ps ≡ inner ++ q ∷ rest) × IsContent f.number next inner text es × (q.piece ≡ End f.name) × Closes fs (next + length es) rest

abbrev state : List Frame → List Element → State
state fs E = record { frames = fs; elements = E }

abbrev frames_in : Option State → List Frame
frames_in None = []
frames_in (Some s) = s.frames

-- ---- one piece in front

closes_aside : (fs : List Frame) (next : ℕ) (p : Placed) (ps : List Placed) → p.piece ≡ Aside → Closes fs next ps → Closes fs next (p ∷ ps)
closes_aside [] next p ps is all = (inl is, all)
closes_aside (f ∷ fs) next p ps is c = (p ∷ c.0, c.1, c.2, c.3, c.4, ap (λ t. p ∷ t) c.5, IsContent.aside is c.6, c.7, c.8)

closes_text : (f g : Frame) (fs : List Frame) (next : ℕ) (p : Placed) (ps : List Placed) (first : List ℕ) → (p.piece ≡ Escaped first) ⊎ (p.piece ≡ Plain first)
    → g.number ≡ f.number → g.name ≡ f.name → Closes (g ∷ fs) next ps → Closes (f ∷ fs) next (p ∷ ps)
closes_text f g fs next p ps first is number name c =
    let content : IsContent f.number next c.0 c.3 c.4 = subst (λ (n : ℕ). IsContent n next c.0 c.3 c.4) number c.6 in
    (p ∷ c.0, c.1, c.2, first ++ c.3, c.4, ap (λ t. p ∷ t) c.5, IsContent.text first is content, c.7 ∙ ap End name, c.8)

closes_empty : (f : Frame) (fs : List Frame) (next : ℕ) (p : Placed) (ps : List Placed) (name : List ℕ) (attributes : List Attribute) → p.piece ≡ Empty name attributes
    → Closes (f ∷ fs) (suc next) ps → Closes (f ∷ fs) next (p ∷ ps)
closes_empty f fs next p ps name attributes is c =
    let e : Element = new_element p.at (Some f.number) name attributes in
    let long : suc next + length c.4 ≡ next + length (e ∷ c.4) = omega arith in
    (p ∷ c.0, c.1, c.2, c.3, e ∷ c.4, ap (λ t. p ∷ t) c.5, IsContent.empty is c.6, c.7, subst (λ (n : ℕ). Closes fs n c.2) long c.8)

closes_start : (f g : Frame) (fs : List Frame) (next : ℕ) (p : Placed) (ps : List Placed) (attributes : List Attribute) → p.piece ≡ Start g.name attributes → g.number ≡ next
    → Closes (g ∷ f ∷ fs) (suc next) ps → Closes (f ∷ fs) next (p ∷ ps)
closes_start f g fs next p ps attributes is number c =
    let d = c.8 in
    let inner : IsContent next (suc next) c.0 c.3 c.4 = subst (λ (n : ℕ). IsContent n (suc next) c.0 c.3 c.4) number c.6 in
    let e : Element = having_text c.3 (new_element p.at (Some f.number) g.name attributes) in
    let long : (suc next + length c.4) + length d.4 ≡ next + length (e ∷ (c.4 ++ d.4)) = omega (arith, length-append c.4 d.4) in
    let parts : ps ≡ (c.0 ++ c.1 ∷ d.0) ++ d.1 ∷ d.2 = c.5 ∙ ap (λ t. c.0 ++ c.1 ∷ t) d.5 ∙ sym (append_assoc c.0 (c.1 ∷ d.0) (d.1 ∷ d.2)) in
    (p ∷ (c.0 ++ c.1 ∷ d.0), d.1, d.2, d.3, e ∷ (c.4 ++ d.4), ap (λ t. p ∷ t) parts, IsContent.nested c.1 is inner c.7 d.6, d.7, subst (λ (n : ℕ). Closes fs n d.2) long d.8)

closes_end : (f : Frame) (fs : List Frame) (next : ℕ) (p : Placed) (ps : List Placed) → p.piece ≡ End f.name → Closes fs next ps → Closes (f ∷ fs) next (p ∷ ps)
closes_end f fs next p ps is c =
    let same : next ≡ next + length {A = Element} [] = omega arith in
    ([], p, ps, [], [], refl, IsContent.nothing, is, subst (λ (n : ℕ). Closes fs n ps) same c)

-- ---- pieces that grow to a whole tree

pub length_text : (E : List Element) (n : ℕ) (text : List ℕ) → length (with_text E n text) ≡ length E
length_text [] n text = refl
length_text (e ∷ E) zero text = refl
length_text (e ∷ E) (suc n) text = ap suc (length_text E n text)

module _ (d : List Element) (p : Placed) (ps : List Placed) (more : (fs : List Frame) (E : List Element) → 0 < length E → behind_pieces (state fs E) ps ≡ Some (all_read d) → Closes fs (length E) ps) where
  closes_plain : (f : Frame) (fs : List Frame) (E : List Element) (text : List ℕ) → 0 < length E → (p.piece ≡ Escaped text) ⊎ (p.piece ≡ Plain text)
      → behind_pieces (state (with_more_text text f ∷ fs) E) ps ≡ Some (all_read d) → Closes (f ∷ fs) (length E) (p ∷ ps)
  closes_plain f fs E text some is e = closes_text f (with_more_text text f) fs (length E) p ps text is refl refl (more (with_more_text text f ∷ fs) E some e)

  outside_plain : (E : List Element) (text : List ℕ) (b : Bool) → list_all is_blank text ≡ b → 0 < length E → p.piece ≡ Plain text
      → option_and_then (λ t. behind_pieces t ps) (cond b (Some (all_read E)) None) ≡ Some (all_read d) → AllByRecursion IsOutside (p ∷ ps)
  outside_plain E text true blanks some is e = (inr (text, is, blanks), more [] E some e)
  outside_plain E text false blanks some is e = absurd cc

  ends_one : (f : Frame) (fs : List Frame) (E : List Element) (name : List ℕ) (b : Bool) → bytes_eq f.name name ≡ b → 0 < length E → p.piece ≡ End name
      → option_and_then (λ t. behind_pieces t ps) (cond b (Some (state fs (with_text E f.number f.text))) None) ≡ Some (all_read d) → Closes (f ∷ fs) (length E) (p ∷ ps)
  ends_one f fs E name true same some is e =
      let named : f.name ≡ name = (bytes_eq-Decides f.name name).0 same in
      let long : length (with_text E f.number f.text) ≡ length E = length_text E f.number f.text in
      closes_end f fs (length E) p ps (is ∙ ap End (sym named)) (subst (λ (n : ℕ). Closes fs n ps) long (more fs (with_text E f.number f.text) (omega (arith, long)) e))
  ends_one f fs E name false same some is e = absurd cc

  closes_piece : (fs : List Frame) (E : List Element) (piece : Piece) → 0 < length E → p.piece ≡ piece
      → option_and_then (λ t. behind_pieces t ps) (behind_piece (state fs E) p.at piece) ≡ Some (all_read d) → Closes fs (length E) (p ∷ ps)
  closes_piece fs E Aside some is e = closes_aside fs (length E) p ps is (more fs E some e)
  closes_piece [] E (Escaped text) some is e = absurd cc
  closes_piece (f ∷ fs) E (Escaped text) some is e = closes_plain f fs E text some (inl is) e
  closes_piece [] E (Plain text) some is e = outside_plain E text (list_all is_blank text) refl some is e
  closes_piece (f ∷ fs) E (Plain text) some is e = closes_plain f fs E text some (inr is) e
  closes_piece [] [] (Empty name attributes) some is e = absurd (omega arith)
  closes_piece [] (x ∷ E) (Empty name attributes) some is e = absurd cc
  closes_piece (f ∷ fs) E (Empty name attributes) some is e =
      let x : Element = new_element p.at (Some f.number) name attributes in
      let long : length (E ++ x ∷ []) ≡ suc (length E) = omega (arith, length-append E (x ∷ [])) in
      closes_empty f fs (length E) p ps name attributes is (subst (λ (n : ℕ). Closes (f ∷ fs) n ps) long (more (f ∷ fs) (E ++ x ∷ []) (omega (arith, long)) e))
  closes_piece [] [] (Start name attributes) some is e = absurd (omega arith)
  closes_piece [] (x ∷ E) (Start name attributes) some is e = absurd cc
  closes_piece (f ∷ fs) E (Start name attributes) some is e =
      let x : Element = new_element p.at (Some f.number) name attributes in
      let g : Frame = record { number = length E; name = name; text = [] } in
      let long : length (E ++ x ∷ []) ≡ suc (length E) = omega (arith, length-append E (x ∷ [])) in
      closes_start f g fs (length E) p ps attributes is refl (subst (λ (n : ℕ). Closes (g ∷ f ∷ fs) n ps) long (more (g ∷ f ∷ fs) (E ++ x ∷ []) (omega (arith, long)) e))
  closes_piece [] E (End name) some is e = absurd cc
  closes_piece (f ∷ fs) E (End name) some is e = ends_one f fs E name (bytes_eq f.name name) refl some is e

pub closes : (d : List Element) (ps : List Placed) (fs : List Frame) (E : List Element) → 0 < length E → behind_pieces (state fs E) ps ≡ Some (all_read d) → Closes fs (length E) ps
closes d [] [] E some e = tt
closes d [] (f ∷ fs) E some e = let none : f ∷ fs ≡ [] = ap frames_in e in absurd cc
closes d (p ∷ ps) fs E some e = closes_piece d p ps (λ gs F. closes d ps gs F) fs E p.piece some refl e

-- ---- documents

abbrev elements_in : Option State → List Element
elements_in None = []
elements_in (Some s) = s.elements

abbrev HasDocument : List Placed → Type 0
HasDocument ps = (es : List Element) × IsDocument ps es

outside_first : (p : Placed) (ps : List Placed) → IsOutside p → HasDocument ps → HasDocument (p ∷ ps)
outside_first p ps out d = (
  d.0,
  record {
    before = p ∷ d.1.before;
    root = d.1.root;
    behind = d.1.behind;
    parts = ap (λ t. p ∷ t) d.1.parts;
    outside = ((out, d.1.outside.0), d.1.outside.1);
    root_is = d.1.root_is;
  },
)

module _ (d : List Element) (p : Placed) (ps : List Placed) (more : behind_pieces nothing_yet ps ≡ Some (all_read d) → HasDocument ps) where
  blank_first : (text : List ℕ) (b : Bool) → list_all is_blank text ≡ b → p.piece ≡ Plain text
      → option_and_then (λ t. behind_pieces t ps) (cond b (Some nothing_yet) None) ≡ Some (all_read d) → HasDocument (p ∷ ps)
  blank_first text true blanks is e = outside_first p ps (inr (text, is, blanks)) (more e)
  blank_first text false blanks is e = absurd cc

  root_first : (name : List ℕ) (attributes : List Attribute) → p.piece ≡ Start name attributes
      → Closes (record { number = 0; name = name; text = [] } ∷ []) 1 ps → HasDocument (p ∷ ps)
  root_first name attributes is c = (
    _,
    record {
      before = [];
      root = p ∷ (c.0 ++ c.1 ∷ []);
      behind = c.2;
      parts = ap (λ t. p ∷ t) (c.5 ∙ sym (append_assoc c.0 (c.1 ∷ []) c.2));
      outside = (tt, c.8);
      root_is = IsRootElement.nested c.1 is c.6 c.7;
    },
  )

  document_piece : (piece : Piece) → p.piece ≡ piece → option_and_then (λ t. behind_pieces t ps) (behind_piece nothing_yet p.at piece) ≡ Some (all_read d) → HasDocument (p ∷ ps)
  document_piece Aside is e = outside_first p ps (inl is) (more e)
  document_piece (Escaped text) is e = absurd cc
  document_piece (Plain text) is e = blank_first text (list_all is_blank text) refl is e
  document_piece (End name) is e = absurd cc
  document_piece (Empty name attributes) is e =
      let all : AllByRecursion IsOutside ps = closes d ps [] (new_element p.at None name attributes ∷ []) (omega arith) e in
      (new_element p.at None name attributes ∷ [], record { before = []; root = p ∷ []; behind = ps; parts = refl; outside = (tt, all); root_is = IsRootElement.empty is })
  document_piece (Start name attributes) is e =
      root_first name attributes is (closes d ps (record { number = 0; name = name; text = [] } ∷ []) (new_element p.at None name attributes ∷ []) (omega arith) e)

has_document : (d : List Element) (ps : List Placed) → 0 < length d → behind_pieces nothing_yet ps ≡ Some (all_read d) → HasDocument ps
has_document d [] some e = let none : [] ≡ d = ap elements_in e in absurd (omega (arith, ap length none))
has_document d (p ∷ ps) some e = document_piece d p ps (λ h. has_document d ps some h) p.piece refl e

-- Pieces that grow to a whole tree are a document with its elements.
pub grown_document : (d : List Element) (ps : List Placed) → 0 < length d → behind_pieces nothing_yet ps ≡ Some (all_read d) → IsDocument ps d
grown_document d ps some e =
    let has = has_document d ps some e in
    let same : has.0 ≡ d = ap elements_in (sym (document_grows ps has.0 has.1) ∙ e) in
    subst (λ (es : List Element). IsDocument ps es) same has.1

-- ---- fronts of documents

-- A tree with an open element has a root.
abbrev pub IsRooted : State → Type 0
IsRooted s = (s.frames ≡ []) ⊎ (0 < length s.elements)

module _ (t : State) where
  by_begin : (frames gs : List Frame) (E : List Element) (x : Element) (b : Bool) → cond b (Some (state gs (E ++ x ∷ []))) None ≡ Some t → IsRooted t
  by_begin frames gs E x true e =
      let same : state gs (E ++ x ∷ []) ≡ t = cc in
      inr (subst (λ (s : State). 0 < length s.elements) same (omega (arith, length-append E (x ∷ []))))
  by_begin frames gs E x false e = absurd cc

  by_end : (f : Frame) (fs : List Frame) (E : List Element) (b : Bool) → IsRooted (state (f ∷ fs) E) → cond b (Some (state fs (with_text E f.number f.text))) None ≡ Some t → IsRooted t
  by_end f fs E b (inl none) e = absurd cc
  by_end f fs E false (inr some) e = absurd cc
  by_end f fs E true (inr some) e =
      let same : state fs (with_text E f.number f.text) ≡ t = cc in
      inr (subst (λ (s : State). 0 < length s.elements) same (omega (arith, length_text E f.number f.text)))

  by_plain : (E : List Element) (b : Bool) → cond b (Some (all_read E)) None ≡ Some t → IsRooted t
  by_plain E true e = let same : all_read E ≡ t = cc in inl (ap (λ (s : State). s.frames) (sym same))
  by_plain E false e = absurd cc

  by_text : (f g : Frame) (fs : List Frame) (E : List Element) → IsRooted (state (f ∷ fs) E) → Some (state (g ∷ fs) E) ≡ Some t → IsRooted t
  by_text f g fs E (inl none) e = absurd cc
  by_text f g fs E (inr some) e = let same : state (g ∷ fs) E ≡ t = cc in inr (subst (λ (s : State). 0 < length s.elements) same some)

  rooted_piece : (fs : List Frame) (E : List Element) (at : ℕ) (piece : Piece) → IsRooted (state fs E) → behind_piece (state fs E) at piece ≡ Some t → IsRooted t
  rooted_piece fs E at Aside r e = let same : state fs E ≡ t = cc in subst IsRooted same r
  rooted_piece [] E at (Escaped text) r e = absurd cc
  rooted_piece (f ∷ fs) E at (Escaped text) r e = by_text f (with_more_text text f) fs E r e
  rooted_piece [] E at (Plain text) r e = by_plain E (list_all is_blank text) e
  rooted_piece (f ∷ fs) E at (Plain text) r e = by_text f (with_more_text text f) fs E r e
  rooted_piece fs E at (Empty name attributes) r e = by_begin fs fs E (new_element at (parent_of fs) name attributes) (may_begin fs E) e
  rooted_piece fs E at (Start name attributes) r e =
      by_begin fs (record { number = length E; name = name; text = [] } ∷ fs) E (new_element at (parent_of fs) name attributes) (may_begin fs E) e
  rooted_piece [] E at (End name) r e = absurd cc
  rooted_piece (f ∷ fs) E at (End name) r e = by_end f fs E (bytes_eq f.name name) r e

pub stays_rooted : (s t : State) (ps : List Placed) → IsRooted s → behind_pieces s ps ≡ Some t → IsRooted t
stays_rooted s t [] r e = let same : s ≡ t = cc in subst IsRooted same r
stays_rooted s t (p ∷ ps) r e = by_first (λ u. stays_rooted u t ps) (behind_piece s p.at p.piece) refl e where
  by_first : ((u : State) → IsRooted u → behind_pieces u ps ≡ Some t → IsRooted t) → (o : Option State) → behind_piece s p.at p.piece ≡ o
      → option_and_then (λ u. behind_pieces u ps) o ≡ Some t → IsRooted t
  by_first more None is h = absurd cc
  by_first more (Some u) is h = more u (rooted_piece u s.frames s.elements p.at p.piece r is) h

-- the ends of the elements that are open
ends : List Frame → List Placed
ends [] = []
ends (f ∷ fs) = record { at = 0; piece = End f.name } ∷ ends fs

same_bytes : (name : List ℕ) → bytes_eq name name ≡ true
same_bytes name = (bytes_eq-Decides name name).1 refl

ends_close : (fs : List Frame) (E : List Element) → 0 < length E → (d : List Element) × (0 < length d) × (behind_pieces (state fs E) (ends fs) ≡ Some (all_read d))
unfolding ends
ends_close [] E some = (E, some, refl)
ends_close (f ∷ fs) E some =
    let F = with_text E f.number f.text in
    let more = ends_close fs F (omega (arith, length_text E f.number f.text)) in
    let step : behind_piece (state (f ∷ fs) E) 0 (End f.name) ≡ Some (state fs F) = ap (λ (b : Bool). cond b (Some (state fs F)) None) (same_bytes f.name) in
    (more.0, more.1, ap (option_and_then (λ t. behind_pieces t (ends fs))) step ∙ more.2)

-- one root
a_root : Placed
a_root = record { at = 0; piece = Empty [] [] }

from_state : (ps more : List Placed) (s : State) (d : List Element) → behind_pieces nothing_yet ps ≡ Some s → 0 < length d → behind_pieces s more ≡ Some (all_read d) → BeginDocument ps
from_state ps more s d e some whole = (more, d, grown_document d (ps ++ more) some (pieces_from nothing_yet s ps more e ∙ whole))

-- Pieces that grow to a tree begin a document.
pub grown_begins : (ps : List Placed) (s : State) → behind_pieces nothing_yet ps ≡ Some s → BeginDocument ps
unfolding a_root
grown_begins ps s e = by_root s.frames s.elements (stays_rooted nothing_yet s ps (inl refl) e) e where
  by_root : (fs : List Frame) (E : List Element) → IsRooted (state fs E) → behind_pieces nothing_yet ps ≡ Some (state fs E) → BeginDocument ps
  by_root fs (x ∷ E) r h = let closed = ends_close fs (x ∷ E) (omega arith) in from_state ps (ends fs) (state fs (x ∷ E)) closed.0 h closed.1 closed.2
  by_root [] [] r h = from_state ps (record { at = 0; piece = Empty [] [] } ∷ []) nothing_yet (new_element 0 None [] [] ∷ []) h (omega arith) refl
  by_root (f ∷ fs) [] (inl none) h = absurd cc
  by_root (f ∷ fs) [] (inr some) h = absurd (omega arith)

-- Pieces that grow to none do not.
pub stuck_begins_none : (ps : List Placed) → behind_pieces nothing_yet ps ≡ None → BeginDocument ps → ⊥
stuck_begins_none ps e b =
    let whole : behind_pieces nothing_yet (ps ++ b.0) ≡ Some (all_read b.1) = document_grows (ps ++ b.0) b.1 b.2 in
    let none : behind_pieces nothing_yet (ps ++ b.0) ≡ None = pieces_then nothing_yet ps b.0 ∙ ap (option_and_then (λ t. behind_pieces t b.0)) e in
    absurd cc

-- Pieces that grow to a tree with an open element, or to none at all, are no document.
pub whole_only : (ps : List Placed) (s : State) (d : List Element) → behind_pieces nothing_yet ps ≡ Some s → IsDocument ps d → s ≡ all_read d
whole_only ps s d e is = let whole : behind_pieces nothing_yet ps ≡ Some (all_read d) = document_grows ps d is in cc

-- A document has a root.
pub document_rooted : (ps : List Placed) (d : List Element) → IsDocument ps d → 0 < length d
document_rooted ps d is = by_root is.root d is.root_is where
  by_root : (qs : List Placed) (es : List Element) → IsRootElement qs es → 0 < length es
  by_root qs es (IsRootElement.empty at) = omega arith
  by_root qs es (IsRootElement.nested q start content end) = omega arith

-- the elements of a tree that is whole
pub all_elements : (d e : List Element) → Some (all_read d) ≡ Some (all_read e) → d ≡ e
all_elements d e same = ap elements_in same
