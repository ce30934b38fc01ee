-- What pieces make of a tree is what their grammar says: first, each document grows to its elements.
use Rattle.std.proofs.Common.{◌≡◌, inl, inr, ℕ, suc, ◌+◌, Bool, true, cond, List, [], ◌∷◌, ◌++◌, length, Option, Some, None, refl, sym, ◌∙◌, ap, arith, append_assoc}
use Rattle.std.specs.Prelude.{option_and_then, bytes_eq}
use Rattle.std.specs.List.{AllByRecursion}
use Rattle.std.proofs.lemmas.List.{append-nil, length-append}
use Rattle.std.proofs.lemmas.Slice.Eq.{bytes_eq-Decides}
use Rattle.pssm_xml.specs.Pieces.{Piece, Start, Empty, End, Aside, Escaped, Plain}
use Rattle.pssm_xml.specs.Documents.{Placed, Element, IsContent, IsRootElement, IsOutside, IsDocument}
use Rattle.pssm_xml.specs.inner.Growth.{Frame, State, new_element, having_text, with_text, with_more_text, behind_piece, behind_pieces, nothing_yet, all_read}

-- ---- runs of pieces

pub pieces_then : (s : State) (ps qs : List Placed) → behind_pieces s (ps ++ qs) ≡ option_and_then (λ t. behind_pieces t qs) (behind_pieces s ps)
pieces_then s [] qs = refl
pieces_then s (p ∷ ps) qs = by_first (λ t. pieces_then t ps qs) (behind_piece s p.at p.piece) where
  by_first : ((t : State) → behind_pieces t (ps ++ qs) ≡ option_and_then (λ u. behind_pieces u qs) (behind_pieces t ps)) → (o : Option State)
      → option_and_then (λ t. behind_pieces t (ps ++ qs)) o ≡ option_and_then (λ t. behind_pieces t qs) (option_and_then (λ t. behind_pieces t ps) o)
  by_first more None = refl
  by_first more (Some t) = more t

-- behind pieces that lead to a state
pub pieces_from : (s t : State) (ps qs : List Placed) → behind_pieces s ps ≡ Some t → behind_pieces s (ps ++ qs) ≡ behind_pieces t qs
pieces_from s t ps qs e = pieces_then s ps qs ∙ ap (option_and_then (λ u. behind_pieces u qs)) e

-- one piece first
pub piece_first : (s t : State) (p : Placed) (piece : Piece) (ps : List Placed) → p.piece ≡ piece → behind_piece s p.at piece ≡ Some t → behind_pieces s (p ∷ ps) ≡ behind_pieces t ps
piece_first s t p piece ps is e =
    ap (λ x. option_and_then (λ u. behind_pieces u ps) (behind_piece s p.at x)) is ∙ ap (option_and_then (λ u. behind_pieces u ps)) e

-- ---- elements by number

pub text_at_end : (E : List Element) (e : Element) (rest : List Element) (text : List ℕ) → with_text (E ++ e ∷ rest) (length E) text ≡ E ++ having_text text e ∷ rest
text_at_end [] e rest text = refl
text_at_end (x ∷ E) e rest text = ap (λ es. x ∷ es) (text_at_end E e rest text)

same_bytes : (name : List ℕ) → bytes_eq name name ≡ true
same_bytes name = (bytes_eq-Decides name name).1 refl

-- ---- content

same_state : (f g : Frame) (fs : List Frame) (E F : List Element) → f ≡ g → E ≡ F
    → Some (record { frames = f ∷ fs; elements = E }) ≡ Some (let s : State = record { frames = g ∷ fs; elements = F } in s)
same_state f g fs E F is are = cc

in_frames : Frame → List Frame → List Element → State
in_frames f fs E = record { frames = f ∷ fs; elements = E }

text_twice : (f : Frame) (first text : List ℕ) → with_more_text text (with_more_text first f) ≡ with_more_text (first ++ text) f
text_twice f first text = let t : (f.text ++ first) ++ text ≡ f.text ++ (first ++ text) = append_assoc f.text first text in
    ap (λ (x : List ℕ). let g : Frame = record { number = f.number; name = f.name; text = x } in g) t

no_text : (f : Frame) → f ≡ with_more_text [] f
no_text f = ap (λ (x : List ℕ). let g : Frame = record { number = f.number; name = f.name; text = x } in g) (sym (append-nil f.text))

pub content_grows : {parent next : ℕ} {ps : List Placed} {text : List ℕ} {es : List Element} → IsContent parent next ps text es → (f : Frame) (fs : List Frame) (E : List Element)
    → f.number ≡ parent → length E ≡ next
    → behind_pieces (record { frames = f ∷ fs; elements = E }) ps ≡ Some (let s : State = record { frames = with_more_text text f ∷ fs; elements = E ++ es } in s)
content_grows IsContent.nothing f fs E number count = same_state f (with_more_text [] f) fs E (E ++ []) (no_text f) (sym (append-nil E))
content_grows (IsContent.aside {p = p} {ps = ps} is more) f fs E number count =
    let s : State = record { frames = f ∷ fs; elements = E } in
    piece_first s s p Aside ps is refl ∙ content_grows more f fs E number count
content_grows (IsContent.text {p = p} {ps = ps} first {text = text} {es = es} is more) f fs E number count =
    let s : State = record { frames = f ∷ fs; elements = E } in
    let t : State = record { frames = with_more_text first f ∷ fs; elements = E } in
    let one : behind_pieces s (p ∷ ps) ≡ behind_pieces t ps = elim is [ inl e ↦ piece_first s t p (Escaped first) ps e refl | inr e ↦ piece_first s t p (Plain first) ps e refl ] in
    one ∙ content_grows more (with_more_text first f) fs E number count
    ∙ same_state (with_more_text text (with_more_text first f)) (with_more_text (first ++ text) f) fs (E ++ es) (E ++ es) (text_twice f first text) refl
content_grows (IsContent.empty {parent = parent} {next = next} {p = p} {ps = ps} {name = name} {text = text} {attributes = attributes} {es = es} is more) f fs E number count =
    let e : Element = new_element p.at (Some parent) name attributes in
    let s : State = record { frames = f ∷ fs; elements = E } in
    let t : State = record { frames = f ∷ fs; elements = E ++ e ∷ [] } in
    let step : behind_piece s p.at (Empty name attributes) ≡ Some t =
    ap (λ (n : ℕ). let u : State = record { frames = f ∷ fs; elements = E ++ new_element p.at (Some n) name attributes ∷ [] } in Some u) number in
    let long : length (E ++ e ∷ []) ≡ suc next = omega (arith, length-append E (e ∷ []), count) in
    piece_first s t p (Empty name attributes) ps is step ∙ content_grows more f fs (E ++ e ∷ []) number long
    ∙ same_state (with_more_text text f) (with_more_text text f) fs ((E ++ e ∷ []) ++ es) (E ++ e ∷ es) refl (append_assoc E (e ∷ []) es)
content_grows (IsContent.nested {parent = parent} {next = next} {p = p} q {ps = ps} {inner = inner} {name = name} {text = text} {inner_text = inner_text} {attributes = attributes} {es = es} {inner_es = inner_es} start content end more) f fs E number count =
    let e : Element = new_element p.at (Some parent) name attributes in
    let g : Frame = record { number = length E; name = name; text = [] } in
    let s : State = record { frames = f ∷ fs; elements = E } in
    let t : State = record { frames = g ∷ f ∷ fs; elements = E ++ e ∷ [] } in
    let step : behind_piece s p.at (Start name attributes) ≡ Some t =
    ap (λ (n : ℕ). let u : State = record { frames = g ∷ f ∷ fs; elements = E ++ new_element p.at (Some n) name attributes ∷ [] } in Some u) number in
    let long : length (E ++ e ∷ []) ≡ suc next = omega (arith, length-append E (e ∷ []), count) in
    let u : State = record { frames = with_more_text inner_text g ∷ f ∷ fs; elements = (E ++ e ∷ []) ++ inner_es } in
    let v : State = record { frames = f ∷ fs; elements = E ++ having_text inner_text e ∷ inner_es } in
    let inside : behind_pieces t inner ≡ Some u = content_grows content g (f ∷ fs) (E ++ e ∷ []) count long in
    let joined : (E ++ e ∷ []) ++ inner_es ≡ E ++ e ∷ inner_es = append_assoc E (e ∷ []) inner_es in
    let closes : behind_piece u q.at (End name) ≡ Some v =
    ap (λ (b : Bool). cond b (let w : State = record { frames = f ∷ fs; elements = with_text ((E ++ e ∷ []) ++ inner_es) (length E) inner_text } in Some w) None) (same_bytes name)
    ∙ ap (λ (F : List Element). let w : State = record { frames = f ∷ fs; elements = F } in Some w) (ap (λ F. with_text F (length E) inner_text) joined ∙ text_at_end E e inner_es inner_text) in
    let longer : length (E ++ having_text inner_text e ∷ inner_es) ≡ suc next + length inner_es = omega (arith, length-append E (having_text inner_text e ∷ inner_es), count) in
    piece_first s t p (Start name attributes) (inner ++ q ∷ ps) start step
    ∙ pieces_from t u inner (q ∷ ps) inside
    ∙ piece_first u v q (End name) ps end closes
    ∙ content_grows more f fs (E ++ having_text inner_text e ∷ inner_es) number longer
    ∙ same_state (with_more_text text f) (with_more_text text f) fs ((E ++ having_text inner_text e ∷ inner_es) ++ es) (E ++ having_text inner_text e ∷ (inner_es ++ es)) refl
    (append_assoc E (having_text inner_text e ∷ inner_es) es)

-- ---- documents

outside_stays : (E : List Element) (p : Placed) → IsOutside p → behind_piece (all_read E) p.at p.piece ≡ Some (all_read E)
outside_stays E p (inl is) = ap (behind_piece (all_read E) p.at) is
outside_stays E p (inr (blank, is, blanks)) = ap (behind_piece (all_read E) p.at) is ∙ ap (λ (b : Bool). cond b (Some (all_read E)) None) blanks

pub outside_grows : (E : List Element) (ps : List Placed) → AllByRecursion IsOutside ps → behind_pieces (all_read E) ps ≡ Some (all_read E)
outside_grows E [] all = refl
outside_grows E (p ∷ ps) all = ap (option_and_then (λ t. behind_pieces t ps)) (outside_stays E p all.0) ∙ outside_grows E ps all.1

root_grows : (ps : List Placed) (es : List Element) → IsRootElement ps es → behind_pieces nothing_yet ps ≡ Some (all_read es)
root_grows ps es (IsRootElement.empty {p = p} {name = name} {attributes = attributes} is) =
    piece_first nothing_yet (all_read (new_element p.at None name attributes ∷ [])) p (Empty name attributes) [] is refl
root_grows ps es (IsRootElement.nested {p = p} q {inner = inner} {name = name} {text = text} {attributes = attributes} {es = inner_es} start content end) =
    let e : Element = new_element p.at None name attributes in
    let g : Frame = record { number = 0; name = name; text = [] } in
    let t : State = record { frames = g ∷ []; elements = e ∷ [] } in
    let u : State = record { frames = with_more_text text g ∷ []; elements = e ∷ inner_es } in
    let closes : behind_piece u q.at (End name) ≡ Some (all_read (having_text text e ∷ inner_es)) =
    ap (λ (b : Bool). cond b (Some (all_read (having_text text e ∷ inner_es))) None) (same_bytes name) in
    piece_first nothing_yet t p (Start name attributes) (inner ++ q ∷ []) start refl
    ∙ pieces_from t u inner (q ∷ []) (content_grows content g [] (e ∷ []) refl refl)
    ∙ piece_first u (all_read (having_text text e ∷ inner_es)) q (End name) [] end closes

pub document_grows : (ps : List Placed) (es : List Element) → IsDocument ps es → behind_pieces nothing_yet ps ≡ Some (all_read es)
document_grows ps es d =
    ap (behind_pieces nothing_yet) d.parts
    ∙ ap (behind_pieces nothing_yet) (append_assoc d.before d.root d.behind)
    ∙ pieces_from nothing_yet nothing_yet d.before (d.root ++ d.behind) (outside_grows [] d.before d.outside.0)
    ∙ pieces_from nothing_yet (all_read es) d.root d.behind (root_grows d.root es d.root_is)
    ∙ outside_grows es d.behind d.outside.1
