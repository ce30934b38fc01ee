-- A text is cut into pieces in one way, so it has one list of elements or one first fault.
use Rattle.std.proofs.Common.{◌≡◌, ◌≢◌, ◌≤◌, ◌⊎◌, inl, inr, ℕ, ◌+◌, List, [], ◌∷◌, ◌++◌, length, refl, sym, ◌∙◌, ap, subst, arith, append_assoc}
use Rattle.std.specs.Str.{IsUtf8}
use Rattle.std.proofs.lemmas.List.{append-nil, length-append, append_cancel_left}
use Rattle.std.proofs.lemmas.Bool.{cases_order}
use Rattle.pssm_xml.specs.declared.fault.TextFault.{TextFault}
use Rattle.pssm_xml.specs.declared.fault.TextFault.TheVariants as faults
use Rattle.pssm_xml.specs.Characters.{IsNoUtf8At}
use Rattle.pssm_xml.specs.Pieces.{Piece, IsPiece}
use Rattle.pssm_xml.specs.Documents.{Placed, IsCutInto, IsFileCut, byte_order_mark, Element, IsDocument, BeginDocument, BeginsElement, open_count}
use Rattle.pssm_xml.specs.TextFaults.{IsStuck, GoesWrong, IsDoctype, NestsTooDeep, HasTextFault, HasByteFault, HasElements}
use Rattle.pssm_xml.specs.Faults.{byte_of, IsTextFault}
use Rattle.pssm_xml.specs.inner.Growth.{behind_pieces, nothing_yet}
use Rattle.pssm_xml.proofs.PieceLaws.{some_bytes, one_piece}
use Rattle.pssm_xml.proofs.GrowthLaws.{document_grows}
use Rattle.pssm_xml.proofs.ShapeLaws.{all_elements}

-- ---- cuts

-- The cut goes on with these pieces to this rest.
pub record GoesOn (at : ℕ) (rest : List ℕ) (more : List Placed) (end : List ℕ) : Type 0 where
  pub cut : IsCutInto at rest more end

-- what one more piece in front does
cut_first : {at : ℕ} {bytes more rest : List ℕ} {piece : Piece} {pieces : List Placed} → IsPiece bytes piece → IsCutInto (at + length bytes) more pieces rest
    → IsCutInto at (bytes ++ more) (record { at = at; piece = piece } ∷ pieces) rest
cut_first p c = IsCutInto.piece p c

-- how far a cut comes
pub cut_length : {at : ℕ} {bytes rest : List ℕ} {pieces : List Placed} → IsCutInto at bytes pieces rest → length rest + length pieces ≤ length bytes
cut_length IsCutInto.nothing = omega arith
cut_length (IsCutInto.piece {bytes = bytes} {more = more} {rest = rest} {pieces = pieces} p c) =
    let longer = cut_length c in let some : 1 ≤ length bytes = some_bytes p.spelled in omega (arith, longer, some, length-append bytes more)

-- The first of two cuts ends where the second goes on.
pub record IsFront (pieces : List Placed) (rest : List ℕ) (others : List Placed) (end : List ℕ) : Type 0 where
  pub at : ℕ
  pub more : List Placed
  pub parts : others ≡ pieces ++ more
  pub cut : IsCutInto at rest more end

one_more : (p : Placed) (ps qs : List Placed) (r s : List ℕ) → IsFront ps r qs s → IsFront (p ∷ ps) r (p ∷ qs) s
one_more p ps qs r s f = record { at = f.at; more = f.more; parts = ap (λ t. p ∷ t) f.parts; cut = f.cut }

-- Of two cuts of a text one is a front of the other.
pub two_cuts : {at : ℕ} {bytes r : List ℕ} {ps : List Placed} → IsCutInto at bytes ps r → (other s : List ℕ) (qs : List Placed) → bytes ≡ other → IsCutInto at other qs s
    → IsFront ps r qs s ⊎ IsFront qs s ps r
two_cuts {at = at} (IsCutInto.nothing {rest = rest}) other s qs same d =
    inl (record { at = at; more = qs; parts = refl; cut = subst (λ (t : List ℕ). IsCutInto at t qs s) (sym same) d })
two_cuts {at = at} (IsCutInto.piece {bytes = b} {more = x} {rest = r} {piece = p} {pieces = ps} is c) other s qs same d = by_second d (λ y more e k. two_cuts c y s more e k) same where
  by_second : {o s : List ℕ} {qs : List Placed} → IsCutInto at o qs s
      → ((y : List ℕ) (more : List Placed) → x ≡ y → IsCutInto (at + length b) y more s → IsFront ps r more s ⊎ IsFront more s ps r)
      → b ++ x ≡ o → IsFront (record { at = at; piece = p } ∷ ps) r qs s ⊎ IsFront qs s (record { at = at; piece = p } ∷ ps) r
  by_second (IsCutInto.nothing {rest = rest}) later e =
      inr (record { at = at; more = record { at = at; piece = p } ∷ ps; parts = refl; cut = subst (λ (t : List ℕ). IsCutInto at t (record { at = at; piece = p } ∷ ps) r) e (IsCutInto.piece is c) })
  by_second (IsCutInto.piece {bytes = b2} {more = y} {rest = s2} {piece = q} {pieces = more} is2 d2) later e =
      let one = one_piece is.spelled is2.spelled e in
      let moved : IsCutInto (at + length b) y more s2 = subst (λ (t : List ℕ). IsCutInto (at + length t) y more s2) (sym one.1) d2 in
      let first : Placed = record { at = at; piece = p } in
      let heads : first ∷ more ≡ record { at = at; piece = q } ∷ more = ap (λ (k : Piece). let z : Placed = record { at = at; piece = k } in z ∷ more) one.0 in
      elim (later y more one.2 moved) [
        | inl f ↦ inl (subst (λ (t : List Placed). IsFront (first ∷ ps) r t s2) heads (one_more first ps more r s2 f))
        | inr f ↦ inr (subst (λ (t : List Placed). IsFront t s2 (first ∷ ps) r) heads (one_more first more ps s2 r f))
      ]

-- The same of cuts of a file.
pub two_file_cuts : (bytes r s : List ℕ) (ps qs : List Placed) → IsFileCut bytes ps r → IsFileCut bytes qs s → IsFront ps r qs s ⊎ IsFront qs s ps r
two_file_cuts bytes r s ps qs (IsFileCut.with_order_mark text mark c) (IsFileCut.with_order_mark other mark2 d) =
    two_cuts c other s qs (append_cancel_left byte_order_mark text other (sym mark ∙ mark2)) d
two_file_cuts bytes r s ps qs (IsFileCut.with_order_mark text mark c) (IsFileCut.bare none d) = absurd (none text mark)
two_file_cuts bytes r s ps qs (IsFileCut.bare none c) (IsFileCut.with_order_mark text mark d) = absurd (none text mark)
two_file_cuts bytes r s ps qs (IsFileCut.bare none c) (IsFileCut.bare none2 d) = two_cuts c bytes s qs refl d

-- how far a cut of a file comes
pub file_cut_length : (bytes rest : List ℕ) (pieces : List Placed) → IsFileCut bytes pieces rest → length rest + length pieces ≤ length bytes
file_cut_length bytes rest pieces (IsFileCut.with_order_mark text mark c) = let l = cut_length c in let m : length bytes ≡ length (byte_order_mark ++ text) = ap length mark in omega (arith, l, m)
file_cut_length bytes rest pieces (IsFileCut.bare none c) = cut_length c

-- ---- where a piece stands

-- the piece with which a cut goes on
pub record HasNext (rest : List ℕ) (p : Placed) : Type 0 where
  pub bytes : List ℕ
  pub behind : List ℕ
  pub parts : rest ≡ bytes ++ behind
  pub piece : IsPiece bytes p.piece

next_in : {at : ℕ} {rest end : List ℕ} {qs : List Placed} → IsCutInto at rest qs end → (p : Placed) (more : List Placed) → qs ≡ p ∷ more → HasNext rest p
next_in IsCutInto.nothing p more e = absurd cc
next_in (IsCutInto.piece {at = at} {bytes = b} {more = x} {piece = piece} is d) p more e =
    let first : (let z : Placed = record { at = at; piece = piece } in z) ≡ p = cc in
    record { bytes = b; behind = x; parts = refl; piece = subst (λ (z : Placed). IsPiece b z.piece) first is }

pub next_of : {at : ℕ} {rest end : List ℕ} (p : Placed) (more : List Placed) → IsCutInto at rest (p ∷ more) end → HasNext rest p
next_of p more c = next_in c p more refl

-- A front of what begins a document begins one.
pub front_begins : (pieces more : List Placed) → BeginDocument (pieces ++ more) → BeginDocument pieces
front_begins pieces more b = (more ++ b.0, b.1, subst (λ (t : List Placed). IsDocument t b.1) (append_assoc pieces more b.0) b.2)

-- Behind pieces that are stuck no piece goes on a document.
pub stuck_no_more : (pieces : List Placed) (rest : List ℕ) (p : Placed) → IsStuck pieces rest → HasNext rest p → BeginDocument (pieces ++ p ∷ []) → ⊥
stuck_no_more pieces rest p (IsStuck.ended none hasnt) next begins =
    let some : 1 ≤ length next.bytes = some_bytes next.piece.spelled in
    let empty : 0 ≡ length (next.bytes ++ next.behind) = ap length (sym none ∙ next.parts) in
    absurd (omega (arith, some, empty, length-append next.bytes next.behind))
stuck_no_more pieces rest p (IsStuck.no_piece some none) next begins = none next.bytes next.behind p.piece next.parts next.piece
stuck_no_more pieces rest p (IsStuck.wrong_piece wrong) next begins =
    let same = one_piece next.piece.spelled wrong.4.spelled (sym next.parts ∙ wrong.3) in
    let placed : p ≡ (let z : Placed = record { at = p.at; piece = wrong.2 } in z) = ap (λ (k : Piece). let z : Placed = record { at = p.at; piece = k } in z) same.0 in
    wrong.5 p.at (subst (λ (z : Placed). BeginDocument (pieces ++ z ∷ [])) placed begins)

-- the same of longer pieces that begin a document
pub stuck_whole : (pieces more : List Placed) (at : ℕ) (rest end : List ℕ) → IsStuck pieces rest → IsCutInto at rest more end → BeginDocument (pieces ++ more) → more ≡ []
stuck_whole pieces [] at rest end stuck cut begins = refl
stuck_whole pieces (p ∷ more) at rest end stuck cut begins =
    let all : BeginDocument ((pieces ++ p ∷ []) ++ more) = subst BeginDocument (sym (append_assoc pieces (p ∷ []) more)) begins in
    absurd (stuck_no_more pieces rest p stuck (next_of p more cut) (front_begins (pieces ++ p ∷ []) more all))

-- The whole of a cut that goes no further.
none_in : {at : ℕ} {rest end : List ℕ} {qs : List Placed} → IsCutInto at rest qs end → qs ≡ [] → rest ≡ end
none_in IsCutInto.nothing e = refl
none_in (IsCutInto.piece is d) e = absurd cc

pub no_more_cut : (at : ℕ) (rest end : List ℕ) → IsCutInto at rest [] end → rest ≡ end
no_more_cut at rest end c = none_in c refl

-- ---- places of pieces

-- A cut of joined pieces is two cuts, one behind the other.
pub record AreTwoCuts (at : ℕ) (bytes : List ℕ) (ps qs : List Placed) (rest : List ℕ) : Type 0 where
  pub between : List ℕ
  pub place : ℕ
  pub first : IsCutInto at bytes ps between
  pub second : IsCutInto place between qs rest
  pub counted : place + length between ≡ at + length bytes

split_in : {at : ℕ} {bytes rest : List ℕ} {all : List Placed} → IsCutInto at bytes all rest → (ps qs : List Placed) → all ≡ ps ++ qs → AreTwoCuts at bytes ps qs rest
split_in {at = at} {rest = rest} IsCutInto.nothing [] qs e =
    record { between = rest; place = at; first = IsCutInto.nothing; second = subst (λ (t : List Placed). IsCutInto at rest t rest) e IsCutInto.nothing; counted = refl }
split_in IsCutInto.nothing (p ∷ ps) qs e = absurd cc
split_in (IsCutInto.piece {at = at} {bytes = b} {more = x} {rest = rest} {piece = piece} {pieces = pieces} is c) [] qs e =
    record {
      between = b ++ x;
      place = at;
      first = IsCutInto.nothing;
      second = subst (λ (t : List Placed). IsCutInto at (b ++ x) t rest) e (IsCutInto.piece is c);
      counted = refl;
    }
split_in (IsCutInto.piece {at = at} {bytes = b} {more = x} {rest = rest} {piece = piece} {pieces = pieces} is c) (p ∷ ps) qs e =
    let first : (let z : Placed = record { at = at; piece = piece } in z) ≡ p = cc in
    let tail : pieces ≡ ps ++ qs = cc in
    let later = split_in c ps qs tail in
    record {
      between = later.between;
      place = later.place;
      first = subst (λ (z : Placed). IsCutInto at (b ++ x) (z ∷ ps) later.between) first (IsCutInto.piece is later.first);
      second = later.second;
      counted = let l = later.counted in omega (arith, l, length-append b x);
    }

-- The same of the cut of a file, in which the place is the byte.
pub record AreTwoFileCuts (bytes : List ℕ) (ps qs : List Placed) (rest : List ℕ) : Type 0 where
  pub between : List ℕ
  pub place : ℕ
  pub first : IsFileCut bytes ps between
  pub second : IsCutInto place between qs rest
  pub counted : place + length between ≡ length bytes

pub split_file : (bytes : List ℕ) (ps qs : List Placed) (rest : List ℕ) → IsFileCut bytes (ps ++ qs) rest → AreTwoFileCuts bytes ps qs rest
split_file bytes ps qs rest (IsFileCut.with_order_mark text mark c) =
    let two = split_in c ps qs refl in
    let long : length bytes ≡ length (byte_order_mark ++ text) = ap length mark in
    record { between = two.between; place = two.place; first = IsFileCut.with_order_mark text mark two.first; second = two.second; counted = let l = two.counted in omega (arith, l, long) }
split_file bytes ps qs rest (IsFileCut.bare none c) =
    let two = split_in c ps qs refl in
    record { between = two.between; place = two.place; first = IsFileCut.bare none two.first; second = two.second; counted = let l = two.counted in omega (arith, l) }

place_in : {place : ℕ} {rest end : List ℕ} {qs : List Placed} → IsCutInto place rest qs end → (p : Placed) (more : List Placed) → qs ≡ p ∷ more → place ≡ p.at
place_in IsCutInto.nothing p more e = absurd cc
place_in (IsCutInto.piece {at = at} {piece = piece} is d) p more e =
    let first : (let z : Placed = record { at = at; piece = piece } in z) ≡ p = cc in ap (λ (z : Placed). z.at) first

-- a tag that is too deep: what stands before it, and that it stands there
pub record HasDeepTag (bytes : List ℕ) (at : ℕ) : Type 0 where
  pub before : List Placed
  pub tag : Placed
  pub between : List ℕ
  pub cut : IsFileCut bytes before between
  pub next : HasNext between tag
  pub counted : at + length between ≡ length bytes
  pub begins : BeginDocument (before ++ tag ∷ [])
  pub element : BeginsElement tag.piece
  pub deep : 128 ≤ open_count before

pub deep_tag : (bytes : List ℕ) (at : ℕ) → NestsTooDeep bytes at → HasDeepTag bytes at
deep_tag bytes at deep =
    let p : Placed = record { at = at; piece = deep.tag } in
    let two = split_file bytes deep.before (p ∷ []) deep.rest deep.cut in
    let place : two.place ≡ at = place_in two.second p [] refl in
    record {
      before = deep.before;
      tag = p;
      between = two.between;
      cut = two.first;
      next = next_of p [] two.second;
      counted = let c = two.counted in omega (arith, c, place);
      begins = deep.begins;
      element = deep.element;
      deep = deep.deep;
    }

-- ---- one list of elements

empty : (xs : List Placed) → length xs ≡ 0 → xs ≡ []
empty [] e = refl
empty (x ∷ xs) e = absurd (omega arith)

pub one_list : (bytes : List ℕ) (d e : List Element) → HasElements bytes d → HasElements bytes e → d ≡ e
one_list bytes d e a b = elim (two_file_cuts bytes [] [] a.pieces b.pieces a.cut b.cut) as (λ _. d ≡ e) [
  | inl f ↦ by_front a.pieces b.pieces d e a.document b.document f
  | inr f ↦ sym (by_front b.pieces a.pieces e d b.document a.document f)
] where
  by_front : (ps qs : List Placed) (x y : List Element) → IsDocument ps x → IsDocument qs y → IsFront ps [] qs [] → x ≡ y
  by_front ps qs x y one two f =
      let long = cut_length f.cut in
      let none : length f.more ≡ 0 = omega (arith, long) in
      let same : qs ≡ ps = f.parts ∙ ap (λ t. ps ++ t) (empty f.more none) ∙ append-nil ps in
      all_elements x y (sym (document_grows ps x one) ∙ ap (behind_pieces nothing_yet) (sym same) ∙ document_grows qs y two)

-- ---- one fault

-- A text that is UTF-8 has no byte that belongs to no character.
pub utf8_no_byte : (bytes : List ℕ) (at : ℕ) → IsUtf8 bytes → IsNoUtf8At bytes at → ⊥
utf8_no_byte bytes at utf8 none =
    let whole : length bytes ≤ length none.front = none.last bytes [] (sym (append-nil bytes)) utf8 in
    by_rest none.rest none.some (ap length none.parts ∙ length-append none.front none.rest) whole where
      by_rest : (rest : List ℕ) → rest ≢ [] → length bytes ≡ length none.front + length rest → length bytes ≤ length none.front → ⊥
      by_rest [] some l whole = some refl
      by_rest (c ∷ rest) some l whole = omega arith

-- There is one byte at which it is none.
pub one_byte : (bytes : List ℕ) (at other : ℕ) → IsNoUtf8At bytes at → IsNoUtf8At bytes other → at ≡ other
one_byte bytes at other a b =
    let one : length b.front ≤ length a.front = a.last b.front b.rest b.parts b.utf8 in
    let two : length a.front ≤ length b.front = b.last a.front a.rest a.parts a.utf8 in
    let i = a.counted in let j = b.counted in omega (arith, one, two, i, j)

-- A text goes wrong at one place.
pub record IsOnePlace (ps qs : List Placed) (r s : List ℕ) (at other : ℕ) : Type 0 where
  pub pieces : ps ≡ qs
  pub rest : r ≡ s
  pub place : at ≡ other

pub one_place : (bytes : List ℕ) (at other : ℕ) (ps qs : List Placed) (r s : List ℕ) → GoesWrong bytes at ps r → GoesWrong bytes other qs s → IsOnePlace ps qs r s at other
one_place bytes at other ps qs r s a b = elim (two_file_cuts bytes r s ps qs a.cut b.cut) as (λ _. IsOnePlace ps qs r s at other) [
  | inl f ↦ by_front ps qs r s at other a b f
  | inr f ↦ let o = by_front qs ps s r other at b a f in record { pieces = sym o.pieces; rest = sym o.rest; place = sym o.place }
] where
  by_front : (ps qs : List Placed) (r s : List ℕ) (at other : ℕ) → GoesWrong bytes at ps r → GoesWrong bytes other qs s → IsFront ps r qs s → IsOnePlace ps qs r s at other
  by_front ps qs r s at other a b f =
      let begins : BeginDocument (ps ++ f.more) = subst BeginDocument f.parts b.begins in
      let none : f.more ≡ [] = stuck_whole ps f.more f.at r s a.stuck f.cut begins in
      let same : ps ≡ qs = sym (f.parts ∙ ap (λ t. ps ++ t) none ∙ append-nil ps) in
      let rest : r ≡ s = no_more_cut f.at r s (subst (λ (t : List Placed). IsCutInto f.at r t s) none f.cut) in
      let i = a.counted in let j = b.counted in
      record { pieces = same; rest = rest; place = let l : length r ≡ length s = ap length rest in omega (arith, i, j, l) }

-- No tag stands too deep where a text goes wrong.
pub not_there : (bytes : List ℕ) (at : ℕ) (ps : List Placed) (r : List ℕ) → GoesWrong bytes at ps r → NestsTooDeep bytes at → ⊥
not_there bytes at ps r wrong deep = let t = deep_tag bytes at deep in
    let i = wrong.counted in let j = t.counted in
    elim (two_file_cuts bytes r t.between ps t.before wrong.cut t.cut) as (λ _. ⊥) [
      | inl f ↦
          let long = cut_length f.cut in
          let none : f.more ≡ [] = empty f.more (omega (arith, long, i, j)) in
          let rest : r ≡ t.between = no_more_cut f.at r t.between (subst (λ (x : List Placed). IsCutInto f.at r x t.between) none f.cut) in
          let same : t.before ≡ ps = f.parts ∙ ap (λ x. ps ++ x) none ∙ append-nil ps in
          at_place ps r t.tag wrong.stuck (subst (λ (x : List ℕ). HasNext x t.tag) (sym rest) t.next) (subst (λ (x : List Placed). BeginDocument (x ++ t.tag ∷ [])) same t.begins)
      | inr f ↦
          let long = cut_length f.cut in
          let none : f.more ≡ [] = empty f.more (omega (arith, long, i, j)) in
          let rest : t.between ≡ r = no_more_cut f.at t.between r (subst (λ (x : List Placed). IsCutInto f.at t.between x r) none f.cut) in
          let same : ps ≡ t.before = f.parts ∙ ap (λ x. t.before ++ x) none ∙ append-nil t.before in
          at_place ps r t.tag wrong.stuck (subst (λ (x : List ℕ). HasNext x t.tag) rest t.next) (subst (λ (x : List Placed). BeginDocument (x ++ t.tag ∷ [])) (sym same) t.begins)
    ] where
      at_place : (ps : List Placed) (r : List ℕ) (p : Placed) → IsStuck ps r → HasNext r p → BeginDocument (ps ++ p ∷ []) → ⊥
      at_place ps r p stuck next begins = stuck_no_more ps r p stuck next begins

-- Two faults of a text at one byte are one.
pub one_at_byte : (bytes : List ℕ) (f g : TextFault) → HasTextFault bytes f → HasTextFault bytes g → byte_of f ≡ byte_of g → f ≡ g
one_at_byte bytes f g (HasTextFault.malformed {at = at} {pieces = ps} {rest = r} wrong none) (HasTextFault.malformed {at = other} wrong2 none2) same = ap faults.Malformed same
one_at_byte bytes f g (HasTextFault.malformed {at = at} {pieces = ps} {rest = r} wrong none) (HasTextFault.doctype {at = other} {pieces = qs} {rest = s} wrong2 doctype) same =
    let o = one_place bytes at other ps qs r s wrong wrong2 in
    absurd (none (subst (λ (x : List ℕ). IsDoctype ps x) (sym o.rest) (subst (λ (x : List Placed). IsDoctype x s) (sym o.pieces) doctype)))
one_at_byte bytes f g (HasTextFault.malformed {at = at} {pieces = ps} {rest = r} wrong none) (HasTextFault.too_deep {at = other} deep) same =
    absurd (not_there bytes at ps r wrong (subst (λ (n : ℕ). NestsTooDeep bytes n) (sym same) deep))
one_at_byte bytes f g (HasTextFault.doctype {at = at} {pieces = ps} {rest = r} wrong doctype) (HasTextFault.malformed {at = other} {pieces = qs} {rest = s} wrong2 none) same =
    let o = one_place bytes at other ps qs r s wrong wrong2 in
    absurd (none (subst (λ (x : List ℕ). IsDoctype qs x) o.rest (subst (λ (x : List Placed). IsDoctype x r) o.pieces doctype)))
one_at_byte bytes f g (HasTextFault.doctype {at = at} wrong doctype) (HasTextFault.doctype {at = other} wrong2 doctype2) same = ap faults.Doctype same
one_at_byte bytes f g (HasTextFault.doctype {at = at} {pieces = ps} {rest = r} wrong doctype) (HasTextFault.too_deep {at = other} deep) same =
    absurd (not_there bytes at ps r wrong (subst (λ (n : ℕ). NestsTooDeep bytes n) (sym same) deep))
one_at_byte bytes f g (HasTextFault.too_deep {at = at} deep) (HasTextFault.malformed {at = other} {pieces = qs} {rest = s} wrong none) same =
    absurd (not_there bytes other qs s wrong (subst (λ (n : ℕ). NestsTooDeep bytes n) same deep))
one_at_byte bytes f g (HasTextFault.too_deep {at = at} deep) (HasTextFault.doctype {at = other} {pieces = qs} {rest = s} wrong doctype) same =
    absurd (not_there bytes other qs s wrong (subst (λ (n : ℕ). NestsTooDeep bytes n) same deep))
one_at_byte bytes f g (HasTextFault.too_deep {at = at} deep) (HasTextFault.too_deep {at = other} deep2) same = ap faults.TooDeep same

byte_fault_alone : (bytes : List ℕ) (f : TextFault) → IsUtf8 bytes → HasByteFault bytes f → ⊥
byte_fault_alone bytes f utf8 (HasByteFault.not_utf8 {at = at} none) = utf8_no_byte bytes at utf8 none

same_byte_fault : (bytes : List ℕ) (f g : TextFault) → HasByteFault bytes f → HasByteFault bytes g → f ≡ g
same_byte_fault bytes f g (HasByteFault.not_utf8 {at = at} a) (HasByteFault.not_utf8 {at = other} b) = ap faults.NotUtf8 (one_byte bytes at other a b)

-- A text has one fault that is told of it.
pub one_fault : (bytes : List ℕ) (f g : TextFault) → IsTextFault bytes f → IsTextFault bytes g → f ≡ g
one_fault bytes f g (IsTextFault.no_text a) (IsTextFault.no_text b) = same_byte_fault bytes f g a.has b.has
one_fault bytes f g (IsTextFault.no_text a) (IsTextFault.text utf8 b) = absurd (byte_fault_alone bytes f utf8 a.has)
one_fault bytes f g (IsTextFault.text utf8 a) (IsTextFault.no_text b) = absurd (byte_fault_alone bytes g utf8 b.has)
one_fault bytes f g (IsTextFault.text utf8 a) (IsTextFault.text utf8_too b) = elim (cases_order (byte_of f) (byte_of g)) as (λ _. f ≡ g) [
  | inl same ↦ one_at_byte bytes f g a.has b.has same
  | inr apart ↦ elim apart as (λ _. f ≡ g) [ inl less ↦ absurd (b.first f a.has less) | inr more ↦ absurd (a.first g b.has more) ]
]

-- A text with elements goes wrong nowhere.
pub never_wrong : (bytes : List ℕ) (d : List Element) (at : ℕ) (ps : List Placed) (r : List ℕ) → HasElements bytes d → GoesWrong bytes at ps r → ⊥
never_wrong bytes d at ps r has wrong = elim (two_file_cuts bytes [] r has.pieces ps has.cut wrong.cut) as (λ _. ⊥) [
  | inl f ↦
      let long = cut_length f.cut in
      let none : f.more ≡ [] = empty f.more (omega (arith, long)) in
      let rest : [] ≡ r = no_more_cut f.at [] r (subst (λ (x : List Placed). IsCutInto f.at [] x r) none f.cut) in
      at_end ps r wrong.stuck (sym rest) (subst (λ (x : List Placed). IsDocument x d) (sym (f.parts ∙ ap (λ x. has.pieces ++ x) none ∙ append-nil has.pieces)) has.document)
  | inr f ↦
      let begins : BeginDocument (ps ++ f.more) = ([], d, subst (λ (x : List Placed). IsDocument x d) (f.parts ∙ sym (append-nil (ps ++ f.more))) has.document) in
      let none : f.more ≡ [] = stuck_whole ps f.more f.at r [] wrong.stuck f.cut begins in
      let rest : r ≡ [] = no_more_cut f.at r [] (subst (λ (x : List Placed). IsCutInto f.at r x []) none f.cut) in
      at_end ps r wrong.stuck rest (subst (λ (x : List Placed). IsDocument x d) (f.parts ∙ ap (λ x. ps ++ x) none ∙ append-nil ps) has.document)
] where
  at_end : (ps : List Placed) (r : List ℕ) → IsStuck ps r → r ≡ [] → IsDocument ps d → ⊥
  at_end ps r (IsStuck.ended none hasnt) end whole = hasnt d whole
  at_end ps r (IsStuck.no_piece some none) end whole = some end
  at_end ps r (IsStuck.wrong_piece wrong) end whole =
      let some : 1 ≤ length wrong.0 = some_bytes wrong.4.spelled in
      let nothing : 0 ≡ length (wrong.0 ++ wrong.1) = ap length (sym end ∙ wrong.3) in
      omega (arith, some, nothing, length-append wrong.0 wrong.1)

-- A text has elements or a fault, and not both.
pub not_both : (bytes : List ℕ) (d : List Element) (f : TextFault) → HasElements bytes d → IsTextFault bytes f → ⊥
not_both bytes d f has (IsTextFault.no_text a) = byte_fault_alone bytes f has.utf8 a.has
not_both bytes d f has (IsTextFault.text utf8 a) = by_kind f a.has where
  by_kind : (g : TextFault) → HasTextFault bytes g → ⊥
  by_kind g (HasTextFault.malformed {at = at} {pieces = ps} {rest = r} wrong none) = never_wrong bytes d at ps r has wrong
  by_kind g (HasTextFault.doctype {at = at} {pieces = ps} {rest = r} wrong doctype) = never_wrong bytes d at ps r has wrong
  by_kind g (HasTextFault.too_deep {at = at} deep) = has.shallow at deep
