-- A text has elements or a fault.
use Rattle.std.proofs.Common.{◌≡◌, ◌<◌, ◌≤◌, inl, inr, ℕ, zero, suc, ◌+◌, ◌-◌, Bool, true, false, List, [], ◌++◌, length, drop, Option, Some, None, refl, sym, ◌∙◌, ap, subst, arith}
use Rattle.std.specs.Str.{IsUtf8}
use Rattle.std.proofs.lemmas.List.{append-nil, length-append}
use Rattle.std.proofs.lemmas.Bool.{cases_lt}
use Rattle.std.proofs.lemmas.Str.{IsUtf8-nil}
use Rattle.pssm_spelling.specs.SpellingReading.{stripped}
use Rattle.pssm_xml.specs.declared.fault.TextFault.{TextFault}
use Rattle.pssm_xml.specs.declared.fault.TextFault.TheVariants as faults
use Rattle.pssm_xml.specs.Characters.{IsNoUtf8At}
use Rattle.pssm_xml.specs.Pieces.{Piece}
use Rattle.pssm_xml.specs.Documents.{Element, BeginsElement, byte_order_mark}
use Rattle.pssm_xml.specs.TextFaults.{HasByteFault, HasElements}
use Rattle.pssm_xml.specs.Faults.{byte_of, IsTextFault}
use Rattle.pssm_xml.specs.inner.Reading.{piece_taken}
use Rattle.pssm_xml.specs.inner.Growth.{State, behind_piece, nothing_yet}
use Rattle.pssm_xml.specs.inner.Reads.{IsGoodText, IsBefore, HasEnd, StopsAt, ends_whole, ends_doctype}
use Rattle.pssm_xml.proofs.CutLaws.{one_byte}
use Rattle.pssm_xml.proofs.GoodLaws.{good_text}
use Rattle.pssm_xml.proofs.DocumentLaws.{before_bare, before_marked, before_turn, before_stop, before_end, taken_shorter, whole_by_test, doctype_by_test, malformed_by_tests}
use Rattle.pssm_xml.proofs.SomeFirst.{IsLeast, some_first}

-- ---- bytes that are no UTF-8

-- a front of the bytes that is UTF-8, and what follows it
record IsFront (bytes front : List ℕ) : Type 0 where
  pub rest : List ℕ
  pub parts : bytes ≡ front ++ rest
  pub utf8 : IsUtf8 front

first_byte : (bytes : List ℕ) (at : ℕ) → IsNoUtf8At bytes at → (other : TextFault) → HasByteFault bytes other → byte_of other < at → ⊥
first_byte bytes at none other (HasByteFault.not_utf8 {at = to} also) less = let same : to ≡ at = one_byte bytes to at also none in omega (arith, same, less)

module _ (bytes : List ℕ) (not_utf8 : IsUtf8 bytes → ⊥) (none_told : (fault : TextFault) → IsTextFault bytes fault → ⊥) where
  told : (at : ℕ) → IsNoUtf8At bytes at → ⊥
  told at none = none_told (faults.NotUtf8 at) (IsTextFault.no_text (record { has = HasByteFault.not_utf8 none; first = first_byte bytes at none }))

  -- The longest front is followed by the byte that belongs to no character.
  longest : (front : List ℕ) → IsFront bytes front
      → IsLeast (List ℕ) (IsFront bytes) (λ (x : List ℕ). length bytes - length x) (λ (x : List ℕ). 0) front → ⊥
  longest front is least = told (length front) (record {
    front = front;
    rest = is.rest;
    parts = is.parts;
    counted = refl;
    utf8 = is.utf8;
    some = λ none. not_utf8 (subst IsUtf8 (sym (is.parts ∙ ap (λ r. front ++ r) none ∙ append-nil front)) is.utf8);
    last = λ longer more parts utf8. not_longer longer more parts utf8;
  }) where
    not_longer : (longer more : List ℕ) → bytes ≡ longer ++ more → IsUtf8 longer → length longer ≤ length front
    not_longer longer more parts utf8 = elim (cases_lt (length front) (length longer)) as (λ _. length longer ≤ length front) [
      | inr few ↦ few
      | inl many ↦
          let size : length bytes ≡ length longer + length more = ap length parts ∙ length-append longer more in
          absurd (least longer (record { rest = more; parts = parts; utf8 = utf8 }) (inl (omega (arith, many, size))))
    ]

  -- A longest front stands there: with the least number of bytes behind it.
  byte_told : ⊥
  byte_told = some_first (List ℕ) (IsFront bytes) (λ (x : List ℕ). length bytes - length x) (λ (x : List ℕ). 0) longest
      [] (record { rest = bytes; parts = refl; utf8 = IsUtf8-nil })

-- ---- a text that is UTF-8

-- a place from which so many bytes are left
place_of : (at rest more : ℕ) → more < rest → (place : ℕ) × (place + more ≡ at + rest)
place_of at rest more less = (at + (rest - more), omega (arith, less))

module _ (bytes text bad : List ℕ) (utf8 : IsUtf8 bytes)
    (none_read : (elements : List Element) → HasElements bytes elements → ⊥) (none_told : (fault : TextFault) → IsTextFault bytes fault → ⊥) where
  -- where no piece begins
  at_end : (at : ℕ) (s : State) → HasEnd bytes at s → ⊥
  at_end at s end = by_whole (ends_whole (drop at bytes) s.elements s.frames) refl where
    by_doctype : ends_whole (drop at bytes) s.elements s.frames ≡ false → (b : Bool) → ends_doctype (drop at bytes) s.elements ≡ b → ⊥
    by_doctype unfinished true e = none_told (faults.Doctype at) (doctype_by_test bytes (drop at bytes) at s utf8 end refl e)
    by_doctype unfinished false e = none_told (faults.Malformed at) (malformed_by_tests bytes (drop at bytes) at s utf8 end refl unfinished e)

    by_whole : (b : Bool) → ends_whole (drop at bytes) s.elements s.frames ≡ b → ⊥
    by_whole true e = none_read s.elements (whole_by_test bytes (drop at bytes) at s utf8 end refl e)
    by_whole false e = by_doctype e (ends_doctype (drop at bytes) s.elements) refl

  -- where a piece begins: it stops the reader, or the reader goes on behind it
  at_piece : (rest more : List ℕ) (at : ℕ) (s : State) (piece : Piece) → IsBefore bytes text bad rest at s → Some (piece, more) ≡ piece_taken rest
      → ((place : ℕ) (t : State) → IsBefore bytes text bad more place t → ⊥) → ⊥
  at_piece rest more at s piece before found later = by_step (behind_piece s at piece) refl where
    turned : (t : State) → behind_piece s at piece ≡ Some t → (BeginsElement piece → length s.frames < 128) → ⊥
    turned t step shallow =
        let place = place_of at (length rest) (length more) (taken_shorter bytes text bad rest more at s piece before found) in
        later place.0 t (before_turn bytes text bad rest more at place.0 s t piece before found (record { step = step; shallow = shallow }) place.1)

    by_step : (o : Option State) → behind_piece s at piece ≡ o → ⊥
    by_step None none = none_told (faults.Malformed at) (before_stop bytes text bad rest more at s piece (faults.Malformed at) utf8 before found (StopsAt.wrong none))
    by_step (Some t) step = turned t step (λ begins. elim (cases_lt (length s.frames) 128) as (λ _. length s.frames < 128) [
      | inl low ↦ low
      | inr deep ↦ absurd (none_told (faults.TooDeep at) (before_stop bytes text bad rest more at s piece (faults.TooDeep at) utf8 before found (StopsAt.too_deep begins deep)))
    ])

  -- by whether a piece begins there
  by_piece : (rest : List ℕ) (at : ℕ) (s : State) → IsBefore bytes text bad rest at s → (o : Option (Piece × List ℕ)) → o ≡ piece_taken rest
      → ((more : List ℕ) (place : ℕ) (t : State) → length more < length rest → IsBefore bytes text bad more place t → ⊥) → ⊥
  by_piece rest at s before None none later = at_end at s (before_end bytes text bad rest at s before none)
  by_piece rest at s before (Some (piece, more)) found later =
      at_piece rest more at s piece before found
      (λ place t behind. later more place t (taken_shorter bytes text bad rest more at s piece before found) behind)

  -- piece by piece, as long as bytes are left
  walk : (n : ℕ) (rest : List ℕ) (at : ℕ) (s : State) → length rest < n → IsBefore bytes text bad rest at s → ⊥
  walk zero rest at s few before = absurd (omega (arith, few))
  walk (suc n) rest at s few before =
      by_piece rest at s before (piece_taken rest) refl (λ more place t less behind. walk n more place t (omega (arith, few, less)) behind)

  text_read : IsGoodText bytes text bad → ⊥
  text_read good = by_mark (stripped byte_order_mark text) refl where
    by_mark : (o : Option (List ℕ)) → stripped byte_order_mark text ≡ o → ⊥
    by_mark None none = walk (suc (length text)) text 0 nothing_yet (omega arith) (before_bare bytes text bad good none)
    by_mark (Some rest) found = walk (suc (length rest)) rest 3 nothing_yet (omega arith) (before_marked bytes text bad rest good found)

-- It cannot be that a text has neither elements nor a fault.
pub some_text : (bytes : List ℕ) → ((elements : List Element) → HasElements bytes elements → ⊥) → ((fault : TextFault) → IsTextFault bytes fault → ⊥) → ⊥
some_text bytes none_read none_told =
    byte_told bytes (λ utf8. text_read bytes _ _ utf8 none_read none_told (good_text bytes utf8)) none_told
