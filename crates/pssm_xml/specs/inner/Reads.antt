-- What is known of a text that was read up to a byte.
use Rattle.std.specs.Prelude.{◌≡◌, ◌<◌, ◌≤◌, ◌+◌, ℕ, List, ◌∷◌, ◌++◌, length, Some, None, Bool, ◌&&◌, ◌==◌, nat_lt, MatchOption, is_some, codes}
use Rattle.pssm_spelling.specs.SpellingReading.{stripped}
use Rattle.pssm_xml.specs.Documents.{Placed, IsFileCut, Element, byte_order_mark, BeginsElement, open_count}
use Rattle.pssm_xml.specs.Characters.{AreCharacters}
use Rattle.pssm_xml.specs.Pieces.{Piece}
use Rattle.pssm_xml.specs.TextFaults.{BeginsNoPiece}
use Rattle.pssm_xml.specs.declared.fault.TextFault.{TextFault}
use Rattle.pssm_xml.specs.declared.fault.TextFault.TheVariants as faults
use Rattle.pssm_xml.specs.inner.Growth.{Frame, State, behind_piece, behind_pieces, nothing_yet}

-- The pieces before this byte make this tree, and none of their tags is too deep; the rest follows.
pub record IsRead (bytes rest : List ℕ) (at : ℕ) (s : State) : Type 0 where
  pub pieces : List Placed
  pub cut : IsFileCut bytes pieces rest
  pub counted : at + length rest ≡ length bytes
  pub grown : behind_pieces nothing_yet pieces ≡ Some s
  pub shallow : (before : List Placed) (p : Placed) (after : List Placed) → pieces ≡ before ++ p ∷ after → BeginsElement p.piece → open_count before < 128
  pub few : length s.elements ≤ at

-- The text is the longest front of the bytes whose characters XML has.
pub record IsGoodText (bytes text bad : List ℕ) : Type 0 where
  pub parts : bytes ≡ text ++ bad
  pub characters : AreCharacters text
  pub longest : (longer more : List ℕ) → bytes ≡ longer ++ more → AreCharacters longer → length longer ≤ length text

-- The reader stands before the rest of the good text.
pub record IsBefore (bytes text bad rest : List ℕ) (at : ℕ) (s : State) : Type 0 where
  pub good : IsGoodText bytes text bad
  pub read : IsRead bytes (rest ++ bad) at s
  pub front : List ℕ
  pub parts : text ≡ front ++ rest
  pub front_characters : AreCharacters front
  pub characters : AreCharacters rest

-- No piece begins behind what was read.
pub record HasEnd (bytes : List ℕ) (at : ℕ) (s : State) : Type 0 where
  pub rest : List ℕ
  pub read : IsRead bytes rest at s
  pub none : BeginsNoPiece rest

-- The tree goes on with the piece at this byte, and no tag is too deep.
pub record GoesOnTo (s : State) (at : ℕ) (piece : Piece) (t : State) : Type 0 where
  pub step : behind_piece s at piece ≡ Some t
  pub shallow : BeginsElement piece → length s.frames < 128

-- The piece at this byte stops the reader.
pub data StopsAt (s : State) (at : ℕ) (piece : Piece) : TextFault → Type 0 where
  too_deep : BeginsElement piece → 128 ≤ length s.frames → StopsAt s at piece (faults.TooDeep at)
  wrong : behind_piece s at piece ≡ None → StopsAt s at piece (faults.Malformed at)

-- The first piece stands there: behind a byte order mark, if the text begins with one.
abbrev pub StartsAt : List ℕ → ℕ → List ℕ → Type 0
StartsAt text at rest = MatchOption (stripped byte_order_mark text) ((at ≡ 0) × (rest ≡ text)) (λ r. (at ≡ 3) × (rest ≡ r))

-- whether the text has ended behind its root
abbrev pub ends_whole : List ℕ → List Element → List Frame → Bool
ends_whole rest es fs = (length rest == 0) && (nat_lt 0 (length es) && (length fs == 0))

-- whether a document type stands before the root
abbrev pub ends_doctype : List ℕ → List Element → Bool
ends_doctype rest es = (length es == 0) && is_some (stripped (codes "<!DOCTYPE") rest)
