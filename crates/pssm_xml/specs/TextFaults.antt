-- What is wrong with the text of a file, before its elements are looked at, and the elements of a text with which nothing is.
use Rattle.std.specs.Prelude.{◌≡◌, ◌≢◌, ◌≤◌, ◌+◌, ℕ, List, [], ◌∷◌, ◌++◌, length, codes}
use Rattle.std.specs.List.{AllByRecursion}
use Rattle.std.specs.Str.{IsUtf8}
use Rattle.pssm_xml.specs.declared.fault.TextFault.{TextFault}
use Rattle.pssm_xml.specs.declared.fault.TextFault.TheVariants as faults
use Rattle.pssm_xml.specs.Characters.{IsNoUtf8At}
use Rattle.pssm_xml.specs.Pieces.{Piece, IsPiece}
use Rattle.pssm_xml.specs.Documents.{Placed, IsFileCut, Element, IsDocument, IsOutside, BeginDocument, BeginsElement, open_count}

-- No piece begins there (XML 1.0 2.1).
abbrev pub BeginsNoPiece : List ℕ → Type 0
BeginsNoPiece rest = (bytes more : List ℕ) (piece : Piece) → rest ≡ bytes ++ more → IsPiece bytes piece → ⊥

-- With the piece that begins there the pieces begin no document: it cannot stand there.
abbrev pub BeginsWrongPiece : List Placed → List ℕ → Type 0
BeginsWrongPiece pieces rest =
    (bytes : List ℕ) × (more : List ℕ) × (piece : Piece) × (rest ≡ bytes ++ more) × IsPiece bytes piece
    × ((at : ℕ) → BeginDocument (pieces ++ record { at = at; piece = piece } ∷ []) → ⊥)

-- What follows the pieces cannot go on a document: the text ends before it is one, no piece begins there, or a wrong one does (XML 1.0 2.1, well-formed documents).
pub data IsStuck (pieces : List Placed) (rest : List ℕ) : Type 0 where
  ended : rest ≡ [] → ((elements : List Element) → IsDocument pieces elements → ⊥) → IsStuck pieces rest
  no_piece : rest ≢ [] → BeginsNoPiece rest → IsStuck pieces rest
  wrong_piece : BeginsWrongPiece pieces rest → IsStuck pieces rest

-- The file goes wrong at this byte: the pieces before it begin a document, and what follows cannot go on with it (this profile's choice).
pub record GoesWrong (bytes : List ℕ) (at : ℕ) (pieces : List Placed) (rest : List ℕ) : Type 0 where
  pub cut : IsFileCut bytes pieces rest
  pub counted : length bytes ≡ at + length rest
  pub begins : BeginDocument pieces
  pub stuck : IsStuck pieces rest

-- A document type stands there, before the root (XML 1.0 2.8, document type declaration; this profile takes none).
pub record IsDoctype (pieces : List Placed) (rest : List ℕ) : Type 0 where
  pub before_root : AllByRecursion IsOutside pieces
  pub more : List ℕ
  pub spelled : rest ≡ codes "<!DOCTYPE" ++ more

-- A tag begins an element in 128 that are open (this profile's choice).
pub record NestsTooDeep (bytes : List ℕ) (at : ℕ) : Type 0 where
  pub before : List Placed
  pub tag : Piece
  pub rest : List ℕ
  pub cut : IsFileCut bytes (before ++ record { at = at; piece = tag } ∷ []) rest
  pub begins : BeginDocument (before ++ record { at = at; piece = tag } ∷ [])
  pub element : BeginsElement tag
  pub deep : 128 ≤ open_count before

-- what is wrong with a text that is UTF-8 (this profile's choice of what is told apart)
pub data HasTextFault (bytes : List ℕ) : TextFault → Type 0 where
  malformed : {at : ℕ} {pieces : List Placed} {rest : List ℕ} → GoesWrong bytes at pieces rest → (IsDoctype pieces rest → ⊥) → HasTextFault bytes (faults.Malformed at)
  doctype : {at : ℕ} {pieces : List Placed} {rest : List ℕ} → GoesWrong bytes at pieces rest → IsDoctype pieces rest → HasTextFault bytes (faults.Doctype at)
  too_deep : {at : ℕ} → NestsTooDeep bytes at → HasTextFault bytes (faults.TooDeep at)

-- the one fault of bytes that are no UTF-8 (this profile's choice)
pub data HasByteFault (bytes : List ℕ) : TextFault → Type 0 where
  not_utf8 : {at : ℕ} → IsNoUtf8At bytes at → HasByteFault bytes (faults.NotUtf8 at)

-- The file is UTF-8 and a document with these elements, and no element stands too deep (this profile's choice).
pub record HasElements (bytes : List ℕ) (elements : List Element) : Type 0 where
  pub utf8 : IsUtf8 bytes
  pub pieces : List Placed
  pub cut : IsFileCut bytes pieces []
  pub document : IsDocument pieces elements
  pub shallow : (at : ℕ) → NestsTooDeep bytes at → ⊥
