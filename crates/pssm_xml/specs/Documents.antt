-- How a text is cut into pieces, which pieces are a document, and the elements of one.
use Rattle.std.specs.Prelude.{◌≡◌, ◌⊎◌, ℕ, suc, ◌+◌, ◌-◌, Bool, true, false, List, [], ◌∷◌, ◌++◌, length, count_by, Option, Some, None}
use Rattle.std.specs.List.{AllByRecursion}
use Rattle.pssm_xml.specs.Characters.{AreBlanks}
use Rattle.pssm_xml.specs.Pieces.{Attribute, Piece, Start, Empty, End, Aside, Escaped, Plain, IsPiece}

-- ---- pieces in their places

-- a piece, and the byte of the file, from 0, where it begins
pub record Placed : Type 0 where
  pub at : ℕ
  pub piece : Piece

-- From this byte on a text is cut into these pieces, one behind another, and then the rest comes (XML 1.0 2.1).
pub data IsCutInto : ℕ → List ℕ → List Placed → List ℕ → Type 0 where
  nothing : {at : ℕ} {rest : List ℕ} → IsCutInto at rest [] rest
  piece : {at : ℕ} {bytes more rest : List ℕ} {piece : Piece} {pieces : List Placed} → IsPiece bytes piece → IsCutInto (at + length bytes) more pieces rest
      → IsCutInto at (bytes ++ more) (record { at = at; piece = piece } ∷ pieces) rest

-- the byte order mark in UTF-8
abbrev pub byte_order_mark : List ℕ
byte_order_mark = 239 ∷ 187 ∷ 191 ∷ []

-- The file is cut into these pieces, behind a byte order mark if it begins with one, and then the rest comes (XML 1.0 4.3.3, encodings).
pub data IsFileCut (bytes : List ℕ) (pieces : List Placed) (rest : List ℕ) : Type 0 where
  with_order_mark : (text : List ℕ) → bytes ≡ byte_order_mark ++ text → IsCutInto 3 text pieces rest → IsFileCut bytes pieces rest
  bare : ((text : List ℕ) → bytes ≡ byte_order_mark ++ text → ⊥) → IsCutInto 0 bytes pieces rest → IsFileCut bytes pieces rest

-- ---- elements

-- an element: the byte of its `<`, the number of the element that it stands in, its name and attributes, and the text that stands directly in it
pub record Element : Type 0 where
  pub at : ℕ
  pub parent : Option ℕ
  pub name : List ℕ
  pub attributes : List Attribute
  pub text : List ℕ

-- What stands in the element with the number `parent`, where the next element has the number `next`: these pieces have this text and these elements,
-- which are numbered in the order of their tags: behind an element the numbers go on after its own and those of all in it (XML 1.0 3.1, content of elements).
-- Text on both sides of a child is joined, and line ends stay as they are (this profile's choice).
pub data IsContent : (parent next : ℕ) → List Placed → List ℕ → List Element → Type 0 where
  nothing : {parent next : ℕ} → IsContent parent next [] [] []
  aside : {parent next : ℕ} {p : Placed} {ps : List Placed} {text : List ℕ} {es : List Element} → p.piece ≡ Aside → IsContent parent next ps text es
      → IsContent parent next (p ∷ ps) text es
  text : {parent next : ℕ} {p : Placed} {ps : List Placed} (first : List ℕ) {text : List ℕ} {es : List Element} → (p.piece ≡ Escaped first) ⊎ (p.piece ≡ Plain first)
      → IsContent parent next ps text es → IsContent parent next (p ∷ ps) (first ++ text) es
  empty : {parent next : ℕ} {p : Placed} {ps : List Placed} {name text : List ℕ} {attributes : List Attribute} {es : List Element} → p.piece ≡ Empty name attributes
      → IsContent parent (suc next) ps text es
      → IsContent parent next (p ∷ ps) text (record { at = p.at; parent = Some parent; name = name; attributes = attributes; text = [] } ∷ es)
  nested : {parent next : ℕ} {p : Placed} (q : Placed) {ps inner : List Placed} {name text inner_text : List ℕ} {attributes : List Attribute} {es inner_es : List Element}
      → p.piece ≡ Start name attributes → IsContent next (suc next) inner inner_text inner_es → q.piece ≡ End name
      → IsContent parent (suc next + length inner_es) ps text es
      → IsContent parent next (p ∷ (inner ++ q ∷ ps)) text
      (record { at = p.at; parent = Some parent; name = name; attributes = attributes; text = inner_text } ∷ (inner_es ++ es))

-- The pieces are the one root element with all that stands in it; it has the number 0 (XML 1.0 2.1, the root element).
pub data IsRootElement : List Placed → List Element → Type 0 where
  empty : {p : Placed} {name : List ℕ} {attributes : List Attribute} → p.piece ≡ Empty name attributes
      → IsRootElement (p ∷ []) (record { at = p.at; parent = None; name = name; attributes = attributes; text = [] } ∷ [])
  nested : {p : Placed} (q : Placed) {inner : List Placed} {name text : List ℕ} {attributes : List Attribute} {es : List Element} → p.piece ≡ Start name attributes
      → IsContent 0 1 inner text es → q.piece ≡ End name
      → IsRootElement (p ∷ (inner ++ q ∷ [])) (record { at = p.at; parent = None; name = name; attributes = attributes; text = text } ∷ es)

-- what may stand outside the root: comments, instructions and blanks (XML 1.0 2.8, prolog; this profile takes no document type)
abbrev pub IsOutside : Placed → Type 0
IsOutside p = (p.piece ≡ Aside) ⊎ ((blank : List ℕ) × (p.piece ≡ Plain blank) × AreBlanks blank)

-- a document with these elements (XML 1.0 2.1, well-formed documents)
pub record IsDocument (pieces : List Placed) (elements : List Element) : Type 0 where
  pub before : List Placed
  pub root : List Placed
  pub behind : List Placed
  pub parts : pieces ≡ before ++ root ++ behind
  pub outside : AllByRecursion IsOutside before × AllByRecursion IsOutside behind
  pub root_is : IsRootElement root elements

-- With some pieces behind them the pieces are a document.
abbrev pub BeginDocument : List Placed → Type 0
BeginDocument pieces = (more : List Placed) × (elements : List Element) × IsDocument (pieces ++ more) elements

-- ---- depth

-- a start tag
abbrev pub is_start : Piece → Bool
is_start (Start name attributes) = true
is_start _ = false

-- an end tag
abbrev pub is_end : Piece → Bool
is_end (End name) = true
is_end _ = false

-- A start tag or an empty tag begins an element (XML 1.0 3.1).
abbrev pub BeginsElement : Piece → Type 0
BeginsElement (Start name attributes) = Unit {0}
BeginsElement (Empty name attributes) = Unit {0}
BeginsElement _ = ⊥

-- how many elements are open behind pieces that begin a document: in such pieces each end tag has its start tag before it, so that there are no more of them
abbrev pub open_count : List Placed → ℕ
open_count pieces = count_by (λ (p : Placed). is_start p.piece) pieces - count_by (λ (p : Placed). is_end p.piece) pieces
