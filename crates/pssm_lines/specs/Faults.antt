-- Which lines a journal may have, which bytes are the front of one, and where a text first goes wrong (this profile's choice, as all of the form of journals).
use Rattle.std.specs.Prelude.{◌≡◌, ◌≢◌, ◌⊎◌, ◌<◌, ◌≤◌, ℕ, suc, ◌+◌, Bool, true, false, not, ◌==◌, IsTrue, List, [], ◌∷◌, ◌++◌, length}
use Rattle.std.specs.List.{AllByRecursion, list_all}
use Rattle.pssm_semantics.specs.declared.line.Line.{Line}
use Rattle.pssm_lines.specs.declared.fault.LineFault.{LineFault}
use Rattle.pssm_lines.specs.declared.fault.LineFault.TheVariants.{BadLine, LongLine, NoEnd}
use Rattle.pssm_lines.specs.LineText.{line_text, header_line, journal_text}
use Rattle.pssm_lines.specs.Grammar.{IsLine}

abbrev pub is_no_feed : ℕ → Bool
is_no_feed c = not (c == 10)

-- There is no line feed.
abbrev pub HasNoFeed : List ℕ → Type 0
HasNoFeed bytes = IsTrue (list_all is_no_feed bytes)

-- a line that a journal may have: one of the grammar, of at most 65,536 bytes without its line feed
pub record IsJournalLine (l : Line) : Type 0 where
  pub line : IsLine l
  pub short : length (line_text l) ≤ 65536

-- The bytes are the front of the first line of a journal, its line feed counted.
pub record BeginsHeader (bytes : List ℕ) : Type 0 where
  pub more : List ℕ
  pub parts : header_line ≡ bytes ++ more

-- The bytes are the front of a line of the grammar, its line feed counted.
pub record BeginsLine (bytes : List ℕ) : Type 0 where
  pub line : Line
  pub more : List ℕ
  pub is_line : IsLine line
  pub parts : line_text line ++ 10 ∷ [] ≡ bytes ++ more

-- The bytes are the front of what may stand there: of the first line while that is still to come, and of any line of the grammar once it has begun.
abbrev pub Begins : Bool → List ℕ → Type 0
Begins false bytes = BeginsHeader bytes
Begins true bytes = BeginsLine bytes

-- The line goes wrong at this byte, counted from 1: what stands before it begins a line and with it does not. Past 65,536 bytes only a line feed is asked.
pub record IsBadAt (begun : Bool) (bytes : List ℕ) (byte : ℕ) : Type 0 where
  pub front : List ℕ
  pub next : ℕ
  pub rest : List ℕ
  pub parts : bytes ≡ front ++ next ∷ rest
  pub one_line : HasNoFeed front
  pub begins : Begins begun front
  pub stops : Begins begun (front ++ next ∷ []) → ⊥
  pub counted : byte ≡ suc (length front)
  pub within : (length front < 65536) ⊎ ((length front ≡ 65536) × (next ≡ 10))

-- 65,536 bytes begin a line, and no line feed comes after them.
pub record IsTooLong (begun : Bool) (bytes : List ℕ) : Type 0 where
  pub front : List ℕ
  pub next : ℕ
  pub rest : List ℕ
  pub parts : bytes ≡ front ++ next ∷ rest
  pub one_line : HasNoFeed front
  pub begins : Begins begun front
  pub full : length front ≡ 65536
  pub goes_on : next ≢ 10

-- A line is begun and not ended, and may still become whole.
pub record IsOpen (begun : Bool) (bytes : List ℕ) : Type 0 where
  pub one_line : HasNoFeed bytes
  pub begins : Begins begun bytes
  pub short : length bytes ≤ 65536

-- What comes from a line on, where the line has this number, has the fault. `NoEnd` is the fault of bytes that end within a line, or before the first one.
abbrev pub IsFaultOf : Bool → ℕ → List ℕ → LineFault → Type 0
IsFaultOf begun number bytes (BadLine line byte) = (line ≡ number) × IsBadAt begun bytes byte
IsFaultOf begun number bytes (LongLine line) = (line ≡ number) × IsTooLong begun bytes
IsFaultOf begun number bytes (NoEnd line) = (line ≡ number) × IsOpen begun bytes × ((begun ≡ true) × (bytes ≡ []) → ⊥)

-- The text has these lines and then the fault. Lines are counted from 1, and the first line of the text is line 1.
pub data HasFault (text : List ℕ) (lines : List Line) (fault : LineFault) : Type 0 where
  in_header : lines ≡ [] → IsFaultOf false 1 text fault → HasFault text lines fault
  in_line : (rest : List ℕ) → text ≡ journal_text lines ++ rest → AllByRecursion IsJournalLine lines → IsFaultOf true (2 + length lines) rest fault → HasFault text lines fault
