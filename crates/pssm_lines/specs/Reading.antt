-- What is read of the bytes of a journal as they come, in whatever pieces, and what one look at the bytes to be read finds.
use Rattle.std.specs.Prelude.{◌≡◌, ℕ, ◌+◌, Bool, true, false, ◌==◌, count_by, List, [], ◌∷◌, ◌++◌, length, Option, MatchOption}
use Rattle.std.specs.List.{AllByRecursion}
use Rattle.pssm_semantics.specs.declared.line.Line.{Line}
use Rattle.pssm_lines.specs.declared.fault.LineFault.{LineFault}
use Rattle.pssm_lines.specs.declared.front.Front.{Front}
use Rattle.pssm_lines.specs.declared.front.Front.TheVariants as fronts
use Rattle.pssm_lines.specs.LineText.{line_text, header_line, journal_text}
use Rattle.pssm_lines.specs.Parts.{Shows}
use Rattle.pssm_lines.specs.Faults.{IsJournalLine, IsOpen, IsFaultOf, HasFault}

-- what a reader keeps: whether the first line was read, the number of the line that comes next, the fault, and the bytes of that line so far
pub record Reading : Type 0 where
  pub begun : Bool
  pub number : ℕ
  pub fault : Option LineFault
  pub pending : List ℕ

abbrev pub line_feeds : List ℕ → ℕ
line_feeds bytes = count_by (λ c. c == 10) bytes

-- all that came: the first line if it was read, the lines so far, and the bytes after them
abbrev pub stream_of : Bool → List Line → List ℕ → List ℕ
stream_of true lines rest = journal_text lines ++ rest
stream_of false lines rest = rest

-- lines that may have come so far: none before the first line of the text
abbrev pub AreSoFar : Bool → List Line → Type 0
AreSoFar true lines = AllByRecursion IsJournalLine lines
AreSoFar false lines = lines ≡ []

-- the number of the line that comes next
abbrev pub next_number : Bool → List Line → ℕ
next_number true lines = 2 + length lines
next_number false lines = 1

-- Of what came these lines were read, and the bytes after them wait.
pub record HasRead (came : List ℕ) (lines : List Line) (reading : Reading) : Type 0 where
  pub stream : came ≡ stream_of reading.begun lines reading.pending
  pub so_far : AreSoFar reading.begun lines
  pub numbered : reading.number ≡ next_number reading.begun lines

-- A reader takes a piece: with it these lines become whole; where there is a fault, all that came has it after its lines, however it goes on.
abbrev pub IsFed : Reading → Reading → List ℕ → List Line → Option LineFault → Type 0
IsFed old new piece lines fault =
    (came : List ℕ) (before : List Line) → HasRead came before old →
    MatchOption fault
    (HasRead (came ++ piece) (before ++ lines) new)
    (λ f. (more : List ℕ) → HasFault ((came ++ piece) ++ more) (before ++ lines) f)

-- What stands at the front of the bytes that are still to be read, where the line there has this number: the first line, a line that may stand there, a line that is still open, or a fault however the bytes go on.
abbrev pub IsFront : Bool → ℕ → List ℕ → Front → Type 0
IsFront begun number bytes (fronts.Header rest) = (begun ≡ false) × (bytes ≡ header_line ++ rest.now)
IsFront begun number bytes (fronts.Line parts rest) = (l : Line) × (begun ≡ true) × IsJournalLine l × (bytes ≡ line_text l ++ 10 ∷ rest.now) × Shows parts l
IsFront begun number bytes fronts.Open = IsOpen begun bytes
IsFront begun number bytes (fronts.Fault fault) = (more : List ℕ) → IsFaultOf begun number (bytes ++ more) fault
