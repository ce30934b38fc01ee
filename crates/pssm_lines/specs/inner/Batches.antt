-- Lines at the front of a text, with what is known of the text so far.
use Rattle.std.specs.Prelude.{◌≡◌, ℕ, Bool, List, ◌++◌, Option, MatchOption}
use Rattle.pssm_semantics.specs.declared.line.Line.{Line}
use Rattle.pssm_lines.specs.declared.fault.LineFault.{LineFault}
use Rattle.pssm_lines.specs.Faults.{IsOpen, IsFaultOf}
use Rattle.pssm_lines.specs.Reading.{stream_of, AreSoFar, next_number}

-- From text these lines are read, and rest is left: what came is the same, whatever lines came before.
pub record Advances (begun : Bool) (number : ℕ) (text : List ℕ) (lines : List Line) (begun' : Bool) (number' : ℕ) (rest : List ℕ) : Type 0 where
  pub stream : (before : List Line) → AreSoFar begun before → stream_of begun' (before ++ lines) rest ≡ stream_of begun before text
  pub so_far : (before : List Line) → AreSoFar begun before → AreSoFar begun' (before ++ lines)
  pub numbered : (before : List Line) → AreSoFar begun before → number ≡ next_number begun before → number' ≡ next_number begun' (before ++ lines)

-- The lines of a text up to its first fault, or up to a line that is still open.
abbrev pub IsBatch : Bool → ℕ → List ℕ → List Line → Bool → ℕ → List ℕ → Option LineFault → Type 0
IsBatch begun number text lines begun' number' rest fault =
    Advances begun number text lines begun' number' rest × MatchOption fault (IsOpen begun' rest) (λ f. (more : List ℕ) → IsFaultOf begun' number' (rest ++ more) f)
