-- The predefined guard `else` (UML 2.5.1 14.2.3.7, choice and junction).
use Rattle.std.specs.Prelude.{◌≡◌, ℕ, List, ◌++◌, codes}
use Rattle.pssm_values.specs.Blanks.{AreBlanks}

-- The body is `else` with blanks, or nothing, around it.
pub record SaysElse (body : List ℕ) : Type 0 where
  pub before : List ℕ
  pub behind : List ℕ
  pub parts : body ≡ before ++ codes "else" ++ behind
  pub blanks : AreBlanks before × AreBlanks behind
