-- How far the parameters of a signal are counted.
use Rattle.std.specs.Prelude.{◌≤◌, ℕ, List, Option}
use Rattle.pssm_xml.specs.Documents.{Element}
use Rattle.pssm_xml.specs.Elements.{IsNextChild}
use Rattle.pssm_profile.specs.Kinds.{StandBefore}
use Rattle.pssm_profile.specs.Flaws.{IsParameterOf}

-- With this element its signal has more parameters than it can have, and without it has not.
pub record PassesParameters (doc : List Element) (n : ℕ) : Type 0 where
  pub signal : ℕ
  pub own : IsParameterOf doc signal n
  pub before : StandBefore (IsParameterOf doc signal) n 8

-- So many parameters of the signal stand below this number, which is at most n, and this is its first child from there on.
pub record IsCountedBelow (doc : List Element) (signal n count : ℕ) (child : Option ℕ) : Type 0 where
  pub low : ℕ
  pub within : low ≤ n
  pub few : count ≤ low
  pub next : IsNextChild doc signal low child
  pub counted : StandBefore (IsParameterOf doc signal) low count
