-- The verdict on a journal, whatever the rules are.
use Rattle.std.specs.Prelude.{◌<◌, ℕ, List}
use Rattle.pssm_semantics.specs.declared.entry.Entry.{Entry}
use Rattle.pssm_semantics.specs.declared.entry.Rule.{Rule}
use Rattle.pssm_semantics.specs.declared.entry.Rule.TheVariants.{A1, A2, A3, A4, A5, A6, A7, A8, A9, A10, A11, A12}
use Rattle.pssm_semantics.specs.Journal.{Splits}

-- the place of a rule in the order in which they are asked (this profile's choice)
abbrev pub number_of : Rule → ℕ
number_of A1 = 1
number_of A2 = 2
number_of A3 = 3
number_of A4 = 4
number_of A5 = 5
number_of A6 = 6
number_of A7 = 7
number_of A8 = 8
number_of A9 = 9
number_of A10 = 10
number_of A11 = 11
number_of A12 = 12

-- the first of the rules that the entry breaks after the entries before it (this profile's choice)
pub record IsFirstBroken (Holds : Rule → List Entry → Entry → Type 0) (J : List Entry) (e : Entry) (rule : Rule) : Type 0 where
  pub broken : Holds rule J e → ⊥
  pub earlier : (other : Rule) → number_of other < number_of rule → Holds other J e

-- Each entry breaks no rule after the entries before it (this profile's choice).
abbrev pub IsAdmissible : (Rule → List Entry → Entry → Type 0) → List Entry → Type 0
IsAdmissible Holds J = (before after : List Entry) (e : Entry) → Splits J before e after → (rule : Rule) → Holds rule before e
