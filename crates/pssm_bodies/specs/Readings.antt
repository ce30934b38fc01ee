-- What the text of a body says, and the program with it.
use Rattle.std.specs.Prelude.{◌≡◌, ◌≤◌, ℕ, Bool, true, false, List, [], ◌∷◌, ◌++◌, length, if◌then◌else◌}
use Rattle.std.specs.List.{fold}
use Rattle.pssm_model.specs.declared.ids.ActId.{ActId}
use Rattle.pssm_model.specs.declared.ids.GuardId.{GuardId}
use Rattle.pssm_semantics.specs.declared.tree.Act.{Act}
use Rattle.pssm_semantics.specs.declared.tree.Cond.{Cond}
use Rattle.pssm_semantics.specs.declared.tree.Stmt.{Stmt}
use Rattle.pssm_semantics.specs.declared.setting.Names.{Names}
use Rattle.pssm_semantics.specs.declared.setting.Program.{Program}
use Rattle.pssm_acts.specs.ActGrammar.{SpellsAct, SpellsSteps}
use Rattle.pssm_acts.specs.Grammar.{SpellsCond}
use Rattle.pssm_bodies.specs.declared.slot.Reading.{Reading}
use Rattle.pssm_bodies.specs.declared.slot.Reading.TheVariants as readings

-- ---- what a text says

-- behaviours, one or those of all do steps; or a guard
pub data Said : Type 0 where
  behaviours : List Act → Said
  guard : Cond → Said

-- The text, read so, says this; `marks` are those that were named before, and `noted` those with it.
pub data Says (names : Names) (marks : List (List ℕ)) (text : List ℕ) : Reading → Said → List (List ℕ) → Type 0 where
  behaviour : {act : Act} {noted : List (List ℕ)} → SpellsAct names marks text act noted → Says names marks text readings.Behaviour (behaviours (act ∷ [])) noted
  steps : {acts : List Act} {noted : List (List ℕ)} → SpellsSteps names marks text acts noted → Says names marks text readings.Steps (behaviours acts) noted
  guard' : {cond : Cond} → SpellsCond names text cond → Says names marks text readings.Guard (guard cond) marks

-- ---- the program with it

-- a behaviour without statements
abbrev pub is_empty : List Stmt → Bool
is_empty [] = true
is_empty (stmt ∷ more) = false

-- the program of a class of which nothing has been read: the empty behaviour alone
abbrev pub first_program : Program
first_program = record { acts = record { stmts = [] } ∷ []; guards = []; marks = [] }

-- the number of a behaviour behind those of the program; that without statements is number 0
abbrev pub number_of : Program → Act → ActId
number_of program act = if is_empty act.stmts then record { 0 = 0 } else record { 0 = length program.acts }

-- the program with a behaviour, which stands at its end where it has statements
abbrev pub with_act : Program → Act → Program
with_act program act =
    if is_empty act.stmts then program else record { acts = program.acts ++ act ∷ []; guards = program.guards; marks = program.marks }

-- the program with these marks
abbrev pub with_marks : Program → List (List ℕ) → Program
with_marks program marks = record { acts = program.acts; guards = program.guards; marks = marks }

-- the number of a guard behind those of the program
abbrev pub number_of_guard : Program → GuardId
number_of_guard program = record { 0 = length program.guards }

-- the program with a guard at its end
abbrev pub with_guard : Program → Cond → Program
with_guard program cond = record { acts = program.acts; guards = program.guards ++ cond ∷ []; marks = program.marks }

-- the program with what a text says, and the marks with it
abbrev pub with_said : Program → Said → List (List ℕ) → Program
with_said program (behaviours acts) noted = fold with_act (with_marks program noted) acts
with_said program (guard cond) noted = with_guard (with_marks program noted) cond

-- The text, read so behind the program, leads to the other.
pub record Leads (names : Names) (text : List ℕ) (reading : Reading) (before behind : Program) : Type 0 where
  pub said : Said
  pub noted : List (List ℕ)
  pub says : Says names before.marks text reading said noted
  pub leads : behind ≡ with_said before said noted

-- how many behaviours, and how many marks, a class may have (this profile's choice)
abbrev pub most_numbers : ℕ
most_numbers = 32768

-- The program keeps the limits of behaviours, the empty one counted, and of marks.
pub record KeepsLimits (program : Program) : Type 0 where
  pub acts : length program.acts ≤ most_numbers
  pub marks : length program.marks ≤ most_numbers
