-- How many behaviours and which marks there are, where the behaviours themselves are not kept.
use Rattle.std.specs.Prelude.{◌≡◌, ◌<◌, ℕ, Bool, not, List, length, Option, find, ◌==◌, get_or, None}
use Rattle.std.specs.List.{count_by}
use Rattle.pssm_semantics.specs.declared.tree.Act.{Act}
use Rattle.pssm_semantics.specs.declared.setting.Names.{Names}
use Rattle.pssm_semantics.specs.declared.setting.Program.{Program}
use Rattle.pssm_acts.specs.declared.act_fault.ActFault.{ActFault}
use Rattle.pssm_acts.specs.declared.act_fault.ActFault.TheVariants as acts
use Rattle.pssm_acts.specs.Answers.{Faults}
use Rattle.pssm_bodies.specs.declared.body_fault.BodyFault.{BodyFault}
use Rattle.pssm_bodies.specs.declared.body_fault.BodyFault.TheVariants.{At, NoMemory}
use Rattle.pssm_bodies.specs.declared.slot.Reading.{Reading}
use Rattle.pssm_bodies.specs.declared.slot.Slot.{Slot}
use Rattle.pssm_bodies.specs.Readings.{Said, behaviours, guard, Says, is_empty, Leads, KeepsLimits}
use Rattle.pssm_bodies.specs.Faults.{Fails}

-- whether a behaviour has statements
abbrev pub has_statements : Act → Bool
has_statements act = not (is_empty act.stmts)

-- how many behaviours with statements a text says
abbrev pub said_count : Said → ℕ
said_count (behaviours acts) = count_by has_statements acts
said_count (guard cond) = 0

-- The text, read so, says so many behaviours with statements.
pub record SaysCount (names : Names) (marks : List (List ℕ)) (text : List ℕ) (reading : Reading) (count : ℕ) (noted : List (List ℕ)) : Type 0 where
  pub said : Said
  pub says : Says names marks text reading said noted
  pub counted : count ≡ said_count said

-- The program has so many behaviours, and these marks.
pub record HasCounts (program : Program) (count : ℕ) (noted : List (List ℕ)) : Type 0 where
  pub acts : length program.acts ≡ count
  pub marks : program.marks ≡ noted

-- A text leads from the program to one that has so many behaviours, and these marks, and keeps the limits.
pub record LeadsToCounts (names : Names) (text : List ℕ) (reading : Reading) (before : Program) (count : ℕ) (marks : List (List ℕ)) : Type 0 where
  pub behind : Program
  pub leads : Leads names text reading before behind
  pub limits : KeepsLimits behind
  pub counts : HasCounts behind count marks

-- So it is, whatever program with these counts it is that stands before the text.
abbrev pub CountsOn : Names → List ℕ → Reading → ℕ → List (List ℕ) → ℕ → List (List ℕ) → Type 0
CountsOn names text reading count marks more noted = (before : Program) → HasCounts before count marks → LeadsToCounts names text reading before more noted

-- The text fails so, whatever program with these counts it is that stands before it.
abbrev pub FailsOn : Names → List ℕ → Reading → ℕ → List (List ℕ) → ActFault → Type 0
FailsOn names text reading count marks fault = (before : Program) → HasCounts before count marks → Faults (Fails names text reading before) fault

-- The table says of each number in which slot it stands first.
abbrev pub IsTable : List Slot → List (Option Slot) → Type 0
IsTable slots table = (n : ℕ) → n < length table → get_or table n None ≡ find (λ (s : Slot). s.number == n) slots

-- the fault of the body with this number, where memory may have run out
abbrev pub fault_of : ℕ → ActFault → BodyFault
fault_of number acts.NoMemory = NoMemory
fault_of number fault = At number fault
