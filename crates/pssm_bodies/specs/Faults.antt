-- The first body, in the order of the file, that has a fault.
use Rattle.std.specs.Prelude.{◌≡◌, ℕ, zero, suc, List, Some, slice_get}
use Rattle.pssm_model.specs.declared.draft_setting.Body.{Body}
use Rattle.pssm_model.specs.declared.draft_setting.FlatDraft.{FlatDraft}
use Rattle.pssm_semantics.specs.declared.setting.Names.{Names}
use Rattle.pssm_semantics.specs.declared.setting.Program.{Program}
use Rattle.pssm_acts.specs.declared.act_fault.ActFault.{ActFault}
use Rattle.pssm_acts.specs.declared.act_fault.ActFault.TheVariants.{TooLong}
use Rattle.pssm_acts.specs.Grammar.{Either}
use Rattle.pssm_acts.specs.Shapes.{GuardShape, StmtsShape, StepsShape}
use Rattle.pssm_acts.specs.TextFaults.{TextFault}
use Rattle.pssm_bodies.specs.declared.body_fault.BodyFault.{BodyFault}
use Rattle.pssm_bodies.specs.declared.body_fault.BodyFault.TheVariants.{At, NoMemory}
use Rattle.pssm_bodies.specs.declared.slot.Reading.{Reading}
use Rattle.pssm_bodies.specs.declared.slot.Reading.TheVariants as readings
use Rattle.pssm_bodies.specs.declared.slot.Slot.{Slot}
use Rattle.pssm_bodies.specs.Slots.{slot_of, text_at}
use Rattle.pssm_bodies.specs.Readings.{first_program, Leads, KeepsLimits}

-- The text, read so, has this first fault.
abbrev pub HasTextFault : Names → Reading → List ℕ → ActFault → Type 0
HasTextFault names readings.Behaviour text fault = TextFault StmtsShape names text fault
HasTextFault names readings.Steps text fault = TextFault StepsShape names text fault
HasTextFault names readings.Guard text fault = TextFault (GuardShape Either) names text fault

-- Why a text, read so, cannot stand behind the program: it has a fault, or with it the limits of the class are passed.
pub data Fails (names : Names) (text : List ℕ) (reading : Reading) (before : Program) : ActFault → Type 0 where
  by_text : {fault : ActFault} → HasTextFault names reading text fault → Fails names text reading before fault
  by_limit : (behind : Program) → Leads names text reading before behind → (KeepsLimits behind → ⊥) → Fails names text reading before (TooLong 0)

-- The body with this number, read behind the program as the slot says in which it stands, leads to the other program.
pub record LeadsOn (names : Names) (flat : FlatDraft) (number : ℕ) (before behind : Program) : Type 0 where
  pub place : Slot
  pub stands : slot_of flat.machine number ≡ Some place
  pub leads : Leads names (text_at flat.bodies number) place.reading before behind

-- The bodies up to this number, read in the order of the file, have no fault and lead to the program; the limits are kept behind each of them.
pub data ReadsTo (names : Names) (flat : FlatDraft) : ℕ → Program → Type 0 where
  nothing : ReadsTo names flat zero first_program
  one_more : {number : ℕ} {before behind : Program} → ReadsTo names flat number before → LeadsOn names flat (suc number) before behind → KeepsLimits behind
      → ReadsTo names flat (suc number) behind

-- The body with this number cannot stand behind the program.
pub record FailsAt (names : Names) (flat : FlatDraft) (number : ℕ) (before : Program) (fault : ActFault) : Type 0 where
  pub place : Slot
  pub stands : slot_of flat.machine number ≡ Some place
  pub fails : Fails names (text_at flat.bodies number) place.reading before fault

-- The body is the first with a fault, and has this one.
pub record IsBodyFault (names : Names) (flat : FlatDraft) (number : ℕ) (fault : ActFault) : Type 0 where
  pub earlier : ℕ
  pub next : number ≡ suc earlier
  pub body : Body
  pub is : slice_get flat.bodies number ≡ Some body
  pub before : Program
  pub reads : ReadsTo names flat earlier before
  pub fails : FailsAt names flat number before fault

-- The fault is that of the first body that has one, or memory ran out.
abbrev pub IsDueFault : Names → FlatDraft → BodyFault → Type 0
IsDueFault names flat NoMemory = Unit {0}
IsDueFault names flat (At number fault) = IsBodyFault names flat number fault
