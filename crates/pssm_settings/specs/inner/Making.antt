-- How a class is put together.
use Rattle.std.specs.Prelude.{◌≡◌, ◌⊎◌, ℕ, List, map}
use Rattle.pssm_model.specs.declared.draft_setting.Draft.{Draft}
use Rattle.pssm_model.specs.declared.draft_setting.DraftClass.{DraftClass}
use Rattle.pssm_model.specs.declared.draft_setting.DraftObject.{DraftObject}
use Rattle.pssm_model.specs.declared.draft_setting.DraftVar.{DraftVar}
use Rattle.pssm_model.specs.declared.elements.DraftMachine.{DraftMachine}
use Rattle.pssm_model.specs.declared.elements.Shape.{Shape}
use Rattle.pssm_model.specs.Shapes.{HasShape, IsShapeFault}
use Rattle.pssm_semantics.specs.declared.setting.Class.{Class}
use Rattle.pssm_semantics.specs.declared.setting.Program.{Program}
use Rattle.pssm_semantics.specs.declared.setting.SignalDecl.{SignalDecl}
use Rattle.pssm_semantics.specs.declared.setting.VarDecl.{VarDecl}
use Rattle.pssm_acts.specs.Indexes.{IsIndexOf}
use Rattle.pssm_bodies.specs.declared.reading.Programmed.{Programmed}
use Rattle.pssm_settings.specs.declared.classes.Indexes.{Indexes}
use Rattle.pssm_settings.specs.declared.fault.DraftFault.{DraftFault}
use Rattle.pssm_settings.specs.declared.fault.DraftFault.TheVariants as faults
use Rattle.pssm_settings.specs.Settings.{signal_of, var_of}

-- a class of these parts
abbrev pub class_with : List ℕ → List VarDecl → DraftMachine → Program → Class
class_with name vars machine program = record { name = name; vars = vars; machine = machine; program = program }

-- The class has the name, these variables, the machine and its program, and the machine has the shape of one.
pub record MakesClass (of : DraftClass) (vars : List DraftVar) (programmed : Programmed) (class : Class) : Type 0 where
  pub is : class ≡ class_with of.name (map var_of vars) programmed.machine programmed.program
  pub shape : HasShape programmed.machine

-- The machine of the class with this name lacks the shape of one, or memory ran out.
abbrev pub MisshapesClass : List ℕ → DraftMachine → DraftFault → Type 0
MisshapesClass name machine fault = (fault ≡ faults.NoMemory) ⊎ ((s : Shape) × (fault ≡ faults.Shape name s) × IsShapeFault machine s)

-- The indexes are those of the names of the draft's objects and signals.
abbrev pub IndexesDraft : Draft → Indexes → Type 0
IndexesDraft draft indexes =
    IsIndexOf (map (λ (o : DraftObject). o.name) draft.objects) indexes.objects
    × IsIndexOf (map (λ (d : SignalDecl). d.name) (map signal_of draft.signals)) indexes.signals
