-- Why a draft has no setting: the first of its classes that fails, and why that fails.
use Rattle.std.specs.Prelude.{◌≡◌, ◌<◌, ℕ, length, Some, slice_get}
use Rattle.pssm_model.specs.declared.draft_setting.Body.{Body}
use Rattle.pssm_model.specs.declared.draft_setting.Draft.{Draft}
use Rattle.pssm_model.specs.declared.draft_setting.DraftClass.{DraftClass}
use Rattle.pssm_model.specs.declared.draft_setting.FlatDraft.{FlatDraft}
use Rattle.pssm_model.specs.declared.elements.DraftMachine.{DraftMachine}
use Rattle.pssm_model.specs.declared.elements.Shape.{Shape}
use Rattle.pssm_model.specs.Shapes.{IsShapeFault}
use Rattle.pssm_semantics.specs.declared.setting.Class.{Class}
use Rattle.pssm_semantics.specs.declared.setting.Program.{Program}
use Rattle.pssm_acts.specs.declared.act_fault.ActFault.{ActFault}
use Rattle.pssm_heritage.specs.declared.fault.RedefFault.{RedefFault}
use Rattle.pssm_redefine.specs.Flattening.{Flattens, IsFaultOfClass}
use Rattle.pssm_bodies.specs.Programs.{IsProgrammed}
use Rattle.pssm_bodies.specs.Faults.{IsBodyFault}
use Rattle.pssm_settings.specs.declared.fault.DraftFault.{DraftFault}
use Rattle.pssm_settings.specs.declared.fault.DraftFault.TheVariants as faults
use Rattle.pssm_settings.specs.Settings.{names_of, IsLoadedClass}

-- Why the class with this number gives none: its machine cannot be flattened; otherwise the first of its bodies, in the order of the file, has a fault; otherwise
-- its machine lacks the shape of one (this profile's choice of the order).
pub data FailsClass (draft : Draft) (number : ℕ) : DraftFault → Type 0 where
  redefined : {fault : RedefFault} → IsFaultOfClass draft number fault → FailsClass draft number (faults.Redef fault)
  body : {fault : ActFault} (flat : FlatDraft) (place : ℕ) (one : Body) → Flattens draft number flat
      → IsBodyFault (names_of draft flat.vars) flat place fault → slice_get flat.bodies place ≡ Some one → FailsClass draft number (faults.Act one.id fault)
  shape : {fault : Shape} (of : DraftClass) (flat : FlatDraft) (machine : DraftMachine) (program : Program) → slice_get draft.classes number ≡ Some of
      → Flattens draft number flat → IsProgrammed (names_of draft flat.vars) flat machine program → IsShapeFault machine fault
      → FailsClass draft number (faults.Shape of.name fault)

-- The classes before this one are loaded, and this one fails so.
pub record IsFirstFailure (draft : Draft) (fault : DraftFault) : Type 0 where
  pub number : ℕ
  pub is : number < length draft.classes
  pub before : (earlier : ℕ) → earlier < number → (class : Class) × IsLoadedClass draft earlier class
  pub fails : FailsClass draft number fault
