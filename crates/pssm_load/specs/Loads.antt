-- What the bytes of a model are worth: a setting, or what is wrong with them.
use Rattle.std.specs.Prelude.{◌≡◌, ◌≢◌, ◌↔◌, ℕ, List, [], ◌∷◌, ◌++◌, map, codes, Contains, AllPairs}
use Rattle.pssm_model.specs.declared.draft_setting.Draft.{Draft}
use Rattle.pssm_model.specs.declared.elements.DraftMachine.{DraftMachine}
use Rattle.pssm_model.specs.WellFormed.{Breaks}
use Rattle.pssm_semantics.specs.declared.setting.Class.{Class}
use Rattle.pssm_semantics.specs.declared.setting.Setting.{Setting}
use Rattle.pssm_flat.specs.declared.fault.FlatFault.{FlatFault}
use Rattle.pssm_flat.specs.Flat.{IsFlat}
use Rattle.pssm_flat.specs.Text.{flat_text}
use Rattle.pssm_flat.specs.Faults.{IsFlatFault}
use Rattle.pssm_profile.specs.declared.fault.XmiFault.{XmiFault}
use Rattle.pssm_xmi.specs.Faults.{ReadsDraft, IsXmiFault}
use Rattle.pssm_wellformed.specs.declared.fault.Fault.{Fault}
use Rattle.pssm_wellformed.specs.Faults.{IsEarlierFault}
use Rattle.pssm_load.specs.declared.fault.ClassFault.{ClassFault}
use Rattle.pssm_load.specs.declared.fault.LoadFault.{LoadFault}
use Rattle.pssm_load.specs.declared.fault.LoadFault.TheVariants.{Flat, Xmi, Redef, Act, Shape, Faults, NoMemory}
use Rattle.pssm_settings.specs.declared.fault.DraftFault.{DraftFault}
use Rattle.pssm_settings.specs.declared.fault.DraftFault.TheVariants as drafts
use Rattle.pssm_settings.specs.Settings.{IsSettingOf}
use Rattle.pssm_settings.specs.Failures.{IsFirstFailure}

-- ---- the rules of models

-- all rules that the machine breaks, and no others, in their order
pub record AreFaults (m : DraftMachine) (faults : List Fault) : Type 0 where
  pub exact : (f : Fault) → Contains faults f ↔ Breaks m f.element f.rule
  pub ascending : AllPairs IsEarlierFault faults

-- a fault of the machine of the class with this name
abbrev pub in_class : List ℕ → Fault → ClassFault
in_class name fault = record { class = name; fault = fault }

-- all rules that the machines break, class by class
abbrev pub AreClassFaults : List Class → List ClassFault → Type 0
AreClassFaults [] list = list ≡ []
AreClassFaults (x ∷ xs) list =
    (faults : List Fault) × (rest : List ClassFault) × AreFaults x.machine faults × AreClassFaults xs rest × (list ≡ map (in_class x.name) faults ++ rest)

-- ---- reading

-- The bytes begin as those of the flat form do.
abbrev pub BeginsFlat : List ℕ → Type 0
BeginsFlat bytes = (rest : List ℕ) × (bytes ≡ codes "pssm-flat" ++ rest)

-- The bytes are the flat text of the setting, where they begin as one; otherwise they are a model file, whose draft has the setting (this profile's choice of how the
-- two forms are told apart).
pub data Reads (bytes : List ℕ) (setting : Setting) : Type 0 where
  flat : BeginsFlat bytes → IsFlat setting → bytes ≡ flat_text setting → Reads bytes setting
  model_file : (draft : Draft) → (BeginsFlat bytes → ⊥) → ReadsDraft bytes draft → IsSettingOf draft setting → Reads bytes setting

-- a fault of a draft
abbrev pub of_draft : DraftFault → LoadFault
of_draft (drafts.Redef fault) = Redef fault
of_draft (drafts.Act id fault) = Act id fault
of_draft (drafts.Shape class shape) = Shape class shape
of_draft drafts.NoMemory = NoMemory

-- The bytes are a model's with this setting, and these are all rules that its machines break.
pub record ReadsSetting (bytes : List ℕ) (setting : Setting) (list : List ClassFault) : Type 0 where
  pub reads : Reads bytes setting
  pub faults : AreClassFaults setting.classes list

-- What is wrong with the bytes of a model: the text of the flat form has a fault, or the model file has, or the first of its classes that gives no machine; or the
-- machines break these rules.
pub data IsLoadFault (bytes : List ℕ) : LoadFault → Type 0 where
  flat_form : {fault : FlatFault} → BeginsFlat bytes → IsFlatFault bytes fault → IsLoadFault bytes (Flat fault)
  file : {fault : XmiFault} → (BeginsFlat bytes → ⊥) → IsXmiFault bytes fault → IsLoadFault bytes (Xmi fault)
  class : {fault : DraftFault} (draft : Draft) → (BeginsFlat bytes → ⊥) → ReadsDraft bytes draft → IsFirstFailure draft fault → IsLoadFault bytes (of_draft fault)
  rules : {list : List ClassFault} (setting : Setting) → ReadsSetting bytes setting list → list ≢ [] → IsLoadFault bytes (Faults list)
