-- Bytes always have a setting, with the rules that its machines break, or a fault.
use Rattle.std.proofs.Common.{◌≤◌, ℕ, List, length, sym, subst}
use Rattle.pssm_model.specs.declared.draft_setting.Draft.{Draft}
use Rattle.pssm_model.specs.DraftSettings.{IsInRange}
use Rattle.pssm_semantics.specs.declared.setting.Setting.{Setting}
use Rattle.pssm_flat.proofs.EveryText.{setting_or_fault}
use Rattle.pssm_profile.specs.declared.fault.XmiFault.{XmiFault}
use Rattle.pssm_xmi.specs.Faults.{ReadsDraft, IsXmiFault}
use Rattle.pssm_xmi.proofs.Known.{OneRole}
use Rattle.pssm_xmi.proofs.Behind.{stand_behind}
use Rattle.pssm_xmi.proofs.FaultlessLaws.{faultless}
use Rattle.pssm_xmi.proofs.Ranges.{in_range}
use Rattle.pssm_settings.specs.declared.fault.DraftFault.{DraftFault}
use Rattle.pssm_settings.specs.Settings.{IsSettingOf}
use Rattle.pssm_settings.specs.Failures.{IsFirstFailure}
use Rattle.pssm_load.specs.declared.fault.ClassFault.{ClassFault}
use Rattle.pssm_load.specs.declared.fault.LoadFault.{LoadFault}
use Rattle.pssm_load.specs.declared.fault.LoadFault.TheVariants.{Flat, Xmi}
use Rattle.pssm_load.specs.Loads.{BeginsFlat, Reads, flat, model_file, of_draft, ReadsSetting, IsLoadFault, flat_form, file, class}
use Rattle.pssm_load.proofs.FaultLists.{class_faults_listed}
use Rattle.pssm_load.proofs.ReadShapes.{have_shape}

-- A model file has a draft or a fault.
abbrev pub DraftOrFault : Type 0
DraftOrFault = (bytes : List ℕ) → length bytes ≤ 16777216 → ((draft : Draft) → ReadsDraft bytes draft → ⊥) → ((fault : XmiFault) → IsXmiFault bytes fault → ⊥) → ⊥

-- A draft in range has a setting or a fault.
abbrev pub SettingOrFault : Type 0
SettingOrFault = (draft : Draft) → IsInRange draft → ((setting : Setting) → IsSettingOf draft setting → ⊥) → ((fault : DraftFault) → IsFirstFailure draft fault → ⊥) → ⊥

-- A draft that is read is in range.
pub draft_in_range : OneRole → (bytes : List ℕ) (draft : Draft) → ReadsDraft bytes draft → IsInRange draft
draft_in_range one_role bytes draft reads =
    let text = reads.is_file.text in
    let fine = faultless one_role reads.file reads.is_file.roles reads.none_second (stand_behind text.pieces reads.file.doc text.document) reads.none_first in
    subst (λ (d : Draft). IsInRange d) (sym reads.is_draft) (in_range one_role reads.file fine)

module _ (one_role : OneRole) (some_answer : DraftOrFault) (some_setting : SettingOrFault) (bytes : List ℕ) (few : length bytes ≤ 16777216)
    (no_setting : (setting : Setting) (list : List ClassFault) → ReadsSetting bytes setting list → ⊥) (no_fault : (fault : LoadFault) → IsLoadFault bytes fault → ⊥) where
  -- Nothing was read.
  never_read : (setting : Setting) → Reads bytes setting → ⊥
  never_read setting reads = class_faults_listed setting.classes (have_shape bytes setting reads) (λ list are. no_setting setting list (record { reads = reads; faults = are }))

  -- The bytes are not of the flat form.
  never_flat : BeginsFlat bytes → ⊥
  never_flat begins = setting_or_fault bytes (λ setting is spelled. never_read setting (flat begins is spelled)) (λ fault wrong. no_fault (Flat fault) (flat_form begins wrong))

  -- No draft was read.
  never_drafted : (BeginsFlat bytes → ⊥) → (draft : Draft) → ReadsDraft bytes draft → ⊥
  never_drafted other draft reads =
      some_setting draft (draft_in_range one_role bytes draft reads)
      (λ setting is. never_read setting (model_file draft other reads is))
      (λ fault first. no_fault (of_draft fault) (class draft other reads first))

  -- Bytes have a setting or a fault.
  pub some_load : ⊥
  some_load = some_answer bytes few (never_drafted never_flat) (λ fault wrong. no_fault (Xmi fault) (file never_flat wrong))
