-- Bytes have one setting or one fault.
use Rattle.std.proofs.Common.{◌≡◌, ℕ, List, [], sym, ap, subst, ◌∙◌}
use Rattle.pssm_model.specs.declared.draft_setting.Draft.{Draft}
use Rattle.pssm_semantics.specs.declared.setting.Setting.{Setting}
use Rattle.pssm_flat.specs.declared.fault.FlatFault.{FlatFault}
use Rattle.pssm_flat.specs.Flat.{IsFlat}
use Rattle.pssm_flat.specs.Text.{flat_text}
use Rattle.pssm_flat.specs.Faults.{IsFlatFault}
use Rattle.pssm_profile.specs.declared.fault.XmiFault.{XmiFault}
use Rattle.pssm_xmi.specs.Faults.{ReadsDraft, IsXmiFault}
use Rattle.pssm_settings.specs.declared.fault.DraftFault.{DraftFault}
use Rattle.pssm_settings.specs.Settings.{IsSettingOf}
use Rattle.pssm_settings.specs.Failures.{IsFirstFailure}
use Rattle.pssm_load.specs.declared.fault.ClassFault.{ClassFault}
use Rattle.pssm_load.specs.declared.fault.LoadFault.{LoadFault}
use Rattle.pssm_load.specs.declared.fault.LoadFault.TheVariants.{Flat, Xmi, Faults}
use Rattle.pssm_load.specs.Loads.{AreClassFaults, BeginsFlat, Reads, of_draft, ReadsSetting, IsLoadFault}
use Rattle.pssm_load.specs.Loads.Reads.{flat, model_file}
use Rattle.pssm_load.specs.Loads.IsLoadFault.{flat_form, file, class, rules}
use Rattle.pssm_load.proofs.OneFaultList.{class_faults_once}

-- What is told of the two forms and of drafts: each has one answer.
pub record OneOfEach : Type 0 where
  pub flat_setting : (a b : Setting) → IsFlat a → IsFlat b → flat_text a ≡ flat_text b → a ≡ b
  pub flat_apart : (setting : Setting) (fault : FlatFault) → IsFlat setting → IsFlatFault (flat_text setting) fault → ⊥
  pub flat_fault : (bytes : List ℕ) (f g : FlatFault) → IsFlatFault bytes f → IsFlatFault bytes g → f ≡ g
  pub file_draft : (bytes : List ℕ) (d e : Draft) → ReadsDraft bytes d → ReadsDraft bytes e → d ≡ e
  pub file_apart : (bytes : List ℕ) (draft : Draft) (fault : XmiFault) → ReadsDraft bytes draft → IsXmiFault bytes fault → ⊥
  pub file_fault : (bytes : List ℕ) (f g : XmiFault) → IsXmiFault bytes f → IsXmiFault bytes g → f ≡ g
  pub draft_setting : (draft : Draft) (a b : Setting) → IsSettingOf draft a → IsSettingOf draft b → a ≡ b
  pub draft_apart : (draft : Draft) (setting : Setting) (fault : DraftFault) → IsSettingOf draft setting → IsFirstFailure draft fault → ⊥
  pub draft_fault : (draft : Draft) (f g : DraftFault) → IsFirstFailure draft f → IsFirstFailure draft g → f ≡ g

module _ (one : OneOfEach) (bytes : List ℕ) where
  -- Bytes are read as one setting.
  pub read_once : (a b : Setting) → Reads bytes a → Reads bytes b → a ≡ b
  read_once a b (flat begins is text) (flat also is_flat spelled) = one.flat_setting a b is is_flat (sym text ∙ spelled)
  read_once a b (flat begins is text) (model_file draft not_flat reads set) = absurd (not_flat begins)
  read_once a b (model_file draft not_flat reads set) (flat begins is text) = absurd (not_flat begins)
  read_once a b (model_file draft not_flat reads set) (model_file other none read is) =
      let same = one.file_draft bytes draft other reads read in
      one.draft_setting other a b (subst (λ (d : Draft). IsSettingOf d a) same set) is

  -- ---- no fault in what is read

  flat_or_read : (setting : Setting) (fault : FlatFault) → Reads bytes setting → BeginsFlat bytes → IsFlatFault bytes fault → ⊥
  flat_or_read setting fault (flat begins is text) also wrong = one.flat_apart setting fault is (subst (λ (t : List ℕ). IsFlatFault t fault) text wrong)
  flat_or_read setting fault (model_file draft not_flat reads set) also wrong = not_flat also

  file_or_read : (setting : Setting) (fault : XmiFault) → Reads bytes setting → (BeginsFlat bytes → ⊥) → IsXmiFault bytes fault → ⊥
  file_or_read setting fault (flat begins is text) none wrong = none begins
  file_or_read setting fault (model_file draft not_flat reads set) none wrong = one.file_apart bytes draft fault reads wrong

  class_or_read : (setting : Setting) (draft : Draft) (fault : DraftFault) → Reads bytes setting → (BeginsFlat bytes → ⊥) → ReadsDraft bytes draft
      → IsFirstFailure draft fault → ⊥
  class_or_read setting draft fault (flat begins is text) none read wrong = none begins
  class_or_read setting draft fault (model_file other not_flat reads set) none read wrong =
      let same = one.file_draft bytes other draft reads read in
      one.draft_apart draft setting fault (subst (λ (d : Draft). IsSettingOf d setting) same set) wrong

  -- The rules that the machines of what is read break are one list.
  list_once : (s t : Setting) (list others : List ClassFault) → ReadsSetting bytes s list → ReadsSetting bytes t others → list ≡ others
  list_once s t list others has also =
      let same = read_once s t has.reads also.reads in
      class_faults_once t.classes list others (subst (λ (x : Setting). AreClassFaults x.classes list) same has.faults) also.faults

  -- Nothing is wrong with bytes whose machines break no rule.
  pub loads_or_fault : (setting : Setting) (fault : LoadFault) → ReadsSetting bytes setting [] → IsLoadFault bytes fault → ⊥
  loads_or_fault setting fault has (flat_form {fault = of_text} begins wrong) = flat_or_read setting of_text has.reads begins wrong
  loads_or_fault setting fault has (file {fault = of_file} none wrong) = file_or_read setting of_file has.reads none wrong
  loads_or_fault setting fault has (class {fault = of_class} draft none read wrong) = class_or_read setting draft of_class has.reads none read wrong
  loads_or_fault setting fault has (rules {list = list} other also some) = some (list_once other setting list [] also has)

  -- ---- two faults

  same_class : (d e : Draft) (f g : DraftFault) → ReadsDraft bytes d → ReadsDraft bytes e → IsFirstFailure d f → IsFirstFailure e g → of_draft f ≡ of_draft g
  same_class d e f g reads read wrong also =
      let same = one.file_draft bytes d e reads read in
      ap of_draft (one.draft_fault e f g (subst (λ (x : Draft). IsFirstFailure x f) same wrong) also)

  -- Bytes have one fault.
  pub fault_once : (f g : LoadFault) → IsLoadFault bytes f → IsLoadFault bytes g → f ≡ g
  fault_once f g (flat_form {fault = a} begins wrong) (flat_form {fault = b} also wrong_also) = ap Flat (one.flat_fault bytes a b wrong wrong_also)
  fault_once f g (flat_form begins wrong) (file none also) = absurd (none begins)
  fault_once f g (flat_form begins wrong) (class draft none read also) = absurd (none begins)
  fault_once f g (flat_form {fault = a} begins wrong) (rules setting has some) = absurd (flat_or_read setting a has.reads begins wrong)
  fault_once f g (file none wrong) (flat_form begins also) = absurd (none begins)
  fault_once f g (file {fault = a} none wrong) (file {fault = b} not_flat also) = ap Xmi (one.file_fault bytes a b wrong also)
  fault_once f g (file {fault = a} none wrong) (class draft not_flat read also) = absurd (one.file_apart bytes draft a read wrong)
  fault_once f g (file {fault = a} none wrong) (rules setting has some) = absurd (file_or_read setting a has.reads none wrong)
  fault_once f g (class draft none read wrong) (flat_form begins also) = absurd (none begins)
  fault_once f g (class draft none read wrong) (file {fault = b} not_flat also) = absurd (one.file_apart bytes draft b read also)
  fault_once f g (class {fault = a} draft none read wrong) (class {fault = b} other not_flat reads also) = same_class draft other a b read reads wrong also
  fault_once f g (class {fault = a} draft none read wrong) (rules setting has some) = absurd (class_or_read setting draft a has.reads none read wrong)
  fault_once f g (rules setting has some) (flat_form {fault = b} begins also) = absurd (flat_or_read setting b has.reads begins also)
  fault_once f g (rules setting has some) (file {fault = b} none also) = absurd (file_or_read setting b has.reads none also)
  fault_once f g (rules setting has some) (class {fault = b} draft none read also) = absurd (class_or_read setting draft b has.reads none read also)
  fault_once f g (rules {list = list} setting has some) (rules {list = others} other also more) = ap Faults (list_once setting other list others has also)
