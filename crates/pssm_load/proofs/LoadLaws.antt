-- How a model is loaded, step by step.
use Rattle.std.proofs.Common.{◌≡◌, ◌≢◌, ◌⊎◌, ℕ, List, [], Result, Ok, Err, IfOk, IfErr, refl, sym, subst, inl, inr}
use Rattle.std.proofs.lemmas.List.Elements.{All-from_recursion}
use Rattle.pssm_model.specs.declared.draft_setting.Draft.{Draft}
use Rattle.pssm_model.specs.WellFormed.{KeepsModelRules}
use Rattle.pssm_semantics.specs.declared.setting.Setting.{Setting}
use Rattle.pssm_semantics.specs.Names.{HasSpelledNames}
use Rattle.pssm_semantics.specs.Proper.{IsProper, IsWellFormed}
use Rattle.pssm_flat.specs.declared.fault.FlatFault.{FlatFault}
use Rattle.pssm_flat.specs.declared.fault.FlatFault.TheVariants as texts
use Rattle.pssm_flat.specs.Faults.{IsFlatFault}
use Rattle.pssm_profile.specs.declared.fault.XmiFault.{XmiFault}
use Rattle.pssm_profile.specs.declared.fault.XmiFault.TheVariants as files
use Rattle.pssm_roles.specs.Roles.{AreRolesOf}
use Rattle.pssm_profile.specs.Faults.{HasNoProfileFault}
use Rattle.pssm_numbering.specs.Numbering.{ModelFile}
use Rattle.pssm_drafting.specs.Drafts.{draft_of}
use Rattle.pssm_xmi.specs.Faults.{ReadsDraft, IsXmiFault}
use Rattle.pssm_settings.specs.Names.{HasNames}
use Rattle.pssm_settings.specs.declared.fault.DraftFault.{DraftFault}
use Rattle.pssm_settings.specs.Settings.{IsSettingOf}
use Rattle.pssm_settings.specs.Failures.{IsFirstFailure}
use Rattle.pssm_load.specs.declared.fault.LoadFault.{LoadFault}
use Rattle.pssm_load.specs.declared.fault.LoadFault.TheVariants.{Flat, Xmi, Redef, Act, Shape, Faults, NoMemory}
use Rattle.pssm_load.specs.Loads.{of_draft, BeginsFlat, Reads, model_file, ReadsSetting, AreClassFaults, IsLoadFault, flat_form, file, class, rules}
use Rattle.pssm_load.specs.inner.Loading.{BreakRules}
use Rattle.pssm_load.proofs.LoadFaults.{rules_kept}

-- What is wrong with bytes.
abbrev pub IsWrong : List ℕ → LoadFault → Type 0
IsWrong bytes fault = (fault ≡ NoMemory) ⊎ IsLoadFault bytes fault

-- ---- the two forms

-- The flat text has a fault.
pub text_wrong : (bytes : List ℕ) (text : FlatFault) (told : LoadFault) → BeginsFlat bytes → (text ≡ texts.NoMemory) ⊎ IsFlatFault bytes text
    → (told ≡ NoMemory) ⊎ ((told ≡ Flat text) × (text ≢ texts.NoMemory)) → IsWrong bytes told
text_wrong bytes text told form wrong (inl none) = inl none
text_wrong bytes text told form (inl none) (inr is) = absurd (is.1 none)
text_wrong bytes text told form (inr wrong) (inr is) = inr (subst (λ (f : LoadFault). IsLoadFault bytes f) (sym is.0) (flat_form form wrong))

-- The model file has a fault.
pub file_wrong : (bytes : List ℕ) (fault : XmiFault) (told : LoadFault) → (BeginsFlat bytes → ⊥) → (fault ≡ files.NoMemory) ⊎ IsXmiFault bytes fault
    → (told ≡ NoMemory) ⊎ ((told ≡ Xmi fault) × (fault ≢ files.NoMemory)) → IsWrong bytes told
file_wrong bytes fault told form wrong (inl none) = inl none
file_wrong bytes fault told form (inl none) (inr is) = absurd (is.1 none)
file_wrong bytes fault told form (inr wrong) (inr is) = inr (subst (λ (f : LoadFault). IsLoadFault bytes f) (sym is.0) (file form wrong))

-- The draft of the file has no setting, for this cause.
pub draft_wrong : (bytes : List ℕ) (draft : Draft) (told : LoadFault) → (BeginsFlat bytes → ⊥) → ReadsDraft bytes draft
    → (told ≡ NoMemory) ⊎ ((cause : DraftFault) × (told ≡ of_draft cause) × IsFirstFailure draft cause) → IsWrong bytes told
draft_wrong bytes draft told form reads (inl none) = inl none
draft_wrong bytes draft told form reads (inr why) = inr (subst (λ (f : LoadFault). IsLoadFault bytes f) (sym why.1) (class draft form reads why.2))

-- The names of a draft that was read.
pub names_read : (bytes : List ℕ) (draft : Draft) → ReadsDraft bytes draft
    → ((of : ModelFile) → AreRolesOf of.doc of.roles → HasNoProfileFault of.doc → HasNames (draft_of of)) → HasNames draft
names_read bytes draft reads named =
    subst (λ (d : Draft). HasNames d) (sym reads.is_draft) (named reads.file reads.is_file.roles reads.none_first)

-- what two things an answer may hold
both : {X E : Type 0} {P Q : X → Type 0} (r : Result X E) → ((x : X) → P x → Q x) → IfOk r P → IfOk r Q
both (Ok x) go p = go x p
both (Err e) go p = tt

-- The setting of a draft is that of its file.
pub file_reads : (bytes : List ℕ) (draft : Draft) (r : Result Setting LoadFault) → (BeginsFlat bytes → ⊥) → ReadsDraft bytes draft → IfOk r (IsSettingOf draft)
    → IfOk r (Reads bytes)
file_reads bytes draft r form reads has = both r (λ setting is. model_file draft form reads is) has

-- It is proper, and its names are spelled.
pub file_keeps : (P : Setting → Type 0) (draft : Draft) (r : Result Setting LoadFault) → ((setting : Setting) → IsSettingOf draft setting → P setting)
    → IfOk r (IsSettingOf draft) → IfOk r P
file_keeps P draft r keeps has = both r keeps has

-- Its cause is that of the file.
pub file_fails : (bytes : List ℕ) (draft : Draft) (r : Result Setting LoadFault) → (BeginsFlat bytes → ⊥) → ReadsDraft bytes draft
    → IfErr r (λ fault. (fault ≡ NoMemory) ⊎ ((cause : DraftFault) × (fault ≡ of_draft cause) × IsFirstFailure draft cause)) → IfErr r (IsWrong bytes)
file_fails bytes draft (Ok setting) form reads wrong = tt
file_fails bytes draft (Err fault) form reads wrong = draft_wrong bytes draft fault form reads wrong

-- ---- the rules of models

-- The setting that the bytes have, kept as it was, breaks no rule.
pub loads_kept : (bytes : List ℕ) (s : Setting) (r : Result Setting LoadFault) → Reads bytes s → IfOk r (λ kept. kept ≡ s) → IfOk r (λ _. AreClassFaults s.classes [])
    → IfOk r (λ setting. ReadsSetting bytes setting [])
loads_kept bytes s (Ok kept) reads same none = subst (λ (x : Setting). ReadsSetting bytes x []) (sym same) (record { reads = reads; faults = none })
loads_kept bytes s (Err fault) reads same none = tt

-- A proper setting that is kept as it was, because its machines keep the rules, is well formed.
pub well_formed_kept : (s : Setting) (r : Result Setting LoadFault) → IsProper s → IfOk r (λ kept. kept ≡ s) → IfOk r (λ _. AreClassFaults s.classes []) → IfOk r IsWellFormed
well_formed_kept s (Ok kept) proper same none =
    subst IsWellFormed (sym same) (record { proper = proper; rules = All-from_recursion (λ c. KeepsModelRules c.machine) s.classes (rules_kept s.classes none) })
well_formed_kept s (Err fault) proper same none = tt

-- Names that are spelled stay so.
pub spelled_kept : (s : Setting) (r : Result Setting LoadFault) → HasSpelledNames s → IfOk r (λ kept. kept ≡ s) → IfOk r HasSpelledNames
spelled_kept s (Ok kept) spelled same = subst (λ (x : Setting). HasSpelledNames x) (sym same) spelled
spelled_kept s (Err fault) spelled same = tt

-- Its machines break rules.
pub breaks_rules : (bytes : List ℕ) (s : Setting) (r : Result Setting LoadFault) → Reads bytes s → IfErr r (BreakRules s.classes) → IfErr r (IsWrong bytes)
breaks_rules bytes s (Ok kept) reads broken = tt
breaks_rules bytes s (Err (Flat fault)) reads broken = absurd broken
breaks_rules bytes s (Err (Xmi fault)) reads broken = absurd broken
breaks_rules bytes s (Err (Redef fault)) reads broken = absurd broken
breaks_rules bytes s (Err (Act id fault)) reads broken = absurd broken
breaks_rules bytes s (Err (Shape name fault)) reads broken = absurd broken
breaks_rules bytes s (Err (Faults list)) reads broken = inr (rules s (record { reads = reads; faults = broken.0 }) broken.1)
breaks_rules bytes s (Err NoMemory) reads broken = inl refl
