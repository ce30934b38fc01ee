-- What `flat` writes of a setting that was loaded is read as this setting again.
use Rattle.std.proofs.Common.{◌≡◌, ◌↔◌, ℕ, List, [], ◌∷◌, ◌++◌, map, inl, inr, refl, sym, subst, codes, IsTrue}
use Rattle.std.specs.List.{flat_map}
use Rattle.pssm_model.specs.declared.draft_setting.Draft.{Draft}
use Rattle.pssm_semantics.specs.declared.setting.Setting.{Setting}
use Rattle.pssm_roles.specs.Roles.{AreRolesOf}
use Rattle.pssm_profile.specs.Faults.{HasNoProfileFault}
use Rattle.pssm_profile.specs.Kinds.{IsVariable}
use Rattle.pssm_numbering.specs.Numbering.{ModelFile}
use Rattle.pssm_numbering.specs.Meanings.{is_variable}
use Rattle.pssm_drafting.specs.Drafts.{draft_of}
use Rattle.pssm_xmi.specs.Faults.{ReadsDraft}
use Rattle.pssm_xmi.proofs.Known.{OneRole}
use Rattle.pssm_settings.specs.Names.{HasNames}
use Rattle.pssm_flat.specs.Text.{text_of, signal_line, class_line, object_line, machine_lines, flat_lines, flat_text}
use Rattle.pssm_flat.specs.declared.fault.FlatFault.{FlatFault}
use Rattle.pssm_flat.specs.Flat.{IsFlat}
use Rattle.pssm_flat.specs.Faults.{IsFlatFault}
use Rattle.pssm_load.specs.declared.fault.ClassFault.{ClassFault}
use Rattle.pssm_load.specs.declared.fault.LoadFault.{LoadFault}
use Rattle.pssm_load.specs.Loads.{BeginsFlat, Reads, flat, model_file, ReadsSetting, IsLoadFault}
use Rattle.pssm_load.specs.ReadBack.{FlatOrShort, IsFlatTextOf, IsLoadedAs}
use Rattle.pssm_load.proofs.DraftParts.{HasWrittenParts, parts_written}
use Rattle.pssm_load.proofs.FlatSettings.{setting_flat}
use Rattle.pssm_load.proofs.LoadFaults.{rules_kept}
use Rattle.pssm_load.proofs.LoadLaws.{names_read}
use Rattle.pssm_load.proofs.SomeLoad.{draft_in_range}

-- The flat text of every setting begins as those of the flat form do.
flat_begins : (s : Setting) → BeginsFlat (flat_text s)
unfolding flat_text flat_lines
flat_begins s =
    let head : List (List ℕ) = map signal_line s.signals ++ (map class_line s.classes ++ map (object_line s.classes) s.objects) in
    (codes " 1" ++ 10 ∷ text_of (head ++ (flat_map (machine_lines s) s.classes ++ codes "end" ∷ [])), refl)

-- What is told of model files.
pub record OfFiles : Type 0 where
  pub one_role : OneRole
  pub named : (file : ModelFile) → AreRolesOf file.doc file.roles → HasNoProfileFault file.doc → HasNames (draft_of file)
  pub variable : (file : ModelFile) → AreRolesOf file.doc file.roles → (n : ℕ) → IsTrue (is_variable file n) ↔ IsVariable file.doc n

module _ (of : OfFiles) (bytes : List ℕ) where
  written : (draft : Draft) → ReadsDraft bytes draft → HasWrittenParts draft
  written draft reads =
      let file = reads.file in
      let roles = reads.is_file.roles in
      subst HasWrittenParts (sym reads.is_draft) (parts_written bytes file reads.is_file.text reads.none_first (λ n test. (of.variable file roles n).0 test))

  -- A setting that was loaded has a flat text, where its spellings are short enough.
  loaded_flat : (setting : Setting) → ReadsSetting bytes setting [] → FlatOrShort bytes setting → IsFlat setting
  loaded_flat setting loads can = go loads.reads can where
    go : Reads bytes setting → FlatOrShort bytes setting → IsFlat setting
    go (flat begins is text) can = is
    go (model_file draft not_flat reads set) (inl begins) = absurd (not_flat begins)
    go (model_file draft not_flat reads set) (inr short) =
        setting_flat draft setting (draft_in_range of.one_role bytes draft reads) (names_read bytes draft reads of.named) set (written draft reads)
        (rules_kept setting.classes loads.faults) short

-- The flat form reads the text as this setting alone.
pub flat_again : OfFiles → ((a b : Setting) → IsFlat a → IsFlat b → flat_text a ≡ flat_text b → a ≡ b)
    → ((s : Setting) (f : FlatFault) → IsFlat s → IsFlatFault (flat_text s) f → ⊥)
    → (bytes : List ℕ) (setting : Setting) → ReadsSetting bytes setting [] → FlatOrShort bytes setting → IsFlatTextOf (flat_text setting) setting
flat_again of one none bytes setting loads can =
    let is = loaded_flat of bytes setting loads can in
    record {
      flat = is;
      is = refl;
      alone = λ other also text. one other setting also is (sym text);
      faultless = λ fault wrong. none setting fault is wrong;
    }

-- So do those who load it.
pub loaded_again : OfFiles → ((bytes : List ℕ) (a b : Setting) → Reads bytes a → Reads bytes b → a ≡ b)
    → ((bytes : List ℕ) (s : Setting) (f : LoadFault) → ReadsSetting bytes s [] → IsLoadFault bytes f → ⊥)
    → (bytes : List ℕ) (setting : Setting) → ReadsSetting bytes setting [] → FlatOrShort bytes setting → IsLoadedAs (flat_text setting) setting
loaded_again of one none bytes setting loads can =
    let text = flat_text setting in
    let reads : ReadsSetting text setting [] = record { reads = flat (flat_begins setting) (loaded_flat of bytes setting loads can) refl; faults = loads.faults } in
    record {
      reads = reads;
      alone = λ other also. one text other setting also.reads reads.reads;
      faultless = λ fault wrong. none text setting fault reads wrong;
    }

-- A text of the flat form is that of its setting.
pub own_text : (bytes : List ℕ) (setting : Setting) (list : List ClassFault) → BeginsFlat bytes → ReadsSetting bytes setting list → bytes ≡ flat_text setting
own_text bytes setting list begins loads = go loads.reads where
  go : Reads bytes setting → bytes ≡ flat_text setting
  go (flat also is text) = text
  go (model_file draft not_flat reads set) = absurd (not_flat begins)
