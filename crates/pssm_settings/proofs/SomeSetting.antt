-- A draft in range has a setting, or a first class that fails: never neither.
use Rattle.std.proofs.Common.{◌≡◌, ◌<◌, ◌≤◌, ◌+◌, ℕ, zero, suc, List, [], ◌∷◌, ◌++◌, length, map, refl, sym, ap, ◌∙◌, arith}
use Rattle.std.proofs.lemmas.List.{length-append}
use Rattle.pssm_model.specs.declared.draft_setting.Draft.{Draft}
use Rattle.pssm_model.specs.declared.draft_setting.FlatDraft.{FlatDraft}
use Rattle.pssm_model.specs.declared.elements.DraftMachine.{DraftMachine}
use Rattle.pssm_model.specs.DraftSettings.{IsInRange}
use Rattle.pssm_model.specs.Shapes.{HasShape}
use Rattle.pssm_semantics.specs.declared.setting.Class.{Class}
use Rattle.pssm_semantics.specs.declared.setting.Program.{Program}
use Rattle.pssm_semantics.specs.declared.setting.Setting.{Setting}
use Rattle.pssm_heritage.specs.declared.fault.RedefFault.{RedefFault}
use Rattle.pssm_redefine.specs.Flattening.{Flattens, IsFaultOfClass}
use Rattle.pssm_bodies.specs.Programs.{IsProgrammed}
use Rattle.pssm_bodies.proofs.SomeOutcome.{program_or_fault}
use Rattle.pssm_settings.specs.declared.fault.DraftFault.{DraftFault}
use Rattle.pssm_settings.specs.declared.fault.DraftFault.TheVariants as faults
use Rattle.pssm_settings.specs.Settings.{signal_of, var_of, object_of, names_of, IsLoadedClass, AreLoadedClasses, IsSettingOf}
use Rattle.pssm_settings.specs.Failures.{FailsClass, IsFirstFailure}
use Rattle.pssm_settings.specs.Failures.FailsClass.{redefined, body, shape}
use Rattle.pssm_settings.specs.inner.Making.{class_with}
use Rattle.pssm_settings.proofs.ListingLaws.{none_loaded, one_more_loaded, first_fails}
use Rattle.pssm_settings.proofs.OnceWhole.{each_once}
use Rattle.pssm_model.proofs.ShapeOrFault.{shape_or_fault}

-- A flat draft with a machine that has the shape of one gives a class.
loaded : (draft : Draft) (number : ℕ) (flat : FlatDraft) (machine : DraftMachine) (program : Program) (flattens : Flattens draft number flat)
    → IsProgrammed (names_of draft flat.vars) flat machine program → HasShape machine
    → IsLoadedClass draft number (class_with flattens.of.name (map var_of flat.vars) machine program)
loaded draft number flat machine program flattens programmed shaped =
    record { of = flattens.of; is = flattens.is; flat = flat; flattened = flattens; name = refl; vars = refl; programmed = programmed; shape = shaped }

module _ (some_flat : (draft : Draft) (class : ℕ) → IsInRange draft → class < length draft.classes
    → ((flat : FlatDraft) → Flattens draft class flat → ⊥) → ((fault : RedefFault) → IsFaultOfClass draft class fault → ⊥) → ⊥)
    (draft : Draft) (range : IsInRange draft) where
  -- A class with a flat draft is loaded or fails.
  flat_or_fails : (number : ℕ) (flat : FlatDraft) → Flattens draft number flat → ((class : Class) → IsLoadedClass draft number class → ⊥)
      → ((fault : DraftFault) → FailsClass draft number fault → ⊥) → ⊥
  flat_or_fails number flat flattens good bad =
      program_or_fault (names_of draft flat.vars) flat (each_once draft number flat flattens)
      (λ machine program programmed. shape_or_fault machine
      (λ fault wrong. bad (faults.Shape flattens.of.name fault) (shape flattens.of flat machine program flattens.is flattens programmed wrong))
      (λ shaped. good (class_with flattens.of.name (map var_of flat.vars) machine program) (loaded draft number flat machine program flattens programmed shaped)))
      (λ place fault wrong. bad (faults.Act wrong.body.id fault) (body flat place wrong.body flattens wrong wrong.is))

  -- A class is loaded or fails.
  loads_or_fails : (number : ℕ) → number < length draft.classes → ((class : Class) → IsLoadedClass draft number class → ⊥)
      → ((fault : DraftFault) → FailsClass draft number fault → ⊥) → ⊥
  loads_or_fails number there good bad =
      some_flat draft number range there
      (λ flat flattens. flat_or_fails number flat flattens good bad)
      (λ fault wrong. bad (faults.Redef fault) (redefined wrong))

  -- So many of the first classes are loaded, or one of them is the first that fails.
  all_or_first : (number : ℕ) → number ≤ length draft.classes → ((classes : List Class) → length classes ≡ number → AreLoadedClasses draft classes → ⊥)
      → ((fault : DraftFault) → IsFirstFailure draft fault → ⊥) → ⊥
  all_or_first zero within good bad = good [] refl (none_loaded draft)
  all_or_first (suc number) within good bad =
      let there : number < length draft.classes = omega (arith, within) in
      all_or_first number (omega (arith, within))
      (λ classes counted are. loads_or_fails number there
      (λ class is.
      let one_more : length (classes ++ class ∷ []) ≡ length classes + 1 = length-append classes (class ∷ []) in
      good (classes ++ class ∷ []) (omega (arith, one_more, counted)) (one_more_loaded draft classes class number (sym counted) are is))
      (λ fault fails. bad fault (first_fails draft classes number fault counted are there fails)))
      bad

  abbrev setting_with : List Class → Setting
  setting_with classes = record { signals = map signal_of draft.signals; classes = classes; objects = map object_of draft.objects }

  pub some_setting : ((setting : Setting) → IsSettingOf draft setting → ⊥) → ((fault : DraftFault) → IsFirstFailure draft fault → ⊥) → ⊥
  some_setting good bad =
      all_or_first (length draft.classes) (omega arith)
      (λ classes counted are. good (setting_with classes) (record { signals = refl; all = counted; classes = are; objects = refl }))
      bad
