-- The setting of a draft in range that has names is proper, and its names are names.
use Rattle.std.proofs.Common.{◌≡◌, ◌≤◌, ◌<◌, ℕ, List, length, map, sym, ap, ◌∙◌, subst, arith}
use Rattle.std.specs.Prelude.{All}
use Rattle.std.specs.List.{AllByRecursion}
use Rattle.std.proofs.lemmas.List.Elements.{All-from_recursion, recursion_from_All}
use Rattle.pssm_spelling.specs.Spelling.{IsName}
use Rattle.pssm_model.specs.declared.draft_setting.Draft.{Draft}
use Rattle.pssm_model.specs.declared.draft_setting.DraftClass.{DraftClass}
use Rattle.pssm_model.specs.declared.draft_setting.DraftObject.{DraftObject}
use Rattle.pssm_model.specs.declared.draft_setting.DraftSignal.{DraftSignal}
use Rattle.pssm_model.specs.DraftSettings.{IsInRange, SignalInRange}
use Rattle.pssm_semantics.specs.declared.setting.Class.{Class}
use Rattle.pssm_semantics.specs.declared.setting.ObjectDecl.{ObjectDecl}
use Rattle.pssm_semantics.specs.declared.setting.Setting.{Setting}
use Rattle.pssm_semantics.specs.declared.setting.SignalDecl.{SignalDecl}
use Rattle.pssm_semantics.specs.Names.{HasSpelledNames}
use Rattle.pssm_semantics.specs.Proper.{AreNames, ClassFits, IsProper}
use Rattle.pssm_settings.specs.Names.{HasNames}
use Rattle.pssm_settings.specs.Settings.{object_of, signal_of, IsSettingOf}
use Rattle.pssm_settings.proofs.FlatLists.{each_from, each_mapped, each_with}
use Rattle.pssm_settings.proofs.ProperLists.{map_map, of_mapped, same_told, short_names}
use Rattle.pssm_settings.proofs.ProperClasses.{as_many_signals, as_many_objects, class_fits, marks_spelled}

module _ (draft : Draft) (setting : Setting) (range : IsInRange draft) (named : HasNames draft) (is : IsSettingOf draft setting) where
  -- ---- names

  signal_names : map (λ (s : SignalDecl). s.name) setting.signals ≡ map (λ (s : DraftSignal). s.name) draft.signals
  signal_names = ap (map (λ (s : SignalDecl). s.name)) is.signals ∙ map_map (λ (s : SignalDecl). s.name) signal_of draft.signals

  object_names : map (λ (o : ObjectDecl). o.name) setting.objects ≡ map (λ (o : DraftObject). o.name) draft.objects
  object_names = ap (map (λ (o : ObjectDecl). o.name)) is.objects ∙ map_map (λ (o : ObjectDecl). o.name) object_of draft.objects

  class_names : map (λ (c : Class). c.name) setting.classes ≡ map (λ (c : DraftClass). c.name) draft.classes
  class_names =
      same_told (λ (c : Class). c.name) (λ (c : DraftClass). c.name) setting.classes draft.classes is.all
      (λ k class at. let loaded = is.classes.each k class at in (loaded.of, loaded.is, loaded.name))

  spelled_in : {X : Type 0} (name : X → List ℕ) (xs : List X) (names : List (List ℕ)) → map name xs ≡ names → All IsName names
      → AllByRecursion (λ x. IsName (name x)) xs
  spelled_in name xs names same all = of_mapped IsName name xs (subst (AllByRecursion IsName) (sym same) (recursion_from_All IsName names all))

  -- ---- the setting

  classes_fit : All (ClassFits setting) setting.classes
  classes_fit =
      All-from_recursion (ClassFits setting) setting.classes
      (each_from (ClassFits setting) setting.classes (λ k class at. class_fits draft setting range named is k class (is.classes.each k class at)))

  objects_have : All (λ (o : ObjectDecl). o.class < length setting.classes) setting.objects
  objects_have =
      subst (All (λ (o : ObjectDecl). o.class < length setting.classes)) (sym is.objects)
      (All-from_recursion (λ (o : ObjectDecl). o.class < length setting.classes) (map object_of draft.objects)
      (each_mapped (λ (o : ObjectDecl). o.class < length setting.classes) object_of draft.objects
      (subst (λ n. AllByRecursion (λ (o : DraftObject). o.class < n) draft.objects) (sym is.all) range.objects)))

  few_parameters : All (λ (s : SignalDecl). s.count ≤ 8) setting.signals
  few_parameters =
      subst (All (λ (s : SignalDecl). s.count ≤ 8)) (sym is.signals)
      (All-from_recursion (λ (s : SignalDecl). s.count ≤ 8) (map signal_of draft.signals)
      (each_mapped (λ (s : SignalDecl). s.count ≤ 8) signal_of draft.signals
      (each_with (SignalInRange draft) (λ (s : DraftSignal). s.count ≤ 8) draft.signals (λ s in_range. in_range.count) range.signals)))

  pub setting_proper : IsProper setting
  setting_proper = record {
    classes = classes_fit;
    objects = objects_have;
    counts = few_parameters;
    names = (
      subst AreNames (sym signal_names) (short_names _ named.signals),
      subst AreNames (sym class_names) (short_names _ named.classes),
      subst AreNames (sym object_names) (short_names _ named.objects),
    );
    limits = (
      (let few = range.few_classes in let all = is.all in omega (arith, few, all)),
      (let few = range.few_objects in let all = as_many_objects draft setting range named is in omega (arith, few, all)),
      (let few = range.few_signals in let all = as_many_signals draft setting range named is in omega (arith, few, all)),
    );
  }

  pub setting_spelled : HasSpelledNames setting
  setting_spelled = record {
    objects = spelled_in (λ (o : ObjectDecl). o.name) setting.objects _ object_names named.objects.names_are;
    signals = spelled_in (λ (s : SignalDecl). s.name) setting.signals _ signal_names named.signals.names_are;
    marks =
        each_from (λ (c : Class). AllByRecursion IsName c.program.marks) setting.classes
        (λ k class at. marks_spelled draft setting range named is k class (is.classes.each k class at));
  }
