-- A loaded class fits among the signals and objects of its setting.
use Rattle.std.proofs.Common.{◌≡◌, ◌≤◌, ◌<◌, ℕ, List, length, map, sym, ap, ◌∙◌, subst, arith}
use Rattle.std.specs.Prelude.{All}
use Rattle.std.specs.List.{AllByRecursion}
use Rattle.std.proofs.lemmas.List.{length-map}
use Rattle.std.proofs.lemmas.List.Elements.{All-from_recursion, recursion_from_All}
use Rattle.pssm_spelling.specs.Spelling.{IsName}
use Rattle.pssm_model.specs.declared.ids.SignalId.{SignalId}
use Rattle.pssm_model.specs.declared.elements.Transition.{Transition}
use Rattle.pssm_model.specs.declared.elements.Vertex.{Vertex}
use Rattle.pssm_model.specs.declared.draft_setting.Draft.{Draft}
use Rattle.pssm_model.specs.declared.draft_setting.DraftClass.{DraftClass}
use Rattle.pssm_model.specs.declared.draft_setting.DraftVar.{DraftVar}
use Rattle.pssm_model.specs.DraftSettings.{AreSignals, IsInRange}
use Rattle.pssm_semantics.specs.declared.setting.Class.{Class}
use Rattle.pssm_semantics.specs.declared.setting.ObjectDecl.{ObjectDecl}
use Rattle.pssm_semantics.specs.declared.setting.Setting.{Setting}
use Rattle.pssm_semantics.specs.declared.setting.VarDecl.{VarDecl}
use Rattle.pssm_semantics.specs.Proper.{AreNames, ClassFits, HasSignal}
use Rattle.pssm_bodies.specs.Fitting.{AreNamesFor}
use Rattle.pssm_bodies.specs.Programs.{NumbersVertex, NumbersTransition}
use Rattle.pssm_bodies.specs.Readings.{first_program}
use Rattle.pssm_bodies.proofs.FitLaws.{program_fits, marks_named}
use Rattle.pssm_settings.specs.Names.{HasNames}
use Rattle.pssm_settings.specs.Settings.{object_of, var_of, signal_of, names_of, IsLoadedClass, IsSettingOf}
use Rattle.pssm_settings.proofs.FlatLists.{each_at, each_with}
use Rattle.pssm_settings.proofs.FlatNames.{flat_names}
use Rattle.pssm_settings.proofs.FlatSignals.{flat_defers, flat_triggers}
use Rattle.pssm_settings.proofs.FlatVars.{flat_vars_few}
use Rattle.pssm_settings.proofs.ProperLists.{map_map, of_mapped, short_names, after_numbered}

module _ (draft : Draft) (setting : Setting) (range : IsInRange draft) (named : HasNames draft) (is : IsSettingOf draft setting) where
  pub as_many_signals : length setting.signals ≡ length draft.signals
  as_many_signals = ap length is.signals ∙ length-map draft.signals signal_of

  pub as_many_objects : length setting.objects ≡ length draft.objects
  as_many_objects = ap length is.objects ∙ length-map draft.objects object_of

  -- a signal of the draft is one of the setting
  kept_signals : (signals : List SignalId) → AreSignals draft signals → All (HasSignal setting) signals
  kept_signals signals all =
      All-from_recursion (HasSignal setting) signals
      (each_with (λ (g : SignalId). g.0 < length draft.signals) (HasSignal setting) signals (λ g less. omega (arith, less, as_many_signals)) all)

  module _ (number : ℕ) (class : Class) (loaded : IsLoadedClass draft number class) where
    abbrev vars : List DraftVar
    vars = loaded.flat.vars

    -- the names of its variables are those of the flat draft
    var_names : map (λ (v : VarDecl). v.name) class.vars ≡ map (λ (v : DraftVar). v.name) vars
    var_names = ap (map (λ (v : VarDecl). v.name)) loaded.vars ∙ map_map (λ (v : VarDecl). v.name) var_of vars

    few_vars : length class.vars ≤ 64
    few_vars =
        let size = length-map vars var_of in
        let same = ap length loaded.vars in
        let few = flat_vars_few draft number loaded.flat range loaded.flattened in
        omega (arith, size, same, few)

    names_for : AreNamesFor setting class (names_of draft vars)
    names_for = record {
      vars = sym var_names;
      objects = sym (ap (map (λ (o : ObjectDecl). o.name)) is.objects ∙ map_map (λ (o : ObjectDecl). o.name) object_of draft.objects);
      signals = sym is.signals;
      few_vars = few_vars;
      few_objects = (let few = range.few_objects in omega (arith, few, as_many_objects));
      few_signals = (let few = range.few_signals in omega (arith, few, as_many_signals));
    }

    -- the class has a name
    pub class_named : IsName class.name
    class_named =
        let all : AllByRecursion (λ (c : DraftClass). IsName c.name) draft.classes =
        of_mapped IsName (λ (c : DraftClass). c.name) draft.classes (recursion_from_All IsName _ named.classes.names_are) in
        subst IsName (sym loaded.name) (each_at _ draft.classes number loaded.of all loaded.is)

    vars_named : AreNames (map (λ (v : VarDecl). v.name) class.vars)
    vars_named = subst AreNames (sym var_names) (short_names _ (flat_names draft number loaded.flat range named loaded.flattened))

    defers : AllByRecursion (λ (x : Vertex). All (HasSignal setting) x.defers) class.machine.vertices
    defers =
        after_numbered (NumbersVertex (names_of draft vars) loaded.flat.bodies) (λ (x : Vertex). AreSignals draft x.defers)
        (λ (x : Vertex). All (HasSignal setting) x.defers)
        (λ before from to behind one all. subst (All (HasSignal setting)) (sym one.defers) (kept_signals from.defers all))
        first_program loaded.flat.machine.vertices class.machine.vertices loaded.programmed.middle loaded.programmed.vertices
        (flat_defers draft range number loaded.flat loaded.flattened)

    triggers : AllByRecursion (λ (x : Transition). All (HasSignal setting) x.triggers) class.machine.transitions
    triggers =
        after_numbered (NumbersTransition (names_of draft vars) loaded.flat.bodies) (λ (x : Transition). AreSignals draft x.triggers)
        (λ (x : Transition). All (HasSignal setting) x.triggers)
        (λ before from to behind one all. subst (All (HasSignal setting)) (sym one.triggers) (kept_signals from.triggers all))
        loaded.programmed.middle loaded.flat.machine.transitions class.machine.transitions class.program loaded.programmed.transitions
        (flat_triggers draft range number loaded.flat loaded.flattened)

    pub class_fits : ClassFits setting class
    class_fits = record {
      program = program_fits setting class (names_of draft vars) loaded.flat names_for loaded.programmed loaded.shape class_named.short vars_named;
      defers = All-from_recursion (λ (x : Vertex). All (HasSignal setting) x.defers) class.machine.vertices defers;
      triggers = All-from_recursion (λ (x : Transition). All (HasSignal setting) x.triggers) class.machine.transitions triggers;
    }

    pub marks_spelled : AllByRecursion IsName class.program.marks
    marks_spelled = marks_named (names_of draft vars) loaded.flat class.machine class.program loaded.programmed
