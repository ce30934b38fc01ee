-- The program of a class whose bodies were read fits the class.
use Rattle.std.proofs.Common.{◌≡◌, ◌≤◌, ◌<◌, ℕ, List, [], ◌∷◌, length, map, Option, Some, None, refl, sym, ap, ◌∙◌, subst, arith}
use Rattle.std.specs.Prelude.{All, slice_get}
use Rattle.std.specs.List.{AllByRecursion}
use Rattle.std.specs.Option.{option_map, option_map_or}
use Rattle.std.proofs.lemmas.List.Elements.{All-from_recursion}
use Rattle.std.proofs.lemmas.Option.{slice_get-get_or}
use Rattle.pssm_model.specs.declared.ids.SignalId.{SignalId}
use Rattle.pssm_model.specs.declared.elements.DraftMachine.{DraftMachine}
use Rattle.pssm_model.specs.declared.elements.Vertex.{Vertex}
use Rattle.pssm_model.specs.declared.elements.VertexKind.TheVariants as kinds
use Rattle.pssm_model.specs.declared.elements.Transition.{Transition}
use Rattle.pssm_model.specs.declared.elements.Guard.{Guard}
use Rattle.pssm_model.specs.declared.elements.Guard.TheVariants.{Always, Otherwise, When}
use Rattle.pssm_model.specs.declared.draft_setting.FlatDraft.{FlatDraft}
use Rattle.pssm_model.specs.Shapes.{HasShape}
use Rattle.pssm_semantics.specs.declared.entry.ObjectId.{ObjectId}
use Rattle.pssm_semantics.specs.declared.tree.Act.{Act}
use Rattle.pssm_semantics.specs.declared.setting.Names.{Names}
use Rattle.pssm_semantics.specs.declared.setting.Program.{Program}
use Rattle.pssm_semantics.specs.declared.setting.SignalDecl.{SignalDecl}
use Rattle.pssm_semantics.specs.declared.setting.ObjectDecl.{ObjectDecl}
use Rattle.pssm_semantics.specs.declared.setting.VarDecl.{VarDecl}
use Rattle.pssm_semantics.specs.declared.setting.Class.{Class}
use Rattle.pssm_semantics.specs.declared.setting.Setting.{Setting}
use Rattle.pssm_semantics.specs.Fits.{CondFits, ActFits}
use Rattle.pssm_semantics.specs.Proper.{HasAct, GuardFits, VertexFits, TransitionFits, IsShortName, AreNames, CanSend, ProgramFits}
use Rattle.pssm_spelling.specs.Spelling.{IsName}
use Rattle.pssm_acts.specs.Vocabularies.{vocabulary, signal_count}
use Rattle.pssm_acts.specs.Vocabularies.{CanSend as CanSendAmong}
use Rattle.pssm_bodies.specs.Readings.{first_program}
use Rattle.pssm_bodies.specs.Programs.{NumbersVertex, NumbersTransition, IsProgrammed}
use Rattle.pssm_bodies.specs.Fitting.{AreNamesFor}
use Rattle.pssm_acts.proofs.Each.{all_map, map_count}
use Rattle.pssm_acts.proofs.Wider.{act_wider}
use Rattle.pssm_bodies.proofs.FitSound.{IsSound, GoesOn, same_on, empty_act, vertex_on, vertex_sound, transition_on, transition_sound, all_on, all_sound, first_sound}
use Rattle.pssm_bodies.proofs.FitNumbers.{HasGuard, HasVertex, HasTransition, vertex_in, transition_in, all_in}

-- ---- the program

module _ (names : Names) (flat : FlatDraft) (machine : DraftMachine) (program : Program) (is : IsProgrammed names flat machine program) where
  abbrev OfVertex : Program → Vertex → Vertex → Program → Type 0
  OfVertex = NumbersVertex names flat.bodies

  abbrev OfTransition : Program → Transition → Transition → Program → Type 0
  OfTransition = NumbersTransition names flat.bodies

  vertices_on : GoesOn first_program is.middle
  vertices_on = all_on OfVertex (vertex_on names flat.bodies) first_program flat.machine.vertices machine.vertices is.middle is.vertices

  transitions_on : GoesOn is.middle program
  transitions_on = all_on OfTransition (transition_on names flat.bodies) is.middle flat.machine.transitions machine.transitions program is.transitions

  middle_sound : IsSound names is.middle
  middle_sound =
      all_sound OfVertex names (vertex_sound names flat.bodies) first_program flat.machine.vertices machine.vertices is.middle is.vertices (first_sound names)

  pub program_sound : IsSound names program
  program_sound =
      all_sound OfTransition names (transition_sound names flat.bodies) is.middle flat.machine.transitions machine.transitions program is.transitions
      middle_sound

  pub vertices_have : AllByRecursion (HasVertex names flat.bodies program) machine.vertices
  vertices_have =
      all_in OfVertex (HasVertex names flat.bodies program) program (vertex_on names flat.bodies) (vertex_in names flat.bodies program)
      first_program flat.machine.vertices machine.vertices is.middle is.vertices (omega arith) transitions_on

  pub transitions_have : AllByRecursion (HasTransition names flat.bodies program) machine.transitions
  transitions_have =
      let some : 0 < length is.middle.acts = (let more = vertices_on.acts in omega (arith, more)) in
      all_in OfTransition (HasTransition names flat.bodies program) program (transition_on names flat.bodies) (transition_in names flat.bodies program)
      is.middle flat.machine.transitions machine.transitions program is.transitions some (same_on program program refl)

-- The marks of the program are names.
pub marks_named : (names : Names) (flat : FlatDraft) (machine : DraftMachine) (program : Program) → IsProgrammed names flat machine program
    → AllByRecursion IsName program.marks
marks_named names flat machine program is = (program_sound names flat machine program is).marks.names

-- ---- sends

-- The signal has this many parameters.
abbrev Counts : List SignalDecl → ℕ → ℕ → Type 0
Counts signals g n = option_map (λ (d : SignalDecl). d.count) (slice_get signals g) ≡ Some n

count_is : (signals : List SignalDecl) (g n : ℕ) → g < length signals → n ≡ signal_count signals g → Counts signals g n
count_is signals g n lt e = by_place (slice_get signals g) refl where
  by_place : (o : Option SignalDecl) → slice_get signals g ≡ o → option_map (λ (d : SignalDecl). d.count) o ≡ Some n
  by_place (Some d) at = ap Some (sym (e ∙ ap (λ o. option_map_or (λ (x : SignalDecl). x.count) o 0) at))
  by_place None at = absurd (none signals g lt at) where
    none : (signals : List SignalDecl) (g : ℕ) → g < length signals → slice_get signals g ≡ None → ⊥
    none [] g lt at = omega (arith, lt)
    none (d ∷ signals) g lt at = let both : None ≡ Some _ = sym at ∙ slice_get-get_or (d ∷ signals) g d lt in cc

module _ (setting : Setting) (class : Class) (names : Names) (for : AreNamesFor setting class names) where
  count_for : (g n : ℕ) → g < length names.signals → n ≡ signal_count names.signals g → Counts setting.signals g n
  count_for g n lt is = subst (λ (signals : List SignalDecl). Counts signals g n) for.signals (count_is names.signals g n lt is)

  can_send : (to : Option ObjectId) (signal : SignalId) (count : ℕ) → CanSendAmong names to signal count → CanSend setting to signal count
  can_send None signal count can = (tt, count_for signal.0 count can.1 can.2)
  can_send (Some o) signal count can =
      let less = can.0 in
      let size : length names.objects ≡ length setting.objects = ap length for.objects ∙ map_count (λ (d : ObjectDecl). d.name) setting.objects in
      (omega (arith, less, size), count_for signal.0 count can.1 can.2)

  -- ---- the class

  abbrev fits : Act → Type 0
  fits = ActFits (record { vars = length class.vars; marks = length class.program.marks; Sends = CanSend setting })

  abbrev marks : List (List ℕ)
  marks = class.program.marks

  as_many_vars : length names.vars ≡ length class.vars
  as_many_vars = ap length for.vars ∙ map_count (λ (v : VarDecl). v.name) class.vars

  act_for : (act : Act) → ActFits (vocabulary names marks) act → fits act
  act_for act is =
      subst (λ n. ActFits (record { vars = n; marks = length marks; Sends = CanSend setting }) act) as_many_vars
      (act_wider (length names.vars) (length marks) (length marks) (CanSendAmong names) (CanSend setting) (omega arith) can_send act is)

  module _ (flat : FlatDraft) (is : IsProgrammed names flat class.machine class.program) where
    guard_for : (g : Guard) → HasGuard names flat.bodies class.program g → GuardFits class g
    guard_for Always has = tt
    guard_for Otherwise has = tt
    guard_for (When g) has = has

    vertex_for : (v : Vertex) → HasVertex names flat.bodies class.program v → VertexFits class v
    vertex_for v has = (has.0, has.1, All-from_recursion (HasAct class) v.steps has.2)

    vertices_fit : All (VertexFits class) class.machine.vertices
    vertices_fit =
        all_map (HasVertex names flat.bodies class.program) (VertexFits class) class.machine.vertices vertex_for
        (vertices_have names flat class.machine class.program is)

    few_steps : All (λ (v : Vertex). v.kind ≡ kinds.State → length v.steps ≤ 64) class.machine.vertices
    few_steps =
        all_map (HasVertex names flat.bodies class.program) (λ (v : Vertex). v.kind ≡ kinds.State → length v.steps ≤ 64) class.machine.vertices
        (λ v has state. has.3) (vertices_have names flat class.machine class.program is)

    transitions_fit : All (TransitionFits class) class.machine.transitions
    transitions_fit =
        all_map (HasTransition names flat.bodies class.program) (TransitionFits class) class.machine.transitions
        (λ t has. (guard_for t.guard has.0, has.1)) (transitions_have names flat class.machine class.program is)

    guards_fit : IsSound names class.program → All (CondFits (length class.vars)) class.program.guards
    guards_fit sound =
        subst (λ n. All (CondFits n) class.program.guards) as_many_vars (All-from_recursion (CondFits (length names.vars)) class.program.guards sound.guards)

    marks_for : IsSound names class.program → AreNames marks
    marks_for sound = (all_map IsName IsShortName marks (λ name named. named.short) sound.marks.names, sound.marks.differ)

    class_fits : IsSound names class.program → HasShape class.machine → IsShortName class.name → AreNames (map (λ (v : VarDecl). v.name) class.vars)
        → ProgramFits class (CanSend setting)
    class_fits sound shape short differ = record {
      machine = record { shape = shape; few_steps = few_steps };
      vertices = vertices_fit;
      transitions = transitions_fit;
      acts = all_map (ActFits (vocabulary names marks)) fits class.program.acts act_for sound.acts;
      guards = guards_fit sound;
      first_act = (empty_act, sound.first, refl);
      names = (short, differ, marks_for sound);
      limits = (for.few_vars, is.limits.acts, is.limits.marks);
    }

-- The program fits the class.
pub program_fits : (setting : Setting) (class : Class) (names : Names) (flat : FlatDraft) → AreNamesFor setting class names
    → IsProgrammed names flat class.machine class.program → HasShape class.machine → IsShortName class.name
    → AreNames (map (λ (v : VarDecl). v.name) class.vars) → ProgramFits class (CanSend setting)
program_fits setting class names flat for is shape short differ =
    class_fits setting class names for flat is (program_sound names flat class.machine class.program is) shape short differ
