-- A setting that is read is proper.
use Rattle.std.proofs.Common.{◌≡◌, inl, inr, ℕ, suc, ◌+◌, ◌≤◌, ◌<◌, List, [], ◌∷◌, ◌++◌, length, Option, Some, None, refl, sym, ap, subst, ◌∙◌, arith}
use Rattle.std.specs.Prelude.{All, map, slice_get}
use Rattle.std.specs.Option.{option_map, option_map_or}
use Rattle.std.specs.List.{AllByRecursion}
use Rattle.std.proofs.lemmas.List.{length-append}
use Rattle.std.proofs.lemmas.List.Elements.{All-from_recursion}
use Rattle.std.proofs.lemmas.Option.{slice_get-get_or}
use Rattle.pssm_model.specs.declared.ids.ActId.{ActId}
use Rattle.pssm_model.specs.declared.ids.SignalId.{SignalId}
use Rattle.pssm_model.specs.declared.elements.Vertex.{Vertex}
use Rattle.pssm_model.specs.declared.elements.VertexKind.TheVariants as kinds
use Rattle.pssm_model.specs.declared.elements.Transition.{Transition}
use Rattle.pssm_model.specs.declared.elements.Guard.{Guard}
use Rattle.pssm_model.specs.declared.elements.Guard.TheVariants.{Always, Otherwise, When}
use Rattle.pssm_model.specs.Shapes.{HasShape}
use Rattle.pssm_semantics.specs.declared.entry.ObjectId.{ObjectId}
use Rattle.pssm_semantics.specs.declared.setting.Names.{Names}
use Rattle.pssm_semantics.specs.declared.setting.Program.{Program}
use Rattle.pssm_semantics.specs.declared.setting.SignalDecl.{SignalDecl}
use Rattle.pssm_semantics.specs.declared.setting.ObjectDecl.{ObjectDecl}
use Rattle.pssm_semantics.specs.declared.setting.VarDecl.{VarDecl}
use Rattle.pssm_semantics.specs.declared.setting.Class.{Class}
use Rattle.pssm_semantics.specs.declared.setting.Setting.{Setting}
use Rattle.pssm_semantics.specs.Fits.{CondFits, StmtFits, ActFits}
use Rattle.pssm_semantics.specs.Proper.{HasAct, GuardFits, VertexFits, TransitionFits, IsShortName, AreNames, HasSignal, CanSend, ClassFits, IsProper}
use Rattle.pssm_spelling.specs.Spelling.{IsName}
use Rattle.pssm_acts.specs.ActText.{act_text, cond_text}
use Rattle.pssm_acts.specs.Vocabularies.{vocabulary, signal_count}
use Rattle.pssm_acts.specs.Vocabularies.{CanSend as CanSendAmong}
use Rattle.pssm_acts.proofs.FitLaws.{spelled_act_fits}
use Rattle.pssm_acts.proofs.TokenLaws.{spelled_fits}
use Rattle.pssm_acts.proofs.MarkLaws.{stmts_grow}
use Rattle.pssm_acts.proofs.Each.{all_push, all_with}
use Rattle.pssm_flat.specs.Text.{names_of}
use Rattle.pssm_flat.specs.Flat.{Leads, AreNames as AreNewNames, IsNextSignal, AreAscending, AllBehind, IsNextAct, LeadsAct, LeadsGuard, LeadsVertex, LeadsTransition, first_program, IsNumbered, IsWrittenVertex, IsWrittenTransition, IsWrittenClass, IsFlat}
use Rattle.pssm_flat.proofs.NameLaws.{names_differ, names_are}
use Rattle.pssm_flat.proofs.Programs.{GoesOnTo, same_on, on_and_on, act_on, steps_on, leads_on, vertex_on, transition_on, first_is_empty, some_acts, empty_act}
use Rattle.pssm_acts.proofs.MarkNames.{AreMarks, no_marks, tokens_named, stmts_marks}
use Rattle.pssm_acts.proofs.Wider.{act_wider}

-- ---- a program as it is numbered

pub record FitsProgram (names : Names) (p : Program) : Type 0 where
  pub acts : AllByRecursion (ActFits (vocabulary names p.marks)) p.acts
  pub guards : AllByRecursion (CondFits (length names.vars)) p.guards
  pub marks : AreMarks p.marks
  pub few_acts : length p.acts ≤ 32768
  pub few_marks : length p.marks ≤ 32768

first_fits : (names : Names) → FitsProgram names first_program
first_fits names = record {
  acts = ((All-from_recursion (StmtFits (vocabulary names [])) [] tt, omega arith), tt);
  guards = tt;
  marks = no_marks;
  few_acts = omega arith;
  few_marks = omega arith;
}

next_fits : (names : Names) (p : Program) (a : ActId) (q : Program) → IsNextAct names p a q → FitsProgram names p → FitsProgram names q
next_fits names p a q next fits =
    let text = act_text names next.marks next.act in
    let behaviour = next.spelled.spelled in
    let grows = stmts_grow behaviour.spelled in
    let few : AllByRecursion (ActFits (vocabulary names next.marks)) p.acts =
    all_with (ActFits (vocabulary names p.marks)) (ActFits (vocabulary names next.marks)) p.acts
    (act_wider (length names.vars) (length p.marks) (length next.marks) (CanSendAmong names) (CanSendAmong names) grows (λ to signal count can. can)) fits.acts in
    subst (FitsProgram names) (sym next.behind_is) (record {
      acts = all_push (ActFits (vocabulary names next.marks)) p.acts next.act few (spelled_act_fits names p.marks text next.act next.marks behaviour);
      guards = fits.guards;
      marks = stmts_marks behaviour.spelled (tokens_named text) fits.marks;
      few_acts = (let less = next.few_acts in omega (arith, less, length-append p.acts (next.act ∷ [])));
      few_marks = next.few_marks;
    })

act_fits : (names : Names) (p : Program) (a : ActId) (q : Program) → LeadsAct names p a q → FitsProgram names p → FitsProgram names q
act_fits names p a q (inl none) fits = subst (FitsProgram names) none.1 fits
act_fits names p a q (inr next) fits = next_fits names p a q next fits

guard_fits : (names : Names) (p : Program) (g : Guard) (q : Program) → LeadsGuard names p g q → FitsProgram names p → FitsProgram names q
guard_fits names p Always q same fits = subst (FitsProgram names) same fits
guard_fits names p Otherwise q same fits = subst (FitsProgram names) same fits
guard_fits names p (When g) q next fits =
    subst (FitsProgram names) (sym next.behind_is) (record {
      acts = fits.acts;
      guards = all_push (CondFits (length names.vars)) p.guards next.cond fits.guards (spelled_fits names (cond_text names next.cond) next.cond next.spelled.spelled);
      marks = fits.marks;
      few_acts = fits.few_acts;
      few_marks = fits.few_marks;
    })

leads_keep : {X : Type 0} (P : Program → Type 0) (Step : Program → X → Program → Type 0) → ((p : Program) (x : X) (q : Program) → Step p x q → P p → P q) → (p : Program) (xs : List X) (q : Program) → Leads Step p xs q → P p → P q
leads_keep P Step keep p [] q same fits = subst P same fits
leads_keep P Step keep p (x ∷ xs) q leads fits = leads_keep P Step keep leads.0 xs q leads.2 (keep p x leads.0 leads.1 fits)

vertex_fits : (names : Names) (p : Program) (v : Vertex) (q : Program) → LeadsVertex names p v q → FitsProgram names p → FitsProgram names q
vertex_fits names p v q leads fits =
    leads_keep (FitsProgram names) (LeadsAct names) (act_fits names) leads.left v.steps q leads.steps
    (act_fits names leads.entered v.exit leads.left leads.exit (act_fits names p v.entry leads.entered leads.entry fits))

transition_fits : (names : Names) (p : Program) (t : Transition) (q : Program) → LeadsTransition names p t q → FitsProgram names p → FitsProgram names q
transition_fits names p t q leads fits = act_fits names leads.guarded t.effect q leads.effect (guard_fits names p t.guard leads.guarded leads.guard fits)

pub numbered_fits : (names : Names) (x : Class) → IsNumbered names x.machine x.program → FitsProgram names x.program
numbered_fits names x numbered =
    leads_keep (FitsProgram names) (LeadsTransition names) (transition_fits names) numbered.middle x.machine.transitions x.program numbered.transitions
    (leads_keep (FitsProgram names) (LeadsVertex names) (vertex_fits names) first_program x.machine.vertices numbered.middle numbered.vertices (first_fits names))

-- ---- the numbers of a machine are those of its program

module _ (names : Names) (x : Class) (first : GoesOnTo first_program x.program) where
  has_act : (p : Program) (a : ActId) (q : Program) → LeadsAct names p a q → GoesOnTo q x.program → HasAct x a
  has_act p a q (inl none) on = let some = some_acts x.program first in omega (arith, some, none.0)
  has_act p a q (inr next) on =
      let all : length x.program.acts ≡ length (p.acts ++ next.act ∷ []) + length on.acts =
      ap length on.acts_are ∙ length-append q.acts on.acts ∙ ap (λ (r : Program). length r.acts + length on.acts) next.behind_is in
      omega (arith, all, next.number, length-append p.acts (next.act ∷ []))

  has_guard : (p : Program) (g : Guard) (q : Program) → LeadsGuard names p g q → GoesOnTo q x.program → GuardFits x g
  has_guard p Always q same on = tt
  has_guard p Otherwise q same on = tt
  has_guard p (When g) q next on =
      let all : length x.program.guards ≡ length (p.guards ++ next.cond ∷ []) + length on.guards =
      ap length on.guards_are ∙ length-append q.guards on.guards ∙ ap (λ (r : Program). length r.guards + length on.guards) next.behind_is in
      omega (arith, all, next.number_is, length-append p.guards (next.cond ∷ []))

  -- each item fits where each step makes it so
  each_fits : {X : Type 0} (P : X → Type 0) (Step : Program → X → Program → Type 0) → ((p : Program) (y : X) (q : Program) → Step p y q → GoesOnTo p q)
      → ((p : Program) (y : X) (q : Program) → Step p y q → GoesOnTo q x.program → P y) → (p : Program) (ys : List X) (q : Program) → Leads Step p ys q → GoesOnTo q x.program → AllByRecursion P ys
  each_fits P Step on fits p [] q leads later = tt
  each_fits P Step on fits p (y ∷ ys) q leads later =
      (fits p y leads.0 leads.1 (on_and_on leads.0 q x.program (leads_on Step on leads.0 ys q leads.2) later), each_fits P Step on fits leads.0 ys q leads.2 later)

  vertex_has : (p : Program) (v : Vertex) (q : Program) → LeadsVertex names p v q → GoesOnTo q x.program → VertexFits x v
  vertex_has p v q leads later =
      let left = on_and_on leads.left q x.program (steps_on names leads.left v.steps q leads.steps) later in
      let entered = on_and_on leads.entered leads.left x.program (act_on names leads.entered v.exit leads.left leads.exit) left in (
        has_act p v.entry leads.entered leads.entry entered,
        has_act leads.entered v.exit leads.left leads.exit left,
        All-from_recursion (HasAct x) v.steps (each_fits (HasAct x) (LeadsAct names) (act_on names) has_act leads.left v.steps q leads.steps later),
      )

  transition_has : (p : Program) (t : Transition) (q : Program) → LeadsTransition names p t q → GoesOnTo q x.program → TransitionFits x t
  transition_has p t q leads later = (
    has_guard p t.guard leads.guarded leads.guard (on_and_on leads.guarded q x.program (act_on names leads.guarded t.effect q leads.effect) later),
    has_act leads.guarded t.effect q leads.effect later,
  )

-- ---- names

all_short : (names : List (List ℕ)) → AllByRecursion IsName names → AllByRecursion IsShortName names
all_short names all = all_with IsName IsShortName names (λ name is. is.short) all

proper_names : (names : List (List ℕ)) → AreNewNames names → AreNames names
proper_names names are = (All-from_recursion IsShortName names (all_short names (names_are names are)), names_differ names are)

-- ---- signals

known_signals : (count : ℕ) (seen new : List SignalId) → AllBehind (IsNextSignal count) seen new → AllByRecursion (λ (g : SignalId). g.0 < count) new
known_signals count seen [] fit = tt
known_signals count seen (g ∷ new) fit = (fit.0.known, known_signals count (seen ++ g ∷ []) new fit.1)

module _ (s : Setting) where
  has_signals : (gs : List SignalId) → AreAscending (length s.signals) gs → All (HasSignal s) gs
  has_signals gs are = All-from_recursion (HasSignal s) gs (known_signals (length s.signals) [] gs are)

  map_count : {X Y : Type 0} (f : X → Y) (xs : List X) → length (map f xs) ≡ length xs
  map_count f [] = refl
  map_count f (y ∷ xs) = ap suc (map_count f xs)

  count_is : (signals : List SignalDecl) (g n : ℕ) → g < length signals → n ≡ signal_count signals g → option_map (λ (d : SignalDecl). d.count) (slice_get signals g) ≡ Some n
  count_is signals g n lt e = by_place (slice_get signals g) refl where
    by_place : (o : Option SignalDecl) → slice_get signals g ≡ o → option_map (λ (d : SignalDecl). d.count) o ≡ Some n
    by_place (Some d) at = ap Some (sym (e ∙ ap (λ o. option_map_or (λ (x : SignalDecl). x.count) o 0) at))
    by_place None at = absurd (none signals g lt at) where
      none : (signals : List SignalDecl) (g : ℕ) → g < length signals → slice_get signals g ≡ None → ⊥
      none [] g lt at = omega (arith, lt)
      none (d ∷ signals) g lt at = let both : None ≡ Some _ = sym at ∙ slice_get-get_or (d ∷ signals) g d lt in cc

  can_send : (x : Class) (to : Option ObjectId) (signal : SignalId) (count : ℕ) → CanSendAmong (names_of s x) to signal count → CanSend s to signal count
  can_send x None signal count can = (tt, count_is s.signals signal.0 count can.1 can.2)
  can_send x (Some o) signal count can =
      ((let less = can.0 in omega (arith, less, map_count (λ (d : ObjectDecl). d.name) s.objects)), count_is s.signals signal.0 count can.1 can.2)

  -- ---- classes

  class_fits : (x : Class) → IsName x.name → IsWrittenClass (names_of s x) x → HasShape x.machine → ClassFits s x
  class_fits x name w shape =
      let names = names_of s x in
      let few_vars : length names.vars ≡ length x.vars = map_count (λ (v : VarDecl). v.name) x.vars in
      let fits = numbered_fits names x w.numbered in
      let middle_on = leads_on (LeadsVertex names) (vertex_on names) first_program x.machine.vertices w.numbered.middle w.numbered.vertices in
      let later = leads_on (LeadsTransition names) (transition_on names) w.numbered.middle x.machine.transitions x.program w.numbered.transitions in
      let first = on_and_on first_program w.numbered.middle x.program middle_on later in
      record {
        program = record {
          machine = record {
            shape = shape;
            few_steps = All-from_recursion (λ (v : Vertex). v.kind ≡ kinds.State → length v.steps ≤ 64) x.machine.vertices
                (all_with (IsWrittenVertex (length s.signals)) (λ (v : Vertex). v.kind ≡ kinds.State → length v.steps ≤ 64) x.machine.vertices (λ v is state. is.few_steps) w.machine.vertices);
          };
          vertices = All-from_recursion (VertexFits x) x.machine.vertices (each_fits names x first (VertexFits x) (LeadsVertex names) (vertex_on names) (vertex_has names x first) first_program x.machine.vertices w.numbered.middle w.numbered.vertices later);
          transitions = All-from_recursion (TransitionFits x) x.machine.transitions
              (each_fits names x first (TransitionFits x) (LeadsTransition names) (transition_on names) (transition_has names x first) w.numbered.middle x.machine.transitions x.program w.numbered.transitions (same_on x.program x.program refl));
          acts = All-from_recursion (ActFits (record { vars = length x.vars; marks = length x.program.marks; Sends = CanSend s })) x.program.acts
              (all_with (ActFits (vocabulary names x.program.marks)) (ActFits (record { vars = length x.vars; marks = length x.program.marks; Sends = CanSend s })) x.program.acts
              (λ act is. subst (λ n. ActFits (record { vars = n; marks = length x.program.marks; Sends = CanSend s }) act) few_vars
              (act_wider (length names.vars) (length x.program.marks) (length x.program.marks) (CanSendAmong names) (CanSend s) (omega arith) (can_send x) act is)) fits.acts);
          guards = All-from_recursion (CondFits (length x.vars)) x.program.guards (subst (λ n. AllByRecursion (CondFits n) x.program.guards) few_vars fits.guards);
          first_act = (empty_act, first_is_empty x.program first, refl);
          names = (name.short, proper_names (map (λ (v : VarDecl). v.name) x.vars) w.var_names, (All-from_recursion IsShortName x.program.marks (all_short x.program.marks fits.marks.names), fits.marks.differ));
          limits = (w.few_vars, fits.few_acts, fits.few_marks);
        };
        defers = All-from_recursion (λ (v : Vertex). All (HasSignal s) v.defers) x.machine.vertices
            (all_with (IsWrittenVertex (length s.signals)) (λ (v : Vertex). All (HasSignal s) v.defers) x.machine.vertices (λ v is. has_signals v.defers is.defers) w.machine.vertices);
        triggers = All-from_recursion (λ (t : Transition). All (HasSignal s) t.triggers) x.machine.transitions
            (all_with (IsWrittenTransition (length s.signals)) (λ (t : Transition). All (HasSignal s) t.triggers) x.machine.transitions (λ t is. has_signals t.triggers is.triggers) w.machine.transitions);
      }

  classes_fit : (xs : List Class) → AllByRecursion IsName (map (λ (x : Class). x.name) xs) → AllByRecursion (λ (x : Class). IsWrittenClass (names_of s x) x) xs → AllByRecursion (λ (x : Class). HasShape x.machine) xs
      → AllByRecursion (ClassFits s) xs
  classes_fit [] named written shape = tt
  classes_fit (x ∷ xs) named written shape = (class_fits x named.0 written.0 shape.0, classes_fit xs named.1 written.1 shape.1)

-- What has a flat text is proper.
pub flat_proper : (s : Setting) → IsFlat s → IsProper s
flat_proper s flat =
    let w = flat.written in
    record {
      classes = All-from_recursion (ClassFits s) s.classes (classes_fit s s.classes (names_are (map (λ (x : Class). x.name) s.classes) w.class_names) w.classes flat.shape);
      objects = All-from_recursion (λ (d : ObjectDecl). d.class < length s.classes) s.objects w.placed;
      counts = All-from_recursion (λ (d : SignalDecl). d.count ≤ 8) s.signals w.counts;
      names = (proper_names (map (λ (g : SignalDecl). g.name) s.signals) w.signal_names, proper_names (map (λ (x : Class). x.name) s.classes) w.class_names, proper_names (map (λ (o : ObjectDecl). o.name) s.objects) w.object_names);
      limits = (w.few_classes, w.few_objects, w.few_signals);
    }
