-- The setting of a model file whose behaviours and guards are short enough has a flat text that reads again.
use Rattle.std.proofs.Common.{◌≡◌, ◌≢◌, ◌≤◌, ◌<◌, ◌+◌, ◌-◌, ◌⊎◌, inl, inr, ℕ, zero, suc, false, List, [], ◌∷◌, ◌++◌, length, map, Option, Some, None, refl, sym, ap, ◌∙◌, subst, arith, slice_get, length-append}
use Rattle.std.specs.Prelude.{All, AllPairs, IsSomeAnd}
use Rattle.std.specs.List.{AllByRecursion, flat_map}
use Rattle.std.specs.Option.{option_map, option_map_or}
use Rattle.std.proofs.lemmas.List.Elements.{recursion_from_All}
use Rattle.std.proofs.lemmas.Option.{slice_get_within, get_or_from_slice_get}
use Rattle.pssm_spelling.specs.Spelling.{IsName}
use Rattle.pssm_model.specs.declared.ids.ActId.{ActId}
use Rattle.pssm_model.specs.declared.ids.RegionId.{RegionId}
use Rattle.pssm_model.specs.declared.ids.SignalId.{SignalId}
use Rattle.pssm_model.specs.declared.ids.TransId.{TransId}
use Rattle.pssm_model.specs.declared.ids.VertexId.{VertexId}
use Rattle.pssm_model.specs.declared.elements.DraftMachine.{DraftMachine}
use Rattle.pssm_model.specs.declared.elements.Element.TheVariants as elements
use Rattle.pssm_model.specs.declared.elements.FaultPlace.TheVariants as places
use Rattle.pssm_model.specs.declared.elements.Guard.{Guard}
use Rattle.pssm_model.specs.declared.elements.Guard.TheVariants.{Always, Otherwise, When}
use Rattle.pssm_model.specs.declared.elements.Owner.{Owner}
use Rattle.pssm_model.specs.declared.elements.Owner.TheVariants as owners
use Rattle.pssm_model.specs.declared.elements.Transition.{Transition}
use Rattle.pssm_model.specs.declared.elements.Vertex.{Vertex}
use Rattle.pssm_model.specs.declared.elements.VertexKind.{VertexKind}
use Rattle.pssm_model.specs.declared.elements.VertexKind.TheVariants as kinds
use Rattle.pssm_model.specs.declared.draft_setting.Body.{Body}
use Rattle.pssm_model.specs.declared.draft_setting.Draft.{Draft}
use Rattle.pssm_model.specs.declared.draft_setting.DraftClass.{DraftClass}
use Rattle.pssm_model.specs.declared.draft_setting.DraftObject.{DraftObject}
use Rattle.pssm_model.specs.declared.draft_setting.DraftSignal.{DraftSignal}
use Rattle.pssm_model.specs.declared.draft_setting.DraftVar.{DraftVar}
use Rattle.pssm_model.specs.declared.draft_setting.FlatDraft.{FlatDraft}
use Rattle.pssm_model.specs.DraftSettings.{IsInRange}
use Rattle.pssm_model.specs.Forest.{owner_of, HasKind, vertex_at}
use Rattle.pssm_model.specs.Shapes.{OwnsRegion, OwnsVertex, HasShape}
use Rattle.pssm_model.specs.WellFormed.{KeepsModelRules}
use Rattle.pssm_model.specs.WellFormed.Breaks.{E01_top, E11}
use Rattle.pssm_semantics.specs.declared.setting.Class.{Class}
use Rattle.pssm_semantics.specs.declared.setting.Names.{Names}
use Rattle.pssm_semantics.specs.declared.setting.ObjectDecl.{ObjectDecl}
use Rattle.pssm_semantics.specs.declared.setting.Program.{Program}
use Rattle.pssm_semantics.specs.declared.setting.Setting.{Setting}
use Rattle.pssm_semantics.specs.declared.setting.SignalDecl.{SignalDecl}
use Rattle.pssm_semantics.specs.declared.setting.VarDecl.{VarDecl}
use Rattle.pssm_semantics.specs.declared.tree.Act.{Act}
use Rattle.pssm_semantics.specs.declared.tree.Stmt.{Stmt}
use Rattle.pssm_semantics.specs.Fits.{ActFits}
use Rattle.pssm_semantics.specs.Proper.{HasSignal}
use Rattle.pssm_acts.specs.ActGrammar.{SpellsAct}
use Rattle.pssm_acts.specs.ReadBack.{AreNames as AreFreeNames}
use Rattle.pssm_acts.specs.Vocabularies.{vocabulary}
use Rattle.pssm_acts.proofs.Unchanged.{act_alone}
use Rattle.pssm_bodies.specs.Slots.{text_at, guard_slots}
use Rattle.pssm_bodies.specs.Readings.{first_program, number_of}
use Rattle.pssm_bodies.specs.Programs.{NumbersAct, NumbersSteps, without, NumbersVertex, NumbersTransition, AllNumbered}
use Rattle.pssm_bodies.specs.Programs.{steps as numbers_steps}
use Rattle.pssm_bodies.specs.inner.Through.{guards_count}
use Rattle.pssm_bodies.proofs.FitLaws.{program_sound}
use Rattle.pssm_bodies.proofs.GuardCounts.{vertices_guards, transitions_guards}
use Rattle.pssm_settings.specs.Names.{AreDistinctNames, HasNames}
use Rattle.pssm_settings.specs.Settings.{signal_of, var_of, object_of, IsLoadedClass, IsSettingOf}
use Rattle.pssm_settings.specs.Settings.{names_of as draft_names}
use Rattle.pssm_settings.proofs.FlatLists.{each_append, each_at, each_from, each_mapped, each_with}
use Rattle.pssm_settings.proofs.FlatNames.{flat_names}
use Rattle.pssm_settings.proofs.FlatVars.{vars_all}
use Rattle.pssm_settings.proofs.OnceWhole.{each_once}
use Rattle.pssm_settings.proofs.ProperClasses.{class_fits}
use Rattle.pssm_settings.proofs.ProperLists.{map_map, same_told, after_numbered}
use Rattle.pssm_settings.proofs.ProperSettings.{setting_proper}
use Rattle.pssm_flat.specs.Text.{names_of}
use Rattle.pssm_flat.specs.Flat.{AllBehind, IsNewName, AreNames, next_number, IsNextSignal, AreAscending, IsInteger, IsLabel, IsRegionOwner, IsVertexOwner, IsPassive, IsWrittenVertex, IsWrittenTransition, IsWrittenMachine, IsNumbered, IsWrittenClass, IsFlat}
use Rattle.pssm_flat.proofs.NumberLaws.{spells_nothing}
use Rattle.pssm_load.specs.ReadBack.{ActIsShort, GuardIsShort, ClassIsShort, SpellsShort}
use Rattle.pssm_load.proofs.DraftParts.{is_state_kind, AreAbove, HasWrittenParts}
use Rattle.pssm_load.proofs.FlatElements.{IsFlatVertex, flat_vertices, flat_triggers_ascend}
use Rattle.pssm_load.proofs.FlatPrograms.{ActHolds, GuardHolds, CanBeNumbered, is_numbered}
use Rattle.pssm_load.proofs.ReadAgain.{HaveNames}

-- ---- lists

both_each : {X : Type 0} (P Q R : X → Type 0) (xs : List X) → ((x : X) → P x → Q x → R x) → AllByRecursion P xs → AllByRecursion Q xs → AllByRecursion R xs
both_each P Q R [] f ps qs = tt
both_each P Q R (x ∷ xs) f ps qs = (f x ps.0 qs.0, both_each P Q R xs f ps.1 qs.1)

seam_at : {X : Type 0} (xs : List X) (x : X) (rest : List X) → slice_get (xs ++ x ∷ rest) (length xs) ≡ Some x
seam_at [] x rest = refl
seam_at (y ∷ xs) x rest = seam_at xs x rest

-- ---- names

-- No two of the names are alike.
abbrev Apart : List (List ℕ) → Type 0
Apart [] = Unit {0}
Apart (x ∷ xs) = AllByRecursion (λ (y : List ℕ). x ≢ y) xs × Apart xs

apart_from : (names : List (List ℕ)) → AllPairs (λ (a b : List ℕ). a ≢ b) names → Apart names
apart_from [] pairs = tt
apart_from (x ∷ xs) pairs = (
  each_from (λ (y : List ℕ). x ≢ y) xs (λ k y at. first k y at),
  apart_from xs (λ i j d before within. pairs (suc i) (suc j) d (omega (arith, before)) (omega (arith, within))),
) where
  first : (k : ℕ) (y : List ℕ) → slice_get xs k ≡ Some y → x ≢ y
  first k y at =
      let less = slice_get_within xs k y at in
      let found = get_or_from_slice_get xs k y [] at in
      subst (λ (z : List ℕ). x ≢ z) found (pairs 0 (suc k) [] (omega arith) (omega (arith, less)))

names_behind : (before names : List (List ℕ)) → AllByRecursion (λ (n : List ℕ). AllByRecursion (λ (other : List ℕ). other ≢ n) before) names → Apart names
    → AllByRecursion IsName names
    → AllBehind IsNewName before names
names_behind before [] new apart named = tt
names_behind before (x ∷ xs) new apart named = (
  record { name_is = named.0; new = new.0 },
  names_behind (before ++ x ∷ []) xs
      (both_each (λ (n : List ℕ). AllByRecursion (λ (other : List ℕ). other ≢ n) before) (λ (n : List ℕ). x ≢ n) (λ (n : List ℕ). AllByRecursion (λ (other : List ℕ). other ≢ n) (before ++ x ∷ [])) xs
      (λ n old other. each_append (λ (o : List ℕ). o ≢ n) before (x ∷ []) old (other, tt)) new.1 apart.0)
      apart.1 named.1,
)

none_before : (names : List (List ℕ)) → AllByRecursion (λ (n : List ℕ). AllByRecursion (λ (other : List ℕ). other ≢ n) []) names
none_before [] = tt
none_before (x ∷ xs) = (tt, none_before xs)

-- Distinct names can stand in lines.
new_names : (names : List (List ℕ)) → AreDistinctNames names → AreNames names
new_names names distinct = names_behind [] names (none_before names) (apart_from names distinct.apart) (recursion_from_All IsName names distinct.names_are)

free_names : (names : List (List ℕ)) → AreDistinctNames names → AreFreeNames names
free_names names distinct = record { each = distinct.names_are; differ = distinct.apart }

-- ---- signals

next_after : (before : List SignalId) (g : SignalId) → next_number (before ++ g ∷ []) ≡ g.0 + 1
next_after before g =
    let size : length (before ++ g ∷ []) - 1 ≡ length before = omega (arith, length-append before (g ∷ [])) in
    ap (λ n. option_map_or (λ (x : SignalId). x.0 + 1) (slice_get (before ++ g ∷ []) n) 0) size
    ∙ ap (λ (o : Option SignalId). option_map_or (λ (x : SignalId). x.0 + 1) o 0) (seam_at before g [])

ascend_behind : (count : ℕ) (before gs : List SignalId) → AreAbove (next_number before) gs → AllByRecursion (λ (g : SignalId). g.0 < count) gs
    → AllBehind (IsNextSignal count) before gs
ascend_behind count before [] above known = tt
ascend_behind count before (g ∷ gs) above known =
    (record { above = above.0; known = known.0 }, ascend_behind count (before ++ g ∷ []) gs (subst (λ n. AreAbove n gs) (sym (next_after before g)) above.1) known.1)

ascending : (count : ℕ) (gs : List SignalId) → AreAbove 0 gs → AllByRecursion (λ (g : SignalId). g.0 < count) gs → AreAscending count gs
ascending count gs above known = ascend_behind count [] gs above known

-- ---- behaviours that are not given

nothing_spelled : (names : Names) (marks noted : List (List ℕ)) (text : List ℕ) (act : Act) → text ≡ [] → SpellsAct names marks text act noted → act.stmts ≡ []
nothing_spelled names marks noted text act none spells =
    let alone = act_alone names marks [] act (record { stmts = [] }) noted marks (subst (λ (t : List ℕ). SpellsAct names marks t act noted) none spells) (spells_nothing names marks) in
    ap (λ (a : Act). a.stmts) alone.0

empty_number : (p : Program) (act : Act) → act.stmts ≡ [] → (number_of p act).0 ≡ 0
empty_number p act none = ap (λ (stmts : List Stmt). (number_of p (record { stmts = stmts })).0) none

no_steps : {names : Names} {bodies : List Body} {p : Program} {from to : List ActId} {q : Program} → NumbersSteps names bodies p from to q → from ≡ [] → to ≡ []
no_steps without e = refl
no_steps (numbers_steps acts noted spelled numbered) e = absurd cc

module _ (names : Names) (bodies : List Body) (none : text_at bodies 0 ≡ []) where
  still_act : (p : Program) (from to : ActId) (q : Program) → NumbersAct names bodies p from to q → from.0 ≡ 0 → to.0 ≡ 0
  still_act p from to q n e =
      ap (λ (a : ActId). a.0) n.number ∙ empty_number p n.act (nothing_spelled names p.marks n.noted (text_at bodies from.0) n.act (ap (text_at bodies) e ∙ none) n.spelled)

  -- What is known of a vertex is known of it with the numbers of its behaviours.
  numbered_vertex : (p : Program) (from to : Vertex) (q : Program) → NumbersVertex names bodies p from to q → IsFlatVertex from → IsFlatVertex to
  numbered_vertex p from to q n is = record {
    label = subst IsLabel (sym n.label) is.label;
    still = λ no. let quiet = is.still (ap is_state_kind (sym n.kind) ∙ no) in record {
      entry = still_act p from.entry to.entry n.entered n.entry quiet.entry;
      exit = still_act n.entered from.exit to.exit n.left n.exit quiet.exit;
      steps = no_steps n.doing quiet.steps;
      defers = n.defers ∙ quiet.defers;
    };
    ascending = subst (AreAbove 0) (sym n.defers) is.ascending;
  }

  numbered_transition : (p : Program) (from to : Transition) (q : Program) → NumbersTransition names bodies p from to q → AreAbove 0 from.triggers
      → AreAbove 0 to.triggers
  numbered_transition p from to q n is = subst (AreAbove 0) (sym n.triggers) is

-- ---- counts of guards

few_guards : (ts : List Transition) → guards_count ts ≤ length ts
few_guards [] = omega arith
few_guards (t ∷ ts) =
    let rest = few_guards ts in
    let size = length-append (guard_slots t.guard) (flat_map (λ (x : Transition). guard_slots x.guard) ts) in
    let one = at_most_one t.guard in
    omega (arith, rest, size, one) where
      at_most_one : (g : Guard) → length (guard_slots g) ≤ 1
      at_most_one Always = omega arith
      at_most_one Otherwise = omega arith
      at_most_one (When g) = omega arith

same_count : {E : Type 0} (Step : Program → E → E → Program → Type 0) (p : Program) (xs ys : List E) (q : Program) → AllNumbered Step p xs ys q
    → length xs ≡ length ys
same_count Step p [] [] q n = refl
same_count Step p (x ∷ xs) (y ∷ ys) q n = ap suc (same_count Step n.0 xs ys q n.2)
same_count Step p [] (y ∷ ys) q n = absurd n
same_count Step p (x ∷ xs) [] q n = absurd n

-- ---- owners and passive vertices

kind_within : (m : DraftMachine) (v : VertexId) (kind : VertexKind) → HasKind m v kind → v.0 < length m.vertices
kind_within m v kind has = go (slice_get m.vertices v.0) refl has where
  go : (o : Option Vertex) → slice_get m.vertices v.0 ≡ o → option_map (λ (x : Vertex). x.kind) o ≡ Some kind → v.0 < length m.vertices
  go None at has = absurd cc
  go (Some x) at has = slice_get_within m.vertices v.0 x at

no_number : (n : ℕ) → ((n ≢ 0) → ⊥) → n ≡ 0
no_number zero h = refl
no_number (suc n) h = absurd (h (λ e. omega (arith, e)))

no_list : {X : Type 0} (xs : List X) → ((xs ≢ []) → ⊥) → xs ≡ []
no_list [] h = refl
no_list (x ∷ xs) h = absurd (h (λ e. absurd cc))

module _ (m : DraftMachine) (keeps : KeepsModelRules m) where
  final_passive : (v : VertexId) (x : Vertex) → vertex_at m v ≡ Some x → x.kind ≡ kinds.Final → IsPassive x
  final_passive v x at is = record {
    entry = no_number x.entry.0 (λ some. wrong (inl some));
    exit = no_number x.exit.0 (λ some. wrong (inr (inl some)));
    steps = no_list x.steps (λ some. wrong (inr (inr (inl some))));
    defers = no_list x.defers (λ some. wrong (inr (inr (inr some))));
  } where
    has_kind : HasKind m v kinds.Final
    has_kind = ap (λ (o : Option Vertex). option_map (λ (y : Vertex). y.kind) o) at ∙ ap Some is

    wrong : (x.entry.0 ≢ 0) ⊎ (x.exit.0 ≢ 0) ⊎ (x.steps ≢ []) ⊎ (x.defers ≢ []) → ⊥
    wrong some =
        keeps (places.At (elements.Vertex v)) 11
        (E11 (has_kind, inr (inr (subst (λ (o : Option Vertex). IsSomeAnd o (λ y. (y.entry.0 ≢ 0) ⊎ (y.exit.0 ≢ 0) ⊎ (y.steps ≢ []) ⊎ (y.defers ≢ []))) (sym at) some))))

  no_owner : (r : RegionId) → owner_of m (owners.Region r) ≡ Some owners.Top → m.regions ≡ [] → ⊥
  no_owner r at none =
      let nothing : slice_get m.regions r.0 ≡ None = ap (λ (regions : List Owner). slice_get regions r.0) none in
      let both : None ≡ Some owners.Top = sym nothing ∙ at in
      absurd cc

  has_region : (regions : List Owner) → m.regions ≡ regions → 0 < length regions
  has_region [] none = absurd (keeps places.Top 1 (E01_top (λ r at. no_owner r at none)))
  has_region (r ∷ rest) some = omega arith

  as_state_or_passive : (v : VertexId) (x : Vertex) → vertex_at m v ≡ Some x → (is_state_kind x.kind ≡ false → IsPassive x) → (kind : VertexKind)
      → x.kind ≡ kind → (x.kind ≡ kinds.State) ⊎ IsPassive x
  as_state_or_passive v x at still kinds.State e = inl e
  as_state_or_passive v x at still kinds.Final e = inr (final_passive v x at e)
  as_state_or_passive v x at still _ e = inr (still (ap is_state_kind e))

few_when : (x : Vertex) → (x.kind ≡ kinds.State → length x.steps ≤ 64) → (x.kind ≡ kinds.State) ⊎ IsPassive x → length x.steps ≤ 64
few_when x few (inl is) = few is
few_when x few (inr passive) = let none = ap length passive.steps in omega (arith, none)

-- ---- the setting

module _ (draft : Draft) (setting : Setting) (range : IsInRange draft) (named : HasNames draft) (is : IsSettingOf draft setting) (parts : HasWrittenParts draft) where
  object_names : map (λ (o : ObjectDecl). o.name) setting.objects ≡ map (λ (o : DraftObject). o.name) draft.objects
  object_names = ap (map (λ (o : ObjectDecl). o.name)) is.objects ∙ map_map (λ (o : ObjectDecl). o.name) object_of draft.objects

  signal_names : map (λ (s : SignalDecl). s.name) setting.signals ≡ map (λ (s : DraftSignal). s.name) draft.signals
  signal_names = ap (map (λ (s : SignalDecl). s.name)) is.signals ∙ map_map (λ (s : SignalDecl). s.name) signal_of draft.signals

  class_names : map (λ (c : Class). c.name) setting.classes ≡ map (λ (c : DraftClass). c.name) draft.classes
  class_names =
      same_told (λ (c : Class). c.name) (λ (c : DraftClass). c.name) setting.classes draft.classes is.all
      (λ k class at. let loaded = is.classes.each k class at in (loaded.of, loaded.is, loaded.name))

  module _ (k : ℕ) (x : Class) (loaded : IsLoadedClass draft k x) (keeps : KeepsModelRules x.machine) (short : ClassIsShort (names_of setting x) x) where
    abbrev flat : FlatDraft
    flat = loaded.flat

    abbrev names : Names
    names = draft_names draft flat.vars

    var_names : map (λ (v : VarDecl). v.name) x.vars ≡ map (λ (v : DraftVar). v.name) flat.vars
    var_names = ap (map (λ (v : VarDecl). v.name)) loaded.vars ∙ map_map (λ (v : VarDecl). v.name) var_of flat.vars

    distinct : AreDistinctNames (map (λ (v : DraftVar). v.name) flat.vars)
    distinct = flat_names draft k flat range named loaded.flattened

    names_same : names ≡ names_of setting x
    names_same =
        ap (λ (vars : List (List ℕ)). let n : Names = record { vars = vars; objects = map (λ (o : DraftObject). o.name) draft.objects; signals = map signal_of draft.signals } in n) (sym var_names)
        ∙ ap (λ (objects : List (List ℕ)). let n : Names = record { vars = map (λ (v : VarDecl). v.name) x.vars; objects = objects; signals = map signal_of draft.signals } in n) (sym object_names)
        ∙ ap (λ (signals : List SignalDecl). let n : Names = record { vars = map (λ (v : VarDecl). v.name) x.vars; objects = map (λ (o : ObjectDecl). o.name) setting.objects; signals = signals } in n) (sym is.signals)

    have : HaveNames names
    have = record {
      vars = free_names (map (λ (v : DraftVar). v.name) flat.vars) distinct;
      objects = free_names (map (λ (o : DraftObject). o.name) draft.objects) named.objects;
      signals = subst AreFreeNames (sym (map_map (λ (s : SignalDecl). s.name) signal_of draft.signals)) (free_names (map (λ (s : DraftSignal). s.name) draft.signals) named.signals);
    }

    guards_few : length x.program.guards ≤ 65536
    guards_few =
        let programmed = loaded.programmed in
        let before : length programmed.middle.guards ≡ 0 = ap length (vertices_guards names flat.bodies first_program flat.machine.vertices x.machine.vertices programmed.middle programmed.vertices) in
        let counted = transitions_guards names flat.bodies programmed.middle flat.machine.transitions x.machine.transitions x.program programmed.transitions in
        let few = few_guards flat.machine.transitions in
        let same = same_count (NumbersTransition names flat.bodies) programmed.middle flat.machine.transitions x.machine.transitions x.program programmed.transitions in
        let limit = loaded.shape.limits.transitions in
        omega (arith, before, counted, few, same, limit)

    can : CanBeNumbered names x.program
    can =
        let sound = program_sound names flat x.machine x.program loaded.programmed in
        let short' = subst (λ (n : Names). ClassIsShort n x) (sym names_same) short in
        record {
          acts = both_each (ActFits (vocabulary names x.program.marks)) (ActIsShort names x.program.marks) (ActHolds names x.program.marks) x.program.acts (λ act fits is_short. (fits, is_short.short, is_short.shallow)) sound.acts short'.acts;
          guards = each_with (GuardIsShort names) (GuardHolds names) x.program.guards (λ guard is_short. (is_short.short, is_short.shallow)) short'.guards;
          marks = sound.marks;
          few_acts = loaded.programmed.limits.acts;
          few_marks = loaded.programmed.limits.marks;
          few_guards = guards_few;
        }

    numbered : IsNumbered (names_of setting x) x.machine x.program
    numbered = subst (λ (n : Names). IsNumbered n x.machine x.program) names_same (is_numbered names have x.program can flat x.machine loaded.programmed)

    no_text : text_at flat.bodies 0 ≡ []
    no_text =
        let once = each_once draft k flat loaded.flattened in
        ap (λ (o : Option Body). option_map_or (λ (b : Body). b.text) o []) once.first ∙ once.no_text

    flat_facts : AllByRecursion IsFlatVertex x.machine.vertices
    flat_facts =
        after_numbered (NumbersVertex names flat.bodies) IsFlatVertex IsFlatVertex (λ before from to behind one all. numbered_vertex names flat.bodies no_text before from to behind one all)
        first_program flat.machine.vertices x.machine.vertices loaded.programmed.middle loaded.programmed.vertices (flat_vertices draft parts k flat loaded.flattened)

    trigger_facts : AllByRecursion (λ (t : Transition). AreAbove 0 t.triggers) x.machine.transitions
    trigger_facts =
        after_numbered (NumbersTransition names flat.bodies) (λ (t : Transition). AreAbove 0 t.triggers) (λ (t : Transition). AreAbove 0 t.triggers)
        (λ before from to behind one all. numbered_transition names flat.bodies no_text before from to behind one all)
        loaded.programmed.middle flat.machine.transitions x.machine.transitions x.program loaded.programmed.transitions (flat_triggers_ascend draft parts k flat loaded.flattened)

    abbrev FewSteps : Vertex → Type 0
    FewSteps v = v.kind ≡ kinds.State → length v.steps ≤ 64

    abbrev DefersKnown : Vertex → Type 0
    DefersKnown v = All (HasSignal setting) v.defers

    abbrev TriggersKnown : Transition → Type 0
    TriggersKnown t = All (HasSignal setting) t.triggers

    known_signals : (gs : List SignalId) → All (HasSignal setting) gs → AllByRecursion (λ (g : SignalId). g.0 < length setting.signals) gs
    known_signals gs all = recursion_from_All (HasSignal setting) gs all

    vertex_written : (n : ℕ) (v : Vertex) → slice_get x.machine.vertices n ≡ Some v → IsWrittenVertex (length setting.signals) v
    vertex_written n v at =
        let id : VertexId = record { 0 = n } in
        let fits = class_fits draft setting range named is k x loaded in
        let facts = each_at IsFlatVertex x.machine.vertices n v flat_facts at in
        let few = each_at FewSteps x.machine.vertices n v (recursion_from_All FewSteps x.machine.vertices fits.program.machine.few_steps) at in
        let signals = each_at DefersKnown x.machine.vertices n v (recursion_from_All DefersKnown x.machine.vertices fits.defers) at in
        let state = as_state_or_passive x.machine keeps id v at facts.still v.kind refl in
        record {
          owner = owner_written id v.owner (loaded.shape.vertices id v at).0;
          label = facts.label;
          as_state = state;
          few_steps = few_when v few state;
          defers = ascending (length setting.signals) v.defers facts.ascending (known_signals v.defers signals);
        } where
          owner_written : (w : VertexId) (owner : Owner) → OwnsVertex x.machine w owner → IsVertexOwner owner
          owner_written w owners.Top owns = owns
          owner_written w (owners.Region r) owns = (let less = owns.1 in let limit = loaded.shape.limits.regions in omega (arith, less, limit))
          owner_written w (owners.State s) owns = (let less = kind_within x.machine s kinds.State owns.1 in let limit = loaded.shape.limits.vertices in omega (arith, less, limit))

    transition_written : (n : ℕ) (t : Transition) → slice_get x.machine.transitions n ≡ Some t → IsWrittenTransition (length setting.signals) t
    transition_written n t at =
        let id : TransId = record { 0 = n } in
        let fits = class_fits draft setting range named is k x loaded in
        let ends = loaded.shape.ends id t at in
        let limit = loaded.shape.limits.vertices in
        let signals = each_at TriggersKnown x.machine.transitions n t (recursion_from_All TriggersKnown x.machine.transitions fits.triggers) at in
        let above = each_at (λ (y : Transition). AreAbove 0 y.triggers) x.machine.transitions n t trigger_facts at in
        let source = ends.0 in
        let target = ends.1 in
        record {
          source = omega (arith, source, limit);
          target = omega (arith, target, limit);
          triggers = ascending (length setting.signals) t.triggers above (known_signals t.triggers signals);
        }

    region_written : (n : ℕ) (owner : Owner) → slice_get x.machine.regions n ≡ Some owner → IsRegionOwner owner
    region_written n owner at = go owner (let id : RegionId = record { 0 = n } in (loaded.shape.regions id owner at).0) where
      go : (owner : Owner) → OwnsRegion x.machine owner → IsRegionOwner owner
      go owners.Top owns = tt
      go (owners.Region r) owns = owns
      go (owners.State s) owns = (let less = kind_within x.machine s kinds.State owns in let limit = loaded.shape.limits.vertices in omega (arith, less, limit))

    machine_written : IsWrittenMachine (length setting.signals) x.machine
    machine_written =
        let limits = loaded.shape.limits in
        let regions = limits.regions in
        let vertices = limits.vertices in
        let transitions = limits.transitions in
        record {
          some_region = has_region x.machine keeps x.machine.regions refl;
          few_regions = omega (arith, regions);
          few_vertices = omega (arith, vertices);
          few_transitions = omega (arith, transitions);
          regions = each_from IsRegionOwner x.machine.regions region_written;
          vertices = each_from (IsWrittenVertex (length setting.signals)) x.machine.vertices vertex_written;
          transitions = each_from (IsWrittenTransition (length setting.signals)) x.machine.transitions transition_written;
        }

    firsts : AllByRecursion (λ (v : VarDecl). IsInteger v.first) x.vars
    firsts =
        subst (AllByRecursion (λ (v : VarDecl). IsInteger v.first)) (sym loaded.vars)
        (each_mapped (λ (v : VarDecl). IsInteger v.first) var_of flat.vars
        (vars_all draft k flat range loaded.flattened (λ (v : DraftVar). IsInteger v.first)
        (λ j v at. of_class k j loaded.flattened.of v loaded.flattened.is at) (λ number j other v there far at. of_class number j other v there at))) where
          of_class : (number j : ℕ) (c : DraftClass) (v : DraftVar) → slice_get draft.classes number ≡ Some c → slice_get c.vars j ≡ Some v → IsInteger v.first
          of_class number j c v there at = each_at _ c.vars j v (each_at _ draft.classes number c parts.firsts there) at

    class_written : IsWrittenClass (names_of setting x) x
    class_written = record {
      var_names = subst AreNames (sym var_names) (new_names (map (λ (v : DraftVar). v.name) flat.vars) distinct);
      few_vars = (class_fits draft setting range named is k x loaded).program.limits.0;
      firsts = firsts;
      machine = machine_written;
      numbered = numbered;
    }

  -- The setting has a flat text.
  pub setting_flat : AllByRecursion (λ (x : Class). KeepsModelRules x.machine) setting.classes → SpellsShort setting → IsFlat setting
  setting_flat keep short =
      let proper = setting_proper draft setting range named is in
      record {
        written = record {
          signal_names = subst AreNames (sym signal_names) (new_names (map (λ (s : DraftSignal). s.name) draft.signals) named.signals);
          few_signals = proper.limits.2;
          counts = recursion_from_All (λ (g : SignalDecl). g.count ≤ 8) setting.signals proper.counts;
          class_names = subst AreNames (sym class_names) (new_names (map (λ (c : DraftClass). c.name) draft.classes) named.classes);
          few_classes = proper.limits.0;
          object_names = subst AreNames (sym object_names) (new_names (map (λ (o : DraftObject). o.name) draft.objects) named.objects);
          few_objects = proper.limits.1;
          placed = recursion_from_All (λ (o : ObjectDecl). o.class < length setting.classes) setting.objects proper.objects;
          classes = each_from (λ (x : Class). IsWrittenClass (names_of setting x) x) setting.classes
              (λ k x at. class_written k x (is.classes.each k x at) (each_at (λ (c : Class). KeepsModelRules c.machine) setting.classes k x keep at)
              (each_at (λ (c : Class). ClassIsShort (names_of setting c) c) setting.classes k x short at));
        };
        shape = each_from (λ (x : Class). HasShape x.machine) setting.classes (λ k x at. (is.classes.each k x at).shape);
      }
