-- A draft has one setting, or one first failure, and not both.
use Rattle.std.proofs.Common.{◌≡◌, ◌<◌, ◌⊎◌, inl, inr, ℕ, List, [], length, get_or, Some, sym, ap, ◌∙◌, subst, map}
use Rattle.std.specs.Prelude.{slice_get}
use Rattle.std.proofs.lemmas.Bool.{cases_order}
use Rattle.std.proofs.lemmas.List.{ext_get_or}
use Rattle.std.proofs.lemmas.Option.{slice_get-get_or}
use Rattle.pssm_model.specs.declared.draft_setting.Body.{Body}
use Rattle.pssm_model.specs.declared.draft_setting.Draft.{Draft}
use Rattle.pssm_model.specs.declared.draft_setting.DraftClass.{DraftClass}
use Rattle.pssm_model.specs.declared.draft_setting.FlatDraft.{FlatDraft}
use Rattle.pssm_model.specs.declared.elements.DraftMachine.{DraftMachine}
use Rattle.pssm_model.specs.declared.elements.Shape.{Shape}
use Rattle.pssm_model.specs.Shapes.{IsShapeFault}
use Rattle.pssm_model.proofs.FirstFault.{shape_has_no_fault}
use Rattle.pssm_semantics.specs.declared.setting.Class.{Class}
use Rattle.pssm_semantics.specs.declared.setting.ObjectDecl.{ObjectDecl}
use Rattle.pssm_semantics.specs.declared.setting.Program.{Program}
use Rattle.pssm_semantics.specs.declared.setting.Setting.{Setting}
use Rattle.pssm_semantics.specs.declared.setting.SignalDecl.{SignalDecl}
use Rattle.pssm_semantics.specs.declared.setting.VarDecl.{VarDecl}
use Rattle.pssm_acts.specs.declared.act_fault.ActFault.{ActFault}
use Rattle.pssm_redefine.specs.Flattening.{Flattens}
use Rattle.pssm_redefine.proofs.SameFlat.{one_flat}
use Rattle.pssm_redefine.proofs.OneLaws.{apart, same_fault_of_class}
use Rattle.pssm_bodies.specs.Programs.{IsProgrammed}
use Rattle.pssm_bodies.specs.Faults.{IsBodyFault}
use Rattle.pssm_bodies.proofs.OneOutcome.{one_program, one_body_fault}
use Rattle.pssm_bodies.proofs.Apart.{not_both}
use Rattle.pssm_settings.specs.declared.fault.DraftFault.{DraftFault}
use Rattle.pssm_settings.specs.declared.fault.DraftFault.TheVariants as faults
use Rattle.pssm_settings.specs.Settings.{names_of, var_of, IsLoadedClass, AreLoadedClasses, IsSettingOf}
use Rattle.pssm_settings.specs.Failures.{FailsClass, IsFirstFailure}
use Rattle.pssm_settings.specs.Failures.FailsClass.{redefined, body, shape}
use Rattle.pssm_settings.proofs.OnceWhole.{each_once}
use Rattle.pssm_model.proofs.ShapeFaults.{fault_is_one}

-- ---- one class

abbrev class_from : List ℕ → List VarDecl → DraftMachine → Program → Class
class_from n v m p = record { name = n; vars = v; machine = m; program = p }

class_same : (a b : Class) → a.name ≡ b.name → a.vars ≡ b.vars → a.machine ≡ b.machine → a.program ≡ b.program → a ≡ b
class_same a b name vars machine program =
    ap (λ x. class_from x a.vars a.machine a.program) name ∙ ap (λ x. class_from b.name x a.machine a.program) vars
    ∙ ap (λ x. class_from b.name b.vars x a.program) machine ∙ ap (λ x. class_from b.name b.vars b.machine x) program

module _ (draft : Draft) (number : ℕ) where
  -- One flat draft gives one machine and one program.
  programmed_same : (f g : FlatDraft) (m n : DraftMachine) (p q : Program) → Flattens draft number f → Flattens draft number g
      → IsProgrammed (names_of draft f.vars) f m p → IsProgrammed (names_of draft g.vars) g n q → (m ≡ n) × (p ≡ q)
  programmed_same f g m n p q h k a b =
      one_program (names_of draft f.vars) f m n p q a
      (subst (λ (x : FlatDraft). IsProgrammed (names_of draft x.vars) x n q) (sym (one_flat draft number f g h k)) b)

  -- A number has one loaded class.
  loaded_same : (a b : Class) → IsLoadedClass draft number a → IsLoadedClass draft number b → a ≡ b
  loaded_same a b h k =
      let is = h.is in
      let was = k.is in
      let of : h.of ≡ k.of = cc in
      let flat = one_flat draft number h.flat k.flat h.flattened k.flattened in
      let both = programmed_same h.flat k.flat a.machine b.machine a.program b.program h.flattened k.flattened h.programmed k.programmed in
      class_same a b (h.name ∙ ap (λ (c : DraftClass). c.name) of ∙ sym k.name)
      (h.vars ∙ ap (λ (f : FlatDraft). map var_of f.vars) flat ∙ sym k.vars) both.0 both.1

  -- A program and a fault of a body are apart.
  read_or_not : (f g : FlatDraft) (m : DraftMachine) (p : Program) (place : ℕ) (fault : ActFault) → Flattens draft number f → Flattens draft number g
      → IsProgrammed (names_of draft f.vars) f m p → IsBodyFault (names_of draft g.vars) g place fault → ⊥
  read_or_not f g m p place fault h k a b =
      not_both (names_of draft f.vars) f m p place fault (each_once draft number f h) a
      (subst (λ (x : FlatDraft). IsBodyFault (names_of draft x.vars) x place fault) (sym (one_flat draft number f g h k)) b)

  -- A class that is loaded does not fail.
  loaded_fails : (class : Class) (fault : DraftFault) → IsLoadedClass draft number class → FailsClass draft number fault → ⊥
  loaded_fails class fault h (redefined {fault = why} has) = apart draft number h.flat why h.flattened has
  loaded_fails class fault h (body {fault = why} flat place one flattened has is) =
      read_or_not h.flat flat class.machine class.program place why h.flattened flattened h.programmed has
  loaded_fails class fault h (shape {fault = why} of flat machine program is flattened programmed has) =
      let both = programmed_same h.flat flat class.machine machine class.program program h.flattened flattened h.programmed programmed in
      shape_has_no_fault class.machine h.shape why (subst (λ m. IsShapeFault m why) (sym both.0) has)

  -- A fault of a body is one, and names one body.
  body_same : (f g : FlatDraft) (place other : ℕ) (one two : Body) (why because : ActFault) → Flattens draft number f → Flattens draft number g
      → IsBodyFault (names_of draft f.vars) f place why → IsBodyFault (names_of draft g.vars) g other because
      → slice_get f.bodies place ≡ Some one → slice_get g.bodies other ≡ Some two → faults.Act one.id why ≡ faults.Act two.id because
  body_same f g place other one two why because h k a b is was =
      let flat = one_flat draft number f g h k in
      let both = one_body_fault (names_of draft f.vars) f place other why because a
      (subst (λ (x : FlatDraft). IsBodyFault (names_of draft x.vars) x other because) (sym flat) b) in
      let bodies = ap (λ (x : FlatDraft). x.bodies) flat in
      let there = ap (λ n. slice_get f.bodies n) both.0 in
      let theirs = ap (λ xs. slice_get xs other) bodies in
      let found : Some one ≡ Some two = sym is ∙ there ∙ theirs ∙ was in
      let same : one ≡ two = cc in
      ap (λ (x : Body). faults.Act x.id why) same ∙ ap (λ x. faults.Act two.id x) both.1

  -- A fault of shape is one.
  shape_same : (of to : DraftClass) (f g : FlatDraft) (m n : DraftMachine) (p q : Program) (why because : Shape)
      → slice_get draft.classes number ≡ Some of → slice_get draft.classes number ≡ Some to → Flattens draft number f → Flattens draft number g
      → IsProgrammed (names_of draft f.vars) f m p → IsProgrammed (names_of draft g.vars) g n q → IsShapeFault m why → IsShapeFault n because
      → faults.Shape of.name why ≡ faults.Shape to.name because
  shape_same of to f g m n p q why because is was h k a b x y =
      let found : Some of ≡ Some to = sym is ∙ was in
      let same : of ≡ to = cc in
      let both = programmed_same f g m n p q h k a b in
      ap (λ (c : DraftClass). faults.Shape c.name why) same
      ∙ ap (λ s. faults.Shape to.name s) (fault_is_one n why because (subst (λ z. IsShapeFault z why) both.0 x) y)

  -- A class fails in one way.
  fails_same : (f g : DraftFault) → FailsClass draft number f → FailsClass draft number g → f ≡ g
  fails_same f g (redefined {fault = why} a) (redefined {fault = because} b) = ap faults.Redef (same_fault_of_class draft number why because a b)
  fails_same f g (redefined {fault = why} a) (body flat place one flattened has is) = absurd (apart draft number flat why flattened a)
  fails_same f g (redefined {fault = why} a) (shape of flat machine program is flattened programmed has) = absurd (apart draft number flat why flattened a)
  fails_same f g (body flat place one flattened has is) (redefined {fault = because} b) = absurd (apart draft number flat because flattened b)
  fails_same f g (body {fault = why} flat place one flattened has is) (body {fault = because} flat' place' one' flattened' has' is') =
      body_same flat flat' place place' one one' why because flattened flattened' has has' is is'
  fails_same f g (body {fault = why} flat place one flattened has is) (shape of flat' machine program is' flattened' programmed has') =
      absurd (read_or_not flat' flat machine program place why flattened' flattened programmed has)
  fails_same f g (shape of flat machine program is flattened programmed has) (redefined {fault = because} b) =
      absurd (apart draft number flat because flattened b)
  fails_same f g (shape of flat machine program is flattened programmed has) (body {fault = because} flat' place' one' flattened' has' is') =
      absurd (read_or_not flat flat' machine program place' because flattened flattened' programmed has')
  fails_same f g (shape {fault = why} of flat m p is flattened programmed has) (shape {fault = because} of' flat' m' p' is' flattened' programmed' has') =
      shape_same of of' flat flat' m m' p p' why because is is' flattened flattened' programmed programmed' has has'

-- ---- the whole

abbrev no_class : Class
no_class = class_from [] [] (record { regions = []; vertices = []; transitions = [] }) (record { acts = []; guards = []; marks = [] })

-- The class at each place of the list is loaded.
loaded_at : (draft : Draft) (classes : List Class) (i : ℕ) → i < length classes → AreLoadedClasses draft classes
    → IsLoadedClass draft i (get_or classes i no_class)
loaded_at draft classes i lt h = h.each i (get_or classes i no_class) (slice_get-get_or classes i no_class lt)

classes_same : (draft : Draft) (a b : List Class) → length a ≡ length b → AreLoadedClasses draft a → AreLoadedClasses draft b → a ≡ b
classes_same draft a b all h k =
    ext_get_or no_class a b all
    (λ i lt. loaded_same draft i (get_or a i no_class) (get_or b i no_class) (loaded_at draft a i lt h)
    (loaded_at draft b i (subst (λ n. i < n) all lt) k))

abbrev setting_from : List SignalDecl → List Class → List ObjectDecl → Setting
setting_from s c o = record { signals = s; classes = c; objects = o }

-- A draft has one setting.
pub one_setting : (draft : Draft) (a b : Setting) → IsSettingOf draft a → IsSettingOf draft b → a ≡ b
one_setting draft a b h k =
    ap (λ x. setting_from x a.classes a.objects) (h.signals ∙ sym k.signals)
    ∙ ap (λ x. setting_from b.signals x a.objects) (classes_same draft a.classes b.classes (h.all ∙ sym k.all) h.classes k.classes)
    ∙ ap (λ x. setting_from b.signals b.classes x) (h.objects ∙ sym k.objects)

-- A draft with a setting has no failure.
pub set_or_failed : (draft : Draft) (setting : Setting) (fault : DraftFault) → IsSettingOf draft setting → IsFirstFailure draft fault → ⊥
set_or_failed draft setting fault h f =
    loaded_fails draft f.number (get_or setting.classes f.number no_class) fault
    (loaded_at draft setting.classes f.number (subst (λ n. f.number < n) (sym h.all) f.is) h.classes) f.fails

-- A draft has one first failure.
pub one_failure : (draft : Draft) (f g : DraftFault) → IsFirstFailure draft f → IsFirstFailure draft g → f ≡ g
one_failure draft f g h k = go (cases_order h.number k.number) where
  go : (h.number ≡ k.number) ⊎ ((h.number < k.number) ⊎ (k.number < h.number)) → f ≡ g
  go (inl e) = fails_same draft k.number f g (subst (λ n. FailsClass draft n f) e h.fails) k.fails
  go (inr (inl l)) = let loaded = k.before h.number l in absurd (loaded_fails draft h.number loaded.0 f loaded.1 h.fails)
  go (inr (inr l)) = let loaded = h.before k.number l in absurd (loaded_fails draft k.number loaded.0 g loaded.1 k.fails)
