-- The names in the draft of a file without faults.
use Rattle.std.proofs.Common.{◌≡◌, ◌&&◌, ◌==◌, ℕ, Bool, true, false, not, List, [], ◌∷◌, All, map, length, refl, sym, ap, subst, ◌∙◌, arith}
use Rattle.std.specs.Prelude.{codes, nat_le, is_some, bytes_eq}
use Rattle.std.specs.List.{list_any, AllByRecursion}
use Rattle.std.proofs.lemmas.List.Elements.{All-weaker, filter_passes}
use Rattle.pssm_spelling.specs.Spelling.{IsName, is_name_text}
use Rattle.pssm_model.specs.declared.draft_setting.DraftClass.{DraftClass}
use Rattle.pssm_model.specs.declared.draft_setting.DraftObject.{DraftObject}
use Rattle.pssm_model.specs.declared.draft_setting.DraftSignal.{DraftSignal}
use Rattle.pssm_model.specs.declared.draft_setting.DraftVar.{DraftVar}
use Rattle.pssm_xml.specs.Elements.{value_or_empty}
use Rattle.pssm_roles.specs.Roles.{AreRolesOf}
use Rattle.pssm_roles.specs.declared.role.Role.{Role}
use Rattle.pssm_values.specs.Names.{reserved_words}
use Rattle.pssm_profile.specs.Counts.{references_count}
use Rattle.pssm_profile.specs.Faults.{HasNoProfileFault}
use Rattle.pssm_profile.specs.Kinds.{Kind, IsOfKind, name_of}
use Rattle.pssm_profile.specs.Kinds.Kind.{signals as kind_signals, classes as kind_classes, objects as kind_objects}
use Rattle.pssm_numbering.specs.Numbering.{ModelFile, role_at, with_role, children_with, signals, classes, is_signal, is_class, is_instance, is_attribute}
use Rattle.pssm_numbering.specs.Meanings.{can_name_variable, has_plain_type, has_plain_default, is_variable, variables}
use Rattle.pssm_numbering.specs.Meanings.{is_true, class_of_instance, instances, concrete_classes}
use Rattle.pssm_drafting.specs.Drafts.{draft_of, signal_at, variable_at, class_at, object_with, object_at, objects_of}
use Rattle.pssm_settings.specs.Names.{AreDistinctNames, HasNames}
use Rattle.pssm_named.proofs.ListLaws.{Rise, kept_rise, firsts_rise, made_distinct, each_made}
use Rattle.pssm_named.proofs.KindLaws.{named, differ}
use Rattle.pssm_named.proofs.RoleLaws.{are_signals, are_classes, are_concrete, are_instances}

-- ---- variables

left_of : (a b : Bool) → (a && b) ≡ true → a ≡ true
left_of true b so = refl
left_of false b so = so

right_of : (a b : Bool) → (a && b) ≡ true → b ≡ true
right_of true b so = so
right_of false b so = absurd cc

-- What may be called so has a name.
variable_named : (name : List ℕ) → can_name_variable name ≡ true → IsName name
variable_named name so =
    let front = left_of (is_name_text name && nat_le (length name) 64) (not (list_any (bytes_eq name) reserved_words)) so in
    let few = right_of (is_name_text name) (nat_le (length name) 64) front in
    record { spelled = left_of (is_name_text name) (nat_le (length name) 64) front; short = grind (arith, few) }

module _ (file : ModelFile) where
  own_name : (n : ℕ) → is_variable file n ≡ true → IsName (variable_at file n).name
  own_name n so = variable_named (value_or_empty file.doc n (codes "name")) (right_of is can two) where
    is : Bool
    is = is_attribute (role_at file n)

    can : Bool
    can = can_name_variable (value_or_empty file.doc n (codes "name"))

    alone : Bool
    alone = references_count file.doc n (codes "association") == 0

    two : (is && can) ≡ true
    two =
        let four = left_of (is && can && alone && has_plain_type file n) (has_plain_default file n) so in
        left_of (is && can) alone (left_of (is && can && alone) (has_plain_type file n) four)

  -- The variables of a class have names.
  class_vars : (c : ℕ) → AllByRecursion (λ (v : DraftVar). IsName v.name) (class_at file c).vars
  class_vars c =
      each_made (λ (v : DraftVar). IsName v.name) (variable_at file) (variables file c)
      (All-weaker (λ (n : ℕ). is_variable file n ≡ true) (λ (n : ℕ). IsName (variable_at file n).name) own_name (variables file c)
      (filter_passes (is_variable file) (children_with is_attribute file c)))

  all_vars : AllByRecursion (λ (c : DraftClass). AllByRecursion (λ (v : DraftVar). IsName v.name) c.vars) (draft_of file).classes
  all_vars = each_made (λ (c : DraftClass). AllByRecursion (λ (v : DraftVar). IsName v.name) c.vars) (class_at file) (classes file) (λ k d less. class_vars _)

  -- ---- signals, classes and objects

  with_role_rise : (is : Role → Bool) → Rise (with_role is file)
  with_role_rise is = firsts_rise (λ (n : ℕ). is (role_at file n)) (length file.doc)

  module _ (roles : AreRolesOf file.doc file.roles) (faultless : HasNoProfileFault file.doc) where
    -- Names of a kind of elements are distinct, in what is made of each.
    kind_distinct : {X : Type 0} (kind : Kind) (name_in : X → List ℕ) (make : ℕ → X) (ns : List ℕ) → ((n : ℕ) → name_in (make n) ≡ name_of file.doc n)
        → All (IsOfKind file.doc kind) ns → Rise ns → AreDistinctNames (map name_in (map make ns))
    kind_distinct kind name_in make ns keeps are rise =
        made_distinct (IsOfKind file.doc kind) (name_of file.doc) (named file.doc faultless kind) (differ file.doc faultless kind)
        name_in make ns keeps are rise

    signal_names : AreDistinctNames (map (λ (s : DraftSignal). s.name) (draft_of file).signals)
    signal_names =
        kind_distinct kind_signals (λ (s : DraftSignal). s.name) (signal_at file) (signals file) (λ n. refl) (are_signals file roles) (with_role_rise is_signal)

    class_names : AreDistinctNames (map (λ (c : DraftClass). c.name) (draft_of file).classes)
    class_names =
        kind_distinct kind_classes (λ (c : DraftClass). c.name) (class_at file) (classes file) (λ n. refl) (are_classes file roles) (with_role_rise is_class)

    -- The objects of instance specifications.
    instance_names : AreDistinctNames (map (λ (o : DraftObject). o.name) (map (object_at file) (instances file)))
    instance_names =
        kind_distinct kind_objects (λ (o : DraftObject). o.name) (object_at file) (instances file) (λ n. refl) (are_instances file roles)
        (kept_rise (λ (n : ℕ). is_some (class_of_instance file n)) (with_role is_instance file) (with_role_rise is_instance))

    -- An object of each class has its name.
    concrete_names : AreDistinctNames (map (λ (o : DraftObject). o.name) (map (λ c. object_with file c c) (concrete_classes file)))
    concrete_names =
        kind_distinct kind_classes (λ (o : DraftObject). o.name) (λ c. object_with file c c) (concrete_classes file) (λ n. refl) (are_concrete file roles)
        (kept_rise (λ (c : ℕ). not (is_true (codes "isAbstract") file c)) (classes file) (with_role_rise is_class))

    object_names : AreDistinctNames (map (λ (o : DraftObject). o.name) (objects_of file))
    object_names = by_instances (instances file) refl where
      by_instances : (ns : List ℕ) → instances file ≡ ns → AreDistinctNames (map (λ (o : DraftObject). o.name) (objects_of file))
      by_instances [] is =
          let same : objects_of file ≡ map (λ c. object_with file c c) (concrete_classes file) = rw is refl in
          subst (λ (os : List DraftObject). AreDistinctNames (map (λ (o : DraftObject). o.name) os)) (sym same) concrete_names
      by_instances (n ∷ more) is =
          let same : objects_of file ≡ map (object_at file) (n ∷ more) = rw is refl in
          subst (λ (os : List DraftObject). AreDistinctNames (map (λ (o : DraftObject). o.name) os)) (sym (same ∙ ap (map (object_at file)) (sym is)))
          instance_names

    -- ---- the draft

    pub has_names : HasNames (draft_of file)
    has_names = record { signals = signal_names; classes = class_names; objects = object_names; vars = all_vars }
