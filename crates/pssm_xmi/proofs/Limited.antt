-- How many signals, classes, objects and parameters a file without faults has.
use Rattle.std.proofs.Common.{◌≡◌, ◌≤◌, ◌&&◌, ◌++◌, ℕ, Bool, true, false, List, [], ◌∷◌, length, Option, Some, None, refl, sym, ap, subst, ◌∙◌, inl, inr, ⊎_elim, arith, length-append}
use Rattle.std.specs.Prelude.{codes, is_some, if◌then◌else◌}
use Rattle.pssm_roles.specs.declared.role.Role.{Role}
use Rattle.pssm_roles.specs.declared.role.Role.TheVariants as role
use Rattle.pssm_roles.specs.Ids.{meant_by}
use Rattle.pssm_roles.specs.References.{references}
use Rattle.pssm_roles.specs.Roles.{HasRole}
use Rattle.pssm_profile.specs.Counts.{references_count}
use Rattle.pssm_profile.specs.Flaws.{IsParameterOf}
use Rattle.pssm_profile.specs.Flaws.HasFlaw.{by_role}
use Rattle.pssm_profile.specs.Flaws.PassesLimit.{kind as past_kind, parameters as past_parameters}
use Rattle.pssm_profile.specs.Kinds.{IsActiveClass, IsInstance}
use Rattle.pssm_profile.specs.Kinds.Kind.{signals as kind_signals, classes as kind_classes, objects as kind_objects}
use Rattle.pssm_profile.specs.declared.flaw.Flaw.TheVariants as flaws
use Rattle.pssm_profile.specs.declared.flaw.Unread.TheVariants as unread
use Rattle.pssm_numbering.specs.Numbering.{ModelFile, role_at, parent_of, is_number, numbers, children_with, signals, classes, is_signal, is_class, is_instance, is_parameter}
use Rattle.pssm_numbering.specs.Meanings.{meant, first_meant, if_with, class_of_instance, instances}
use Rattle.pssm_xmi.specs.Faultless.{IsFaultless}
use Rattle.pssm_xmi.proofs.Tests.{both, opposite, some_there}
use Rattle.pssm_xmi.proofs.Numbers.{that_number, is_that_number}
use Rattle.pssm_xmi.proofs.Known.{OneRole, known, role_is}
use Rattle.pssm_xmi.proofs.Referring.{no_more_references}
use Rattle.pssm_xmi.proofs.Behaviours.{class_cases, one_at_most}
use Rattle.pssm_xmi.proofs.Counting.{at_most_so_many, filter_both}

-- ---- roles by their tests

signal_is : (r : Role) → is_signal r ≡ true → r ≡ role.Signal
signal_is role.Signal is = refl
signal_is _ is = absurd (cc)

parameter_is : (r : Role) → is_parameter r ≡ true → r ≡ role.Parameter
parameter_is role.Parameter is = refl
parameter_is _ is = absurd (cc)

instance_is : (r : Role) → is_instance r ≡ true → r ≡ role.Instance
instance_is role.Instance is = refl
instance_is _ is = absurd (cc)

-- ---- elements that are meant

-- what is kept for its role has it
pub kept_with : (is : Role → Bool) (file : ModelFile) (found : Option ℕ) (c : ℕ) → if_with is file found ≡ Some c → (found ≡ Some c) × (is (role_at file c) ≡ true)
kept_with is file None c kept = absurd (cc)
kept_with is file (Some m) c kept = by_kind (is (role_at file m)) refl kept where
  by_kind : (b : Bool) → is (role_at file m) ≡ b → (if b then Some m else None) ≡ Some c → (Some m ≡ Some c) × (is (role_at file c) ≡ true)
  by_kind true here same = let own : m ≡ c = cc in (same, ap (λ (k : ℕ). is (role_at file k)) (sym own) ∙ here)
  by_kind false other same = absurd (cc)

-- the first of references
first_of : (file : ModelFile) (refs : List (ℕ × List ℕ)) (c : ℕ) → first_meant file.doc refs ≡ Some c
    → (r : ℕ × List ℕ) × (more : List (ℕ × List ℕ)) × (refs ≡ r ∷ more) × (meant_by file.doc r.1 ≡ Some c)
first_of file [] c is = absurd (cc)
first_of file (r ∷ more) c is = (r, more, refl, is)

-- One of at most one is the first.
only_one : {X : Type 0} (xs before behind : List X) (x : X) → xs ≡ before ++ x ∷ behind → length xs ≤ 1 → xs ≡ x ∷ behind
only_one xs [] behind x is few = is
only_one xs (y ∷ before) behind x is few =
    let long = ap length is ∙ length-append (y ∷ before) (x ∷ behind) in absurd (omega (arith, long, few))

module _ (one_role : OneRole) (file : ModelFile) (fine : IsFaultless file) where
  has_role : (is : Role → Bool) (r : Role) (n : ℕ) → is role.Passed ≡ false → is (role_at file n) ≡ true → role_at file n ≡ r → HasRole file.doc n r
  has_role is r n other here same = subst (HasRole file.doc n) same (known one_role file fine.roles is n other here)

  lacks_role : (is : Role → Bool) (r : Role) (n : ℕ) → is r ≡ true → is (role_at file n) ≡ false → HasRole file.doc n r → ⊥
  lacks_role is r n here other has = opposite (is r) here (ap is (sym (role_is one_role file fine.roles n r has)) ∙ other)

  -- ---- signals

  pub few_signals : length (signals file) ≤ 256
  few_signals =
      at_most_so_many (λ n. HasRole file.doc n role.Signal) (λ n. is_signal (role_at file n))
      (λ n here. has_role is_signal role.Signal n refl here (signal_is (role_at file n) here))
      (λ n other has. lacks_role is_signal role.Signal n refl other has)
      256 (length file.doc)
      (λ n has before. fine.profile n (flaws.Unsupported unread.TooMany) (by_role role.Signal has (past_kind kind_signals has before)))

  -- ---- parameters

  pub few_parameters : (p : ℕ) → length (children_with is_parameter file p) ≤ 8
  few_parameters p =
      subst (λ (xs : List ℕ). length xs ≤ 8) (sym (filter_both (λ n. is_number p (parent_of file n)) (λ n. is_parameter (role_at file n)) (numbers file)))
      (at_most_so_many (IsParameterOf file.doc p) (λ n. is_parameter (role_at file n) && is_number p (parent_of file n)) yes no 8 (length file.doc)
      (λ n is before. fine.profile n (flaws.Unsupported unread.TooMany) (by_role role.Parameter is.0 (past_parameters p is before))))
    where
      yes : (n : ℕ) → (is_parameter (role_at file n) && is_number p (parent_of file n)) ≡ true → IsParameterOf file.doc p n
      yes n here =
          let tests = both (is_parameter (role_at file n)) (is_number p (parent_of file n)) here in
          (has_role is_parameter role.Parameter n refl tests.0 (parameter_is (role_at file n) tests.0), that_number p (parent_of file n) tests.1)

      no : (n : ℕ) → (is_parameter (role_at file n) && is_number p (parent_of file n)) ≡ false → IsParameterOf file.doc p n → ⊥
      no n other is =
          opposite (is_parameter (role_at file n) && is_number p (parent_of file n))
          (ap (λ (b : Bool). b && is_number p (parent_of file n)) (ap is_parameter (role_is one_role file fine.roles n role.Parameter is.0))
          ∙ is_that_number p (parent_of file n) is.1) other

  -- ---- classes

  pub class_is : (n : ℕ) → is_class (role_at file n) ≡ true → IsActiveClass file.doc n
  class_is n here =
      ⊎_elim
      (λ same. inl (has_role is_class role.ActiveClass n refl here same))
      (λ same. inr (has_role is_class role.ClassMachine n refl here same))
      (class_cases (role_at file n) here)

  is_that_class : (n : ℕ) → IsActiveClass file.doc n → is_class (role_at file n) ≡ true
  is_that_class n is =
      ⊎_elim
      (λ has. ap is_class (role_is one_role file fine.roles n role.ActiveClass has))
      (λ has. ap is_class (role_is one_role file fine.roles n role.ClassMachine has)) is

  pub few_classes : length (classes file) ≤ 64
  few_classes =
      at_most_so_many (IsActiveClass file.doc) (λ n. is_class (role_at file n)) class_is
      (λ n other is. opposite (is_class (role_at file n)) (is_that_class n is) other)
      64 (length file.doc)
      (λ n is before. ⊎_elim
      (λ has. fine.profile n (flaws.Unsupported unread.TooMany) (by_role role.ActiveClass has (past_kind kind_classes (inl has) before)))
      (λ has. fine.profile n (flaws.Unsupported unread.TooMany) (by_role role.ClassMachine has (past_kind kind_classes (inr has) before))) is)

  -- ---- instance specifications

  few_classifiers : (n : ℕ) → HasRole file.doc n role.Instance → length (references file.doc n (codes "classifier")) ≤ 1
  few_classifiers n has =
      let le = no_more_references file.doc n (codes "classifier") in
      let one = one_at_most (references_count file.doc n (codes "classifier"))
      (λ several. fine.profile n (flaws.Unsupported unread.Several) (by_role role.Instance has ((has, refl), several))) in
      omega (arith, le, one)

  object_is : (n : ℕ) → (is_instance (role_at file n) && is_some (class_of_instance file n)) ≡ true → IsInstance file.doc n
  object_is n here =
      let tests = both (is_instance (role_at file n)) (is_some (class_of_instance file n)) here in
      let class = some_there (class_of_instance file n) tests.1 in
      let kept = kept_with is_class file (meant (codes "classifier") file n) class.0 class.1 in
      let first = first_of file (references file.doc n (codes "classifier")) class.0 kept.0 in
      record {
        instance = has_role is_instance role.Instance n refl tests.0 (instance_is (role_at file n) tests.0);
        before = [];
        at = first.0.0;
        id = first.0.1;
        behind = first.1;
        classifier = first.2;
        class = class.0;
        meant = first.3;
        active = class_is class.0 kept.1;
      }

  is_that_object : (n : ℕ) → IsInstance file.doc n → (is_instance (role_at file n) && is_some (class_of_instance file n)) ≡ true
  is_that_object n is =
      let only = only_one (references file.doc n (codes "classifier")) is.before is.behind (is.at, is.id) is.classifier (few_classifiers n is.instance) in
      let found : meant (codes "classifier") file n ≡ Some is.class = ap (first_meant file.doc) only ∙ is.meant in
      let kept : class_of_instance file n ≡ Some is.class =
      ap (if_with is_class file) found ∙ ap (λ (b : Bool). if b then Some is.class else None) (is_that_class is.class is.active) in
      ap (λ (b : Bool). b && is_some (class_of_instance file n)) (ap is_instance (role_is one_role file fine.roles n role.Instance is.instance)) ∙ ap is_some kept

  pub few_instances : length (instances file) ≤ 64
  few_instances =
      subst (λ (xs : List ℕ). length xs ≤ 64) (sym (filter_both (λ n. is_some (class_of_instance file n)) (λ n. is_instance (role_at file n)) (numbers file)))
      (at_most_so_many (IsInstance file.doc) (λ n. is_instance (role_at file n) && is_some (class_of_instance file n)) object_is
      (λ n other is. opposite (is_instance (role_at file n) && is_some (class_of_instance file n)) (is_that_object n is) other)
      64 (length file.doc)
      (λ n is before. fine.profile n (flaws.Unsupported unread.TooMany) (by_role role.Instance is.instance (past_kind kind_objects is before))))
