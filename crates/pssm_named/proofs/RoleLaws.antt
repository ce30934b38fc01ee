-- What stands in the lists of a file is of its kind.
use Rattle.std.proofs.Common.{◌≡◌, ◌⊎◌, ℕ, Bool, true, false, List, [], ◌∷◌, All, Option, Some, None, refl, sym, ap, subst, ◌∙◌, inl, inr, ⊎_elim}
use Rattle.std.specs.Prelude.{codes, slice_get, is_some, unwrap_or, if◌then◌else◌}
use Rattle.std.proofs.lemmas.List.Elements.{All-weaker, All-filter, filter_passes}
use Rattle.pssm_roles.specs.Ids.{meant_by}
use Rattle.pssm_roles.specs.References.{references}
use Rattle.pssm_roles.specs.Roles.{HasRole, AreRolesOf}
use Rattle.pssm_roles.specs.declared.role.Role.{Role}
use Rattle.pssm_roles.specs.declared.role.Role.TheVariants as role
use Rattle.pssm_profile.specs.Kinds.{IsActiveClass, IsInstance}
use Rattle.pssm_numbering.specs.Numbering.{ModelFile, role_at, with_role, numbers, signals, classes, is_signal, is_class, is_instance}
use Rattle.pssm_numbering.specs.Meanings.{meant, first_meant, if_with, class_of_instance, instances, concrete_classes}

-- ---- roles by their tests

signal_is : (r : Role) → is_signal r ≡ true → r ≡ role.Signal
signal_is role.Signal is = refl
signal_is _ is = absurd cc

instance_is : (r : Role) → is_instance r ≡ true → r ≡ role.Instance
instance_is role.Instance is = refl
instance_is _ is = absurd cc

class_is : (r : Role) → is_class r ≡ true → (r ≡ role.ActiveClass) ⊎ (r ≡ role.ClassMachine)
class_is role.ActiveClass is = inl refl
class_is role.ClassMachine is = inr refl
class_is _ is = absurd cc

-- ---- what is meant

there : {X : Type 0} (o : Option X) → is_some o ≡ true → (x : X) × (o ≡ Some x)
there None some = absurd cc
there (Some x) some = (x, refl)

-- what is kept for its role has it
kept_with : (is : Role → Bool) (file : ModelFile) (found : Option ℕ) (c : ℕ) → if_with is file found ≡ Some c → (found ≡ Some c) × (is (role_at file c) ≡ true)
kept_with is file None c kept = absurd cc
kept_with is file (Some m) c kept = by_kind (is (role_at file m)) refl kept where
  by_kind : (b : Bool) → is (role_at file m) ≡ b → (if b then Some m else None) ≡ Some c → (Some m ≡ Some c) × (is (role_at file c) ≡ true)
  by_kind true here same = let own : m ≡ c = cc in (same, ap (λ (k : ℕ). is (role_at file k)) (sym own) ∙ here)
  by_kind false other same = absurd cc

first_of : (file : ModelFile) (refs : List (ℕ × List ℕ)) (c : ℕ) → first_meant file.doc refs ≡ Some c
    → (r : ℕ × List ℕ) × (more : List (ℕ × List ℕ)) × (refs ≡ r ∷ more) × (meant_by file.doc r.1 ≡ Some c)
first_of file [] c is = absurd cc
first_of file (r ∷ more) c is = (r, more, refl, is)

-- ---- the lists of a file

module _ (file : ModelFile) (roles : AreRolesOf file.doc file.roles) where
  -- What has a role other than that of what is passed over is an element, and it is its role.
  known : (is : Role → Bool) (n : ℕ) → is role.Passed ≡ false → is (role_at file n) ≡ true → HasRole file.doc n (role_at file n)
  known is n other here = by_place (slice_get file.roles n) refl where
    by_place : (o : Option Role) → slice_get file.roles n ≡ o → HasRole file.doc n (role_at file n)
    by_place None none =
        let wrong : is role.Passed ≡ true = ap is (sym (ap (λ (o : Option Role). unwrap_or o role.Passed) none)) ∙ here in absurd cc
    by_place (Some r) at = subst (HasRole file.doc n) (sym (ap (λ (o : Option Role). unwrap_or o role.Passed) at)) (roles.roles_are n r at)

  as_signal : (n : ℕ) → is_signal (role_at file n) ≡ true → HasRole file.doc n role.Signal
  as_signal n here = subst (HasRole file.doc n) (signal_is (role_at file n) here) (known is_signal n refl here)

  as_class : (n : ℕ) → is_class (role_at file n) ≡ true → IsActiveClass file.doc n
  as_class n here =
      let own = known is_class n refl here in
      ⊎_elim (λ same. inl (subst (HasRole file.doc n) same own)) (λ same. inr (subst (HasRole file.doc n) same own)) (class_is (role_at file n) here)

  as_instance : (n : ℕ) → is_instance (role_at file n) ≡ true → is_some (class_of_instance file n) ≡ true → IsInstance file.doc n
  as_instance n here classed =
      let class = there (class_of_instance file n) classed in
      let kept = kept_with is_class file (meant (codes "classifier") file n) class.0 class.1 in
      let first = first_of file (references file.doc n (codes "classifier")) class.0 kept.0 in
      record {
        instance = subst (HasRole file.doc n) (instance_is (role_at file n) here) (known is_instance n refl here);
        before = [];
        at = first.0.0;
        id = first.0.1;
        behind = first.1;
        classifier = first.2;
        class = class.0;
        meant = first.3;
        active = as_class class.0 kept.1;
      }

  pub are_signals : All (λ n. HasRole file.doc n role.Signal) (signals file)
  are_signals =
      All-weaker (λ (n : ℕ). is_signal (role_at file n) ≡ true) (λ (n : ℕ). HasRole file.doc n role.Signal) as_signal (signals file)
      (filter_passes (λ (n : ℕ). is_signal (role_at file n)) (numbers file))

  pub are_classes : All (IsActiveClass file.doc) (classes file)
  are_classes =
      All-weaker (λ (n : ℕ). is_class (role_at file n) ≡ true) (IsActiveClass file.doc) as_class (classes file)
      (filter_passes (λ (n : ℕ). is_class (role_at file n)) (numbers file))

  pub are_concrete : All (IsActiveClass file.doc) (concrete_classes file)
  are_concrete = All-filter _ (IsActiveClass file.doc) (classes file) are_classes

  pub are_instances : All (IsInstance file.doc) (instances file)
  are_instances k d less =
      as_instance _
      (All-filter (λ (n : ℕ). is_some (class_of_instance file n)) (λ (n : ℕ). is_instance (role_at file n) ≡ true) (with_role is_instance file)
      (filter_passes (λ (n : ℕ). is_instance (role_at file n)) (numbers file)) k d less)
      (filter_passes (λ (n : ℕ). is_some (class_of_instance file n)) (with_role is_instance file) k d less)
