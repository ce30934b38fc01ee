-- Which roles active classes have.
use Rattle.std.proofs.Common.{◌≡◌, ◌↔◌, ◌⊎◌, ℕ, Bool, List, inl, inr, subst}
use Rattle.std.specs.Prelude.{IsTrue}
use Rattle.pssm_xml.specs.Documents.{Element}
use Rattle.pssm_roles.specs.declared.role.Role.{Role}
use Rattle.pssm_roles.specs.declared.role.Role.TheVariants as role
use Rattle.pssm_roles.specs.Roles.{HasRole}
use Rattle.pssm_profile.specs.Kinds.{Kind, signals, classes, objects, IsOfKind, IsActiveClass, IsInstance}

pub is_class : (doc : List Element) (n : ℕ) (r : Role) (so : Bool) → ((doc : List Element) (n : ℕ) (r s : Role) → HasRole doc n r → HasRole doc n s → r ≡ s)
    → HasRole doc n r → IsTrue so ↔ ((r ≡ role.ActiveClass) ⊎ (r ≡ role.ClassMachine)) → IsTrue so ↔ IsActiveClass doc n
is_class doc n r so same has is = (λ yes. there (is.0 yes), λ active. is.1 (back active)) where
  there : (r ≡ role.ActiveClass) ⊎ (r ≡ role.ClassMachine) → IsActiveClass doc n
  there (inl equal) = inl (subst (HasRole doc n) equal has)
  there (inr equal) = inr (subst (HasRole doc n) equal has)

  back : IsActiveClass doc n → (r ≡ role.ActiveClass) ⊎ (r ≡ role.ClassMachine)
  back (inl one) = inl (same doc n r role.ActiveClass has one)
  back (inr one) = inr (same doc n r role.ClassMachine has one)

-- An element of another role is of no kind.
pub of_no_kind : (doc : List Element) (n : ℕ) (r : Role) → ((doc : List Element) (n : ℕ) (r s : Role) → HasRole doc n r → HasRole doc n s → r ≡ s)
    → HasRole doc n r
    → (r ≡ role.Signal → ⊥) → (r ≡ role.ActiveClass → ⊥) → (r ≡ role.ClassMachine → ⊥) → (IsInstance doc n → ⊥) → (k : Kind) → IsOfKind doc k n → ⊥
of_no_kind doc n r same has no_signal no_active no_machine no_instance signals is = no_signal (same doc n r role.Signal has is)
of_no_kind doc n r same has no_signal no_active no_machine no_instance classes (inl is) = no_active (same doc n r role.ActiveClass has is)
of_no_kind doc n r same has no_signal no_active no_machine no_instance classes (inr is) = no_machine (same doc n r role.ClassMachine has is)
of_no_kind doc n r same has no_signal no_active no_machine no_instance objects is = no_instance is

-- An instance that is no object is of no kind.
pub no_object : (doc : List Element) (n : ℕ) → ((doc : List Element) (n : ℕ) (r s : Role) → HasRole doc n r → HasRole doc n s → r ≡ s)
    → HasRole doc n role.Instance
    → (IsInstance doc n → ⊥) → (k : Kind) → IsOfKind doc k n → ⊥
no_object doc n same has free = of_no_kind doc n role.Instance same has (λ is. absurd cc) (λ is. absurd cc) (λ is. absurd cc) free
