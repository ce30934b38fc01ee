-- The behaviour of an active class is a machine of the file.
use Rattle.std.proofs.Common.{◌≡◌, ◌⊎◌, ◌≤◌, ◌==◌, ◌&&◌, ◌||◌, ℕ, Bool, true, false, List, [], ◌∷◌, length, Option, Some, None, refl, sym, ap, subst, ◌∙◌, inl, inr, ⊎_elim, arith}
use Rattle.std.specs.Prelude.{slice_get, codes, bytes_eq, nat_lt, IsTrue, if◌then◌else◌}
use Rattle.std.specs.List.{list_any}
use Rattle.std.specs.Option.{option_map_or, option_and_then}
use Rattle.std.proofs.lemmas.Slice.Eq.{bytes_eq-Decides}
use Rattle.pssm_xml.specs.Documents.{Element}
use Rattle.pssm_xml.specs.Elements.{is_child_of}
use Rattle.pssm_roles.specs.declared.role.Role.{Role}
use Rattle.pssm_roles.specs.declared.role.Role.TheVariants as role
use Rattle.pssm_roles.specs.Ids.{meant_by}
use Rattle.pssm_roles.specs.References.{references}
use Rattle.pssm_roles.specs.Roles.{HasRole, settled, type_of, is_typed, reference_role, in_class, is_active, owns_machine}
use Rattle.pssm_roles.specs.Roles.HasRole.{root, child}
use Rattle.pssm_profile.specs.Counts.{references_count}
use Rattle.pssm_profile.specs.Flaws.HasFlaw.{by_role}
use Rattle.pssm_profile.specs.declared.flaw.Flaw.TheVariants as flaws
use Rattle.pssm_profile.specs.declared.flaw.Unread.TheVariants as unread
use Rattle.pssm_numbering.specs.Numbering.{ModelFile, role_at, is_class, is_machine}
use Rattle.pssm_numbering.specs.Meanings.{meant, first_meant, behaviour_of}
use Rattle.pssm_xmi.specs.Faultless.{IsFaultless}
use Rattle.pssm_xmi.proofs.Tests.{by_test, both}
use Rattle.pssm_xmi.proofs.Known.{OneRole, known, role_is}
use Rattle.pssm_xmi.proofs.Parts.{is_active_class, child_active, root_not_active}
use Rattle.pssm_xmi.proofs.Referring.{no_more_references}
use Rattle.pssm_xmi.proofs.Ends.{child_parent}

pub class_cases : (r : Role) → is_class r ≡ true → (r ≡ role.ActiveClass) ⊎ (r ≡ role.ClassMachine)
class_cases role.ActiveClass is = inl refl
class_cases role.ClassMachine is = inr refl
class_cases _ is = absurd (cc)

-- Where not more than one is counted in the one place, at most one is.
pub one_at_most : (count : ℕ) → (IsTrue (list_any (nat_lt 1) (count ∷ [])) → ⊥) → count ≤ 1
one_at_most count few =
    by_test (nat_lt 1 count)
    (λ more. absurd (few (ap (λ (b : Bool). b || false) more)))
    (λ fine. grind (arith, fine))

-- An active class is one as the whole file has it.
active : (doc : List Element) (n : ℕ) (r : Role) → HasRole doc n r → is_active_class r ≡ true → is_active doc n ≡ true
active doc n r (root {e = e} at none) is = let wrong = sym is ∙ root_not_active e.name in absurd (cc)
active doc n r (child {parent = p} {e = e} {above = above} at in_p has) is = child_active doc p n above e is

-- an element that an id means, and that passes
record Means (doc : List Element) (test : Element → Bool) (o : Option ℕ) : Type 0 where
  pub number : ℕ
  pub element : Element
  pub is : o ≡ Some number
  pub at : slice_get doc number ≡ Some element
  pub passes : test element ≡ true

means : (doc : List Element) (test : Element → Bool) (o : Option ℕ) → option_map_or test (option_and_then (slice_get doc) o) false ≡ true → Means doc test o
means doc test None here = absurd (cc)
means doc test (Some k) here = by_place (slice_get doc k) refl here where
  by_place : (found : Option Element) → slice_get doc k ≡ found → option_map_or test found false ≡ true → Means doc test (Some k)
  by_place None at passes = absurd (cc)
  by_place (Some e) at passes = record { number = k; element = e; is = refl; at = at; passes = passes }

-- The only one of at most one that passes is the first.
only_any : {X : Type 0} (test : X → Bool) (xs : List X) → length xs ≤ 1 → list_any test xs ≡ true → (x : X) × (xs ≡ x ∷ []) × (test x ≡ true)
only_any test [] few any = absurd (cc)
only_any test (x ∷ []) few any = (x, refl, one (test x) any) where
  one : (b : Bool) → (b || false) ≡ true → b ≡ true
  one true e = refl
  one false e = e
only_any test (x ∷ y ∷ more) few any = absurd (omega (arith, few))

module _ (one_role : OneRole) (file : ModelFile) (fine : IsFaultless file) where
  -- A state machine that an active class owns is one.
  owned_machine : (c k : ℕ) (e : Element) → HasRole file.doc c role.ActiveClass → slice_get file.doc k ≡ Some e
      → is_child_of c (codes "ownedBehavior") e ≡ true → is_typed (codes "uml:StateMachine") e ≡ true → role_at file k ≡ role.Machine
  owned_machine c k e has at is typed =
      let in_c = child_parent c (codes "ownedBehavior") e is in
      let named : e.name ≡ codes "ownedBehavior" =
      (bytes_eq-Decides e.name (codes "ownedBehavior")).0 (both (option_map_or (λ (q : ℕ). q == c) e.parent false) (bytes_eq e.name (codes "ownedBehavior")) is).1 in
      let its : in_class e.name (type_of e) (reference_role e) ≡ role.Machine =
      ap (λ (name : List ℕ). in_class name (type_of e) (reference_role e)) named ∙ ap (λ (b : Bool). if b then role.Machine else role.Passed) typed in
      role_is one_role file fine.roles k role.Machine (subst (HasRole file.doc k) (ap (settled file.doc c k) its) (child at in_c has))

  few_behaviours : (c : ℕ) → HasRole file.doc c role.ActiveClass → length (references file.doc c (codes "classifierBehavior")) ≤ 1
  few_behaviours c has =
      let le = no_more_references file.doc c (codes "classifierBehavior") in
      let one = one_at_most (references_count file.doc c (codes "classifierBehavior"))
      (λ several. fine.profile c (flaws.Unsupported unread.Several) (by_role role.ActiveClass has ((has, refl), several))) in
      omega (arith, le, one)

  meant_machine : (c : ℕ) → HasRole file.doc c role.ActiveClass → (k : ℕ) × (meant (codes "classifierBehavior") file c ≡ Some k) × (is_machine (role_at file k) ≡ true)
  meant_machine c has =
      let only = only_any (λ (r : ℕ × List ℕ). owns_machine file.doc c r.1) (references file.doc c (codes "classifierBehavior")) (few_behaviours c has)
      (active file.doc c role.ActiveClass has refl) in
      let there = means file.doc (λ m. is_child_of c (codes "ownedBehavior") m && is_typed (codes "uml:StateMachine") m) (meant_by file.doc only.0.1) only.2 in
      let tests = both (is_child_of c (codes "ownedBehavior") there.element) (is_typed (codes "uml:StateMachine") there.element) there.passes in (
        there.number,
        ap (first_meant file.doc) only.1 ∙ there.is,
        ap is_machine (owned_machine c there.number there.element has there.at tests.0 tests.1),
      )

  -- The behaviour of a class is a machine.
  pub behaviour_is : (c : ℕ) → is_class (role_at file c) ≡ true → (k : ℕ) × (behaviour_of file c ≡ Some k) × (is_machine (role_at file k) ≡ true)
  behaviour_is c class =
      let has = known one_role file fine.roles is_class c refl class in
      ⊎_elim
      (λ is. let there = meant_machine c (subst (HasRole file.doc c) is has) in
      let own : behaviour_of file c ≡ meant (codes "classifierBehavior") file c = rw is refl in
      (there.0, own ∙ there.1, there.2))
      (λ is. let own : behaviour_of file c ≡ Some c = rw is refl in (c, own, ap is_machine is))
      (class_cases (role_at file c) class)
