-- The ends of transitions.
use Rattle.std.proofs.Common.{◌≡◌, ◌==◌, ◌||◌, ℕ, Bool, true, false, List, [], ◌∷◌, length, Option, Some, None, refl, sym, ap, subst, ◌∙◌, inl, arith}
use Rattle.std.specs.Prelude.{slice_get, codes, bytes_eq, Contains, if◌then◌else◌}
use Rattle.std.specs.Option.{option_map_or, option_and_then}
use Rattle.pssm_xml.specs.Documents.{Element}
use Rattle.pssm_xml.specs.Elements.{is_child_of, attribute_value, IsParent}
use Rattle.pssm_roles.specs.declared.role.Role.{Role}
use Rattle.pssm_roles.specs.declared.role.Role.TheVariants as role
use Rattle.pssm_roles.specs.Ids.{meant_by}
use Rattle.pssm_roles.specs.References.{references}
use Rattle.pssm_roles.specs.Roles.{HasRole, row, settled, type_of, reference_role, guard_role, has_attribute}
use Rattle.pssm_roles.specs.Roles.HasRole.{child}
use Rattle.pssm_profile.specs.Flaws.HasFlaw.{by_role}
use Rattle.pssm_profile.specs.declared.flaw.Flaw.TheVariants as flaws
use Rattle.pssm_profile.specs.declared.flaw.Unread.TheVariants as unread
use Rattle.pssm_profile.specs.declared.flaw.Owed.TheVariants as owed
use Rattle.pssm_numbering.specs.Numbering.{ModelFile, role_at, is_vertex}
use Rattle.pssm_numbering.specs.Meanings.{meant, first_meant}
use Rattle.pssm_unmet.specs.declared.following.Target.TheVariants as target
use Rattle.pssm_unmet.specs.References.{followed, followed_of, is_known}
use Rattle.pssm_xmi.specs.Faultless.{IsFaultless}
use Rattle.pssm_xmi.proofs.Tests.{by_test, both, some_there}
use Rattle.pssm_xmi.proofs.Known.{OneRole, role_is}
use Rattle.pssm_xmi.proofs.Referring.{as_many_references}

-- what a child of a name is a child of
pub child_parent : (n : ℕ) (name : List ℕ) (e : Element) → is_child_of n name e ≡ true → e.parent ≡ Some n
child_parent n name e is = by_parent e.parent (both (option_map_or (λ (q : ℕ). q == n) e.parent false) (bytes_eq e.name name) is).0 where
  by_parent : (o : Option ℕ) → option_map_or (λ (q : ℕ). q == n) o false ≡ true → o ≡ Some n
  by_parent None here = absurd (cc)
  by_parent (Some q) here = let same : q ≡ n = grind (arith, here) in ap (λ (k : ℕ). Some k) same

either_refers : (a b : Bool) → b ≡ true → (if a || b then role.Reference else role.Passed) ≡ role.Reference
either_refers true b here = refl
either_refers false b here = ap (λ (x : Bool). if x then role.Reference else role.Passed) here

-- A child of a transition that says an end is a child that refers.
refers_source : (e : Element) → bytes_eq e.name (codes "source") ≡ true → row role.Transition e.name (type_of e) (reference_role e) (guard_role e) ≡ reference_role e
refers_source e named = rw named refl

refers_target : (e : Element) → bytes_eq e.name (codes "target") ≡ true → row role.Transition e.name (type_of e) (reference_role e) (guard_role e) ≡ reference_role e
refers_target e named = by_test (bytes_eq e.name (codes "source")) (λ first. rw first refl) (λ other. rw other (rw named refl))

module _ (one_role : OneRole) (file : ModelFile) (fine : IsFaultless file) where
  -- A child of a transition that refers is in no other file.
  plain_child : (n : ℕ) (name : List ℕ) → HasRole file.doc n role.Transition
      → ((e : Element) → bytes_eq e.name name ≡ true → row role.Transition e.name (type_of e) (reference_role e) (guard_role e) ≡ reference_role e)
      → (i : ℕ) (e : Element) → slice_get file.doc i ≡ Some e → is_child_of n name e ≡ true → has_attribute (codes "href") e ≡ false
  plain_child n name has refers i e at is = by_test (has_attribute (codes "href") e) (λ there. absurd (wrong there)) (λ none. none) where
    wrong : has_attribute (codes "href") e ≡ true → ⊥
    wrong there =
        let in_n = child_parent n name e is in
        let named = (both (option_map_or (λ (q : ℕ). q == n) e.parent false) (bytes_eq e.name name) is).1 in
        let pointer : reference_role e ≡ role.Reference = either_refers (has_attribute (codes "xmi:idref") e) (has_attribute (codes "href") e) there in
        let its : HasRole file.doc i role.Reference =
        subst (HasRole file.doc i) (ap (settled file.doc n i) (refers e named ∙ pointer)) (child at in_n has) in
        let parent : IsParent file.doc n i = ap (λ (o : Option Element). option_and_then (λ (x : Element). x.parent) o) at ∙ in_n in
        let value = some_there (attribute_value (codes "href") e) there in
        let says : option_and_then (attribute_value (codes "href")) (slice_get file.doc i) ≡ Some value.0 =
        ap (option_and_then (attribute_value (codes "href"))) at ∙ value.1 in
        fine.profile i (flaws.Unsupported unread.Href) (by_role role.Reference its (inl (its, refl), ((n, parent), (value.0, says))))

  met : (n : ℕ) (name : List ℕ) → role_at file n ≡ role.Transition → Contains (followed_of role.Transition) (followed name target.Vertex)
      → (refs : List (ℕ × List ℕ)) → references file.doc n name ≡ refs → (length refs ≡ 0 → ⊥)
      → (m : ℕ) × (meant name file n ≡ Some m) × (is_vertex (role_at file m) ≡ true)
  met n name role asked [] are some = absurd (some refl)
  met n name role asked (r ∷ more) are some =
      by_test (is_known file target.Vertex n r.1)
      (λ found. by_element (meant_by file.doc r.1) (ap (first_meant file.doc) are) found)
      (λ unknown. absurd (fine.references target.Vertex r.0 r.1 (record {
        n = n;
        name = name;
        asked = subst (λ (x : Role). Contains (followed_of x) (followed name target.Vertex)) (sym role) asked;
        among = subst (λ (xs : List (ℕ × List ℕ)). Contains xs (r.0, r.1)) (sym are) (0, omega arith, refl);
        unmet = unknown;
      })))
    where
      by_element : (o : Option ℕ) → meant name file n ≡ o → option_map_or (λ (m : ℕ). is_vertex (role_at file m)) o false ≡ true
          → (m : ℕ) × (meant name file n ≡ Some m) × (is_vertex (role_at file m) ≡ true)
      by_element None is here = absurd (cc)
      by_element (Some m) is here = (m, is, here)

  -- An end of a transition is a vertex.
  pub source_met : (n : ℕ) → HasRole file.doc n role.Transition → (m : ℕ) × (meant (codes "source") file n ≡ Some m) × (is_vertex (role_at file m) ≡ true)
  source_met n has =
      let same = as_many_references file.doc n (codes "source") (plain_child n (codes "source") has refers_source) in
      met n (codes "source") (role_is one_role file fine.roles n role.Transition has) (0, omega arith, refl) (references file.doc n (codes "source")) refl
      (λ none. fine.profile n (flaws.Missing owed.Source) (by_role role.Transition has (inl (has, refl), (refl, sym same ∙ none))))

  pub target_met : (n : ℕ) → HasRole file.doc n role.Transition → (m : ℕ) × (meant (codes "target") file n ≡ Some m) × (is_vertex (role_at file m) ≡ true)
  target_met n has =
      let same = as_many_references file.doc n (codes "target") (plain_child n (codes "target") has refers_target) in
      met n (codes "target") (role_is one_role file fine.roles n role.Transition has) (1, omega arith, refl) (references file.doc n (codes "target")) refl
      (λ none. fine.profile n (flaws.Missing owed.Target) (by_role role.Transition has (inl (has, refl), (refl, sym same ∙ none))))
