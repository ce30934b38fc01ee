-- Every element of a document has a role, and begins at a byte.
use Rattle.std.proofs.Common.{◌≡◌, ◌<◌, ℕ, zero, suc, ◌+◌, List, [], ◌∷◌, length, Option, Some, None, refl, ap, subst, ◌∙◌, arith}
use Rattle.std.specs.Prelude.{slice_get, option_map, option_and_then}
use Rattle.pssm_model.proofs.ElementLaws.{some_at}
use Rattle.pssm_xml.specs.Documents.{Element}
use Rattle.pssm_xml.specs.Elements.{IsParent, BeginsAt}
use Rattle.pssm_roles.specs.declared.role.Role.{Role}
use Rattle.pssm_roles.specs.Roles.{HasRole, AreRolesOf, root_role, role_in}
use Rattle.pssm_profile.specs.declared.flaw.Flaw.{Flaw}
use Rattle.pssm_profile.specs.Flaws.{HasFlaw}
use Rattle.pssm_xmi.specs.Faultless.{StandBehind}

-- ---- one role

-- the role of an element, of which that in which it stands has one
role_by_parent : (doc : List Element) (n : ℕ) (e : Element) → slice_get doc n ≡ Some e → (o : Option ℕ) → e.parent ≡ o
    → ((p : ℕ) → IsParent doc p n → (r : Role) × HasRole doc p r) → (r : Role) × HasRole doc n r
role_by_parent doc n e at None none above = (root_role e.name, HasRole.root at none)
role_by_parent doc n e at (Some p) stands above =
    let outer = above p (ap (option_and_then (λ (x : Element). x.parent)) at ∙ stands) in
    (role_in doc outer.0 p n e, HasRole.child at stands outer.1)

module _ (doc : List Element) (behind : StandBehind doc) where
  role_under : (k n : ℕ) → n < k → n < length doc → (r : Role) × HasRole doc n r
  role_under zero n less within = absurd (omega (arith, less))
  role_under (suc k) n less within =
      let e = some_at doc n within in
      role_by_parent doc n e.0 e.1 e.0.parent refl
      (λ p in_p. let before : p < n = behind n p in_p in role_under k p (omega (arith, less, before)) (omega (arith, within, before)))

-- ---- all roles

-- roles of so many elements, from this one on
record AreRolesFrom (doc : List Element) (n k : ℕ) : Type 0 where
  pub roles : List Role
  pub counted : length roles ≡ k
  pub roles_are : (i : ℕ) (r : Role) → slice_get roles i ≡ Some r → HasRole doc (n + i) r

one_more : (doc : List Element) (n k : ℕ) (r : Role) → HasRole doc n r → AreRolesFrom doc (suc n) k → AreRolesFrom doc n (suc k)
one_more doc n k role has more = record {
  roles = role ∷ more.roles;
  counted = let c = more.counted in omega (arith, c);
  roles_are = by_place;
} where
  by_place : (i : ℕ) (r : Role) → slice_get (role ∷ more.roles) i ≡ Some r → HasRole doc (n + i) r
  by_place zero r at =
      let same : role ≡ r = cc in
      let here : n ≡ n + 0 = omega arith in
      subst (λ (m : ℕ). HasRole doc m r) here (subst (HasRole doc n) same has)
  by_place (suc i) r at =
      let here : suc n + i ≡ n + suc i = omega arith in
      subst (λ (m : ℕ). HasRole doc m r) here (more.roles_are i r at)

module _ (doc : List Element) (behind : StandBehind doc) where
  roles_from : (k n : ℕ) → n + k ≡ length doc → AreRolesFrom doc n k
  roles_from zero n end = record { roles = []; counted = refl; roles_are = λ i r at. absurd cc }
  roles_from (suc k) n end =
      let role = role_under doc behind (suc n) n (omega arith) (omega (arith, end)) in
      one_more doc n k role.0 role.1 (roles_from k (suc n) (omega (arith, end)))

  -- The elements of a document have roles.
  pub some_roles : (roles : List Role) × AreRolesOf doc roles
  some_roles = let all = roles_from (length doc) 0 (omega arith) in
      (all.roles, record { counted = all.counted; roles_are = λ n r at. let here : 0 + n ≡ n = omega arith in subst (λ (m : ℕ). HasRole doc m r) here (all.roles_are n r at) })

-- ---- where elements begin

begins_where : (doc : List Element) (n : ℕ) (r : Role) → HasRole doc n r → (at : ℕ) × BeginsAt doc n at
begins_where doc n r (HasRole.root {e = e} at none) = (e.at, ap (option_map (λ (x : Element). x.at)) at)
begins_where doc n r (HasRole.child {e = e} at stands above) = (e.at, ap (option_map (λ (x : Element). x.at)) at)

-- An element with a flaw begins at a byte.
pub flaw_begins : (doc : List Element) (n : ℕ) (flaw : Flaw) → HasFlaw doc n flaw → (at : ℕ) × BeginsAt doc n at
flaw_begins doc n flaw (HasFlaw.by_role r role is) = begins_where doc n r role
