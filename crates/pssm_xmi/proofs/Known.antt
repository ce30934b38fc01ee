-- The roles of a file: what stands in its lists has the role, and what has the role stands in its lists.
use Rattle.std.proofs.Common.{◌≡◌, ◌<◌, ℕ, Bool, true, false, List, length, Option, Some, None, refl, sym, ap, subst, ◌∙◌, arith}
use Rattle.std.specs.Prelude.{slice_get, unwrap_or}
use Rattle.std.proofs.lemmas.Option.{slice_get_within}
use Rattle.pssm_xml.specs.Documents.{Element}
use Rattle.pssm_roles.specs.declared.role.Role.{Role}
use Rattle.pssm_roles.specs.declared.role.Role.TheVariants as role
use Rattle.pssm_roles.specs.Roles.{HasRole, AreRolesOf}
use Rattle.pssm_roles.specs.Roles.HasRole.{root, child}
use Rattle.pssm_profile.proofs.ChildLaws.{element_there}
use Rattle.pssm_numbering.specs.Numbering.{ModelFile, role_at, with_role, numbers}
use Rattle.pssm_xmi.proofs.Numbers.{StandsIn, stands_passing, passing, stands_among}

-- what has a role is an element
pub has_element : (doc : List Element) (n : ℕ) (r : Role) → HasRole doc n r → n < length doc
has_element doc n r (root {e = e} at none) = slice_get_within doc n e at
has_element doc n r (child {e = e} at in_p above) = slice_get_within doc n e at

-- Each element has one role.
abbrev pub OneRole : Type 0
OneRole = (doc : List Element) (n : ℕ) (r s : Role) → HasRole doc n r → HasRole doc n s → r ≡ s

module _ (one_role : OneRole) (file : ModelFile) (roles : AreRolesOf file.doc file.roles) where
  -- The role at a place is that of the element.
  pub role_is : (n : ℕ) (r : Role) → HasRole file.doc n r → role_at file n ≡ r
  role_is n r has =
      let less = has_element file.doc n r has in let same = roles.counted in
      let here = element_there file.roles n (omega (arith, less, same)) in
      ap (λ (o : Option Role). unwrap_or o role.Passed) here.1 ∙ one_role file.doc n here.0 r (roles.roles_are n here.0 here.1) has

  -- What has a role other than that of what is passed over is an element, and it is its role.
  pub known : (is : Role → Bool) (n : ℕ) → is role.Passed ≡ false → is (role_at file n) ≡ true → HasRole file.doc n (role_at file n)
  known is n other here = by_place (slice_get file.roles n) refl where
    by_place : (o : Option Role) → slice_get file.roles n ≡ o → HasRole file.doc n (role_at file n)
    by_place None none =
        let wrong : is role.Passed ≡ true = ap is (sym (ap (λ (o : Option Role). unwrap_or o role.Passed) none)) ∙ here in absurd cc
    by_place (Some r) at = subst (HasRole file.doc n) (sym (ap (λ (o : Option Role). unwrap_or o role.Passed) at)) (roles.roles_are n r at)

  -- It stands in the list of its role.
  pub stands_with : (is : Role → Bool) (n : ℕ) → is role.Passed ≡ false → is (role_at file n) ≡ true → StandsIn n (with_role is file)
  stands_with is n other here =
      stands_passing (λ (k : ℕ). is (role_at file k)) n (numbers file) here
      (stands_among (length file.doc) n (has_element file.doc n (role_at file n) (known is n other here)))

-- What stands there has it.
pub with_stands : (file : ModelFile) (is : Role → Bool) (n : ℕ) → StandsIn n (with_role is file) → is (role_at file n) ≡ true
with_stands file is n stands = (passing (λ (k : ℕ). is (role_at file k)) n (numbers file) stands).0
