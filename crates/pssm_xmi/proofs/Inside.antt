-- Regions, vertices and transitions stand in a machine.
use Rattle.std.proofs.Common.{◌≡◌, ◌⊎◌, ℕ, Bool, true, false, ◌||◌, Option, Some, refl, sym, ap, ◌∙◌, inl, inr, ⊎_elim}
use Rattle.std.specs.Prelude.{slice_get, if◌then◌else◌}
use Rattle.std.specs.Option.{option_and_then}
use Rattle.pssm_xml.specs.Documents.{Element}
use Rattle.pssm_xml.specs.Elements.{IsParent}
use Rattle.pssm_roles.specs.declared.role.Role.{Role}
use Rattle.pssm_roles.specs.declared.role.Role.TheVariants as role
use Rattle.pssm_roles.specs.Roles.{HasRole, AreRolesOf, role_in}
use Rattle.pssm_roles.specs.Roles.HasRole.{root, child}
use Rattle.pssm_numbering.specs.Numbering.{ModelFile, role_at, is_machine, is_region, is_vertex, is_transition, machine_of}
use Rattle.pssm_xmi.specs.Faultless.{StandBehind}
use Rattle.pssm_xmi.proofs.Known.{OneRole, role_is, known}
use Rattle.pssm_xmi.proofs.Machines.{own_machine, machine_above}
use Rattle.pssm_xmi.proofs.Parts.{is_part, fits, child_fits, root_no_part}

no_machine : (r : Role) → is_part r ≡ true → is_machine r ≡ false
no_machine role.Machine part = absurd (cc)
no_machine role.ClassMachine part = absurd (cc)
no_machine _ part = refl

owner_by : (v t g region vertex transition machine : Bool) → (g || v || t) ≡ true
    → (if v || t then region || vertex else if g then region || vertex || machine else true) ≡ true
    → ((region || vertex || transition) ≡ true) ⊎ (machine ≡ true)
owner_by v t g true vertex transition machine part fit = inl refl
owner_by v t g false true transition machine part fit = inl refl
owner_by v t g false false transition true part fit = inr refl
owner_by true t g false false transition false part fit = absurd (cc)
owner_by false true g false false transition false part fit = absurd (cc)
owner_by false false true false false transition false part fit = absurd (cc)
owner_by false false false false false transition false part fit = absurd (cc)

-- What a part may stand in is a part or a machine.
pub part_owner : (above r : Role) → is_part r ≡ true → fits above r ≡ true → (is_part above ≡ true) ⊎ (is_machine above ≡ true)
part_owner above r part fit =
    owner_by (is_vertex r) (is_transition r) (is_region r) (is_region above) (is_vertex above) (is_transition above) (is_machine above) part fit

-- What a vertex may stand in is a region or a vertex.
pub vertex_owner : (above r : Role) → is_vertex r ≡ true → fits above r ≡ true → (is_region above || is_vertex above) ≡ true
vertex_owner above r is fit =
    sym (ap (λ (b : Bool). if b || is_transition r then is_region above || is_vertex above else
    if is_region r then is_region above || is_vertex above || is_machine above else true) is) ∙ fit

-- where a part stands
pub record HasOwner (file : ModelFile) (n : ℕ) : Type 0 where
  pub owner : ℕ
  pub is : IsParent file.doc owner n
  pub fit : fits (role_at file owner) (role_at file n) ≡ true
  pub same : machine_of file n ≡ machine_of file owner

module _ (one_role : OneRole) (file : ModelFile) (roles : AreRolesOf file.doc file.roles) (ordered : StandBehind file.doc) where
  parent_is : (n p : ℕ) (e : Element) → slice_get file.doc n ≡ Some e → e.parent ≡ Some p → IsParent file.doc p n
  parent_is n p e at in_p = ap (λ (o : Option Element). option_and_then (λ (x : Element). x.parent) o) at ∙ in_p

  outwards : (n p : ℕ) (r : Role) → HasRole file.doc n r → is_part r ≡ true → IsParent file.doc p n → machine_of file n ≡ machine_of file p
  outwards n p r has part in_p =
      machine_above file ordered n p (ap is_machine (role_is one_role file roles n r has) ∙ no_machine r part) in_p

  -- It stands in a machine.
  inside : (n : ℕ) (r : Role) → HasRole file.doc n r → is_part r ≡ true → (m : ℕ) × (machine_of file n ≡ Some m)
  inside n r (root {e = e} at none) part = let wrong = sym part ∙ root_no_part e.name in absurd (cc)
  inside n r (child {parent = p} {e = e} {above = above} at in_p has) part =
      let up = outwards n p (role_in file.doc above p n e) (child at in_p has) part (parent_is n p e at in_p) in
      ⊎_elim
      (λ inner. let m = inside p above has inner in (m.0, up ∙ m.1))
      (λ machine. (p, up ∙ own_machine file p (ap is_machine (role_is one_role file roles p above has) ∙ machine)))
      (part_owner above (role_in file.doc above p n e) part (child_fits file.doc p n above e))

  pub stands_inside : (n : ℕ) → is_part (role_at file n) ≡ true → (m : ℕ) × (machine_of file n ≡ Some m)
  stands_inside n part = inside n (role_at file n) (known one_role file roles is_part n refl part) part

  owned : (n : ℕ) (r : Role) → HasRole file.doc n r → is_part r ≡ true → HasOwner file n
  owned n r (root {e = e} at none) part = let wrong = sym part ∙ root_no_part e.name in absurd (cc)
  owned n r (child {parent = p} {e = e} {above = above} at in_p has) part = record {
    owner = p;
    is = parent_is n p e at in_p;
    fit = ap (λ (a : Role). fits a (role_at file n)) (role_is one_role file roles p above has)
        ∙ ap (fits above) (role_is one_role file roles n (role_in file.doc above p n e) (child at in_p has)) ∙ child_fits file.doc p n above e;
    same = outwards n p (role_in file.doc above p n e) (child at in_p has) part (parent_is n p e at in_p);
  }

  pub has_owner : (n : ℕ) → is_part (role_at file n) ≡ true → HasOwner file n
  has_owner n part = owned n (role_at file n) (known one_role file roles is_part n refl part) part
