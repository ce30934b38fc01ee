-- The owner of a region or a vertex is in its machine.
use Rattle.std.proofs.Common.{◌≡◌, ◌≢◌, ℕ, Bool, true, false, ◌||◌, Some, refl, sym, subst, ◌∙◌, arith}
use Rattle.std.specs.Prelude.{if◌then◌else◌}
use Rattle.std.proofs.lemmas.List.{length-map}
use Rattle.pssm_model.specs.declared.ids.RegionId.{RegionId}
use Rattle.pssm_model.specs.declared.ids.VertexId.{VertexId}
use Rattle.pssm_model.specs.declared.elements.Owner.{Owner}
use Rattle.pssm_model.specs.declared.elements.Owner.TheVariants as owners
use Rattle.pssm_model.specs.DraftSettings.{IsOwnerIn}
use Rattle.pssm_roles.specs.Roles.{AreRolesOf}
use Rattle.pssm_numbering.specs.Numbering.{ModelFile, role_at, parent_of, machine_of, own_place, own_with, is_region, is_vertex}
use Rattle.pssm_parts.specs.Elements.{owner_of, region_at, vertex_at}
use Rattle.pssm_drafting.specs.Drafts.{parts_at}
use Rattle.pssm_xmi.specs.Faultless.{StandBehind}
use Rattle.pssm_xmi.proofs.Tests.{by_test}
use Rattle.pssm_xmi.proofs.Known.{OneRole}
use Rattle.pssm_xmi.proofs.Parts.{is_part}
use Rattle.pssm_xmi.proofs.Inside.{has_owner, vertex_owner}
use Rattle.pssm_xmi.proofs.Places.{own_within}

abbrev region_numbered : ℕ → Owner
region_numbered k = let r : RegionId = record { 0 = k } in owners.Region r

abbrev vertex_numbered : ℕ → Owner
vertex_numbered k = let v : VertexId = record { 0 = k } in owners.State v

-- the owner of what stands in an element
abbrev owner_in : ModelFile → ℕ → Owner
owner_in file p =
    if is_region (role_at file p) then region_numbered (own_place is_region file p) else
    if is_vertex (role_at file p) then vertex_numbered (own_place is_vertex file p) else owners.Top

owner_is : (file : ModelFile) (n p : ℕ) → parent_of file n ≡ Some p → owner_of file n ≡ owner_in file p
owner_is file n p is = rw is refl

module _ (one_role : OneRole) (file : ModelFile) (roles : AreRolesOf file.doc file.roles) (ordered : StandBehind file.doc) where
  in_machine : (p m : ℕ) → machine_of file p ≡ Some m → IsOwnerIn (parts_at file m) (owner_in file p)
  in_machine p m inside =
      by_test (is_region (role_at file p))
      (λ here. subst (λ (b : Bool). IsOwnerIn (parts_at file m) (if b then region_numbered (own_place is_region file p) else
      if is_vertex (role_at file p) then vertex_numbered (own_place is_vertex file p) else owners.Top)) (sym here)
      (let less = own_within one_role file roles is_region p m refl here inside in
      let same = length-map (own_with is_region file m) (region_at file) in omega (arith, less, same)))
      (λ other. subst (λ (b : Bool). IsOwnerIn (parts_at file m) (if b then region_numbered (own_place is_region file p) else
      if is_vertex (role_at file p) then vertex_numbered (own_place is_vertex file p) else owners.Top)) (sym other)
      (by_test (is_vertex (role_at file p))
      (λ here. subst (λ (b : Bool). IsOwnerIn (parts_at file m) (if b then vertex_numbered (own_place is_vertex file p) else owners.Top)) (sym here)
      (let less = own_within one_role file roles is_vertex p m refl here inside in
      let same = length-map (own_with is_vertex file m) (vertex_at file) in omega (arith, less, same)))
      (λ none. subst (λ (b : Bool). IsOwnerIn (parts_at file m) (if b then vertex_numbered (own_place is_vertex file p) else owners.Top)) (sym none) tt)))

  -- The owner of a part is in its machine.
  pub owner_in_range : (n m : ℕ) → is_part (role_at file n) ≡ true → machine_of file n ≡ Some m → IsOwnerIn (parts_at file m) (owner_of file n)
  owner_in_range n m part inside =
      let at = has_owner one_role file roles ordered n part in
      subst (IsOwnerIn (parts_at file m)) (sym (owner_is file n at.owner at.is)) (in_machine at.owner m (sym at.same ∙ inside))

  not_top : (p : ℕ) → (is_region (role_at file p) || is_vertex (role_at file p)) ≡ true → owner_in file p ≢ owners.Top
  not_top p either = by_kind (is_region (role_at file p)) (is_vertex (role_at file p)) either where
    by_kind : (r v : Bool) → (r || v) ≡ true
        → (if r then region_numbered (own_place is_region file p) else if v then vertex_numbered (own_place is_vertex file p) else owners.Top) ≢ owners.Top
    by_kind true v either top = let k : RegionId = record { 0 = own_place is_region file p } in let e : owners.Region k ≡ owners.Top = top in absurd (cc)
    by_kind false true either top = let k : VertexId = record { 0 = own_place is_vertex file p } in let e : owners.State k ≡ owners.Top = top in absurd (cc)
    by_kind false false either top = absurd (cc)

  -- A vertex is owned by a region or a vertex.
  pub vertex_owned : (n : ℕ) → is_vertex (role_at file n) ≡ true → is_part (role_at file n) ≡ true → owner_of file n ≢ owners.Top
  vertex_owned n vertex part top =
      let at = has_owner one_role file roles ordered n part in
      not_top at.owner (vertex_owner (role_at file at.owner) (role_at file n) vertex at.fit) (sym (owner_is file n at.owner at.is) ∙ top)
