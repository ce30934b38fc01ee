-- The places of elements in the lists of a draft.
use Rattle.std.proofs.Common.{◌≡◌, ◌<◌, ℕ, Bool, true, false, List, length, map, Option, Some, refl, ap, ◌∙◌, arith}
use Rattle.std.specs.Prelude.{slice_get, unwrap_or}
use Rattle.std.specs.Option.{option_map_or, option_and_then}
use Rattle.pssm_model.specs.declared.draft_setting.DraftParts.{DraftParts}
use Rattle.pssm_model.specs.DraftSettings.{IsRegionRef, IsVertexRef, IsTransitionRef}
use Rattle.pssm_roles.specs.declared.role.Role.{Role}
use Rattle.pssm_roles.specs.declared.role.Role.TheVariants as role
use Rattle.pssm_roles.specs.Roles.{AreRolesOf}
use Rattle.pssm_numbering.specs.Numbering.{ModelFile, role_at, is_number, machine_of, machines, place_in, own_place, own_with, with_role, is_machine, is_region, is_vertex, is_transition}
use Rattle.pssm_numbering.specs.Lists.{ref_of}
use Rattle.pssm_parts.specs.Elements.{region_at, vertex_at, transition_at}
use Rattle.pssm_drafting.specs.Drafts.{draft_of, parts_at}
use Rattle.pssm_xmi.proofs.Numbers.{StandsIn, that_number, is_that_number, stands_passing, passing, place_within, at_place, made_at}
use Rattle.pssm_xmi.proofs.Known.{OneRole, stands_with}
use Rattle.pssm_xmi.proofs.Machines.{is_found}

-- What stands in the list of a machine has the role, and stands in the machine.
pub own_is : (file : ModelFile) (is : Role → Bool) (m n : ℕ) → StandsIn n (own_with is file m) → (is (role_at file n) ≡ true) × (machine_of file n ≡ Some m)
own_is file is m n stands =
    let mine = passing (λ (k : ℕ). is_number m (machine_of file k)) n (with_role is file) stands in
    ((passing (λ (k : ℕ). is (role_at file k)) n _ mine.1).0, that_number m (machine_of file n) mine.0)

module _ (one_role : OneRole) (file : ModelFile) (roles : AreRolesOf file.doc file.roles) where
  -- A machine stands among the machines.
  pub machine_stands : (n m : ℕ) → machine_of file n ≡ Some m → StandsIn m (machines file)
  machine_stands n m inside = stands_with one_role file roles is_machine m refl (is_found file n m inside)

  -- What has the role and stands in the machine stands in its list.
  pub own_stands : (is : Role → Bool) (n m : ℕ) → is role.Passed ≡ false → is (role_at file n) ≡ true → machine_of file n ≡ Some m → StandsIn n (own_with is file m)
  own_stands is n m other here inside =
      stands_passing (λ (k : ℕ). is_number m (machine_of file k)) n (with_role is file) (is_that_number m (machine_of file n) inside)
      (stands_with one_role file roles is n other here)

  own_list : (is : Role → Bool) (n m : ℕ) → machine_of file n ≡ Some m → own_place is file n ≡ place_in (own_with is file m) n
  own_list is n m inside = ap (λ (o : Option ℕ). place_in (own_with is file (unwrap_or o (length file.doc))) n) inside

  pub own_within : (is : Role → Bool) (n m : ℕ) → is role.Passed ≡ false → is (role_at file n) ≡ true → machine_of file n ≡ Some m
      → own_place is file n < length (own_with is file m)
  own_within is n m other here inside =
      let at = own_list is n m inside in
      let less = place_within n (own_with is file m) (own_stands is n m other here inside) in
      omega (arith, at, less)

  pub own_at : (is : Role → Bool) (n m : ℕ) → is role.Passed ≡ false → is (role_at file n) ≡ true → machine_of file n ≡ Some m
      → slice_get (own_with is file m) (own_place is file n) ≡ Some n
  own_at is n m other here inside =
      ap (slice_get (own_with is file m)) (own_list is n m inside) ∙ at_place n (own_with is file m) (own_stands is n m other here inside)

  -- Its reference leads to its machine, and there to what is made of it.
  machine_at : (is : Role → Bool) (n m : ℕ) → machine_of file n ≡ Some m
      → slice_get (draft_of file).machines (ref_of is file n).machine ≡ Some (parts_at file m)
  machine_at is n m inside =
      ap (λ (o : Option ℕ). slice_get (map (parts_at file) (machines file)) (option_map_or (place_in (machines file)) o (length (machines file)))) inside
      ∙ made_at (parts_at file) (machines file) (place_in (machines file) m) m (at_place m (machines file) (machine_stands n m inside))

  made : {X : Type 0} (f : ℕ → X) (list : DraftParts → List X) (is : Role → Bool) (n m : ℕ)
      → is role.Passed ≡ false → is (role_at file n) ≡ true → machine_of file n ≡ Some m
      → list (parts_at file m) ≡ map f (own_with is file m)
      → option_and_then (λ (p : DraftParts). slice_get (list p) (ref_of is file n).element) (slice_get (draft_of file).machines (ref_of is file n).machine)
      ≡ Some (f n)
  made f list is n m other here inside same =
      ap (option_and_then (λ (p : DraftParts). slice_get (list p) (own_place is file n))) (machine_at is n m inside)
      ∙ ap (λ xs. slice_get xs (own_place is file n)) same
      ∙ made_at f (own_with is file m) (own_place is file n) n (own_at is n m other here inside)

  pub region_ref : (n m : ℕ) → is_region (role_at file n) ≡ true → machine_of file n ≡ Some m → IsRegionRef (draft_of file) (ref_of is_region file n)
  region_ref n m here inside = (region_at file n, made (region_at file) (λ p. p.regions) is_region n m refl here inside refl)

  pub vertex_ref : (n m : ℕ) → is_vertex (role_at file n) ≡ true → machine_of file n ≡ Some m → IsVertexRef (draft_of file) (ref_of is_vertex file n)
  vertex_ref n m here inside = (vertex_at file n, made (vertex_at file) (λ p. p.vertices) is_vertex n m refl here inside refl)

  pub transition_ref : (n m : ℕ) → is_transition (role_at file n) ≡ true → machine_of file n ≡ Some m → IsTransitionRef (draft_of file) (ref_of is_transition file n)
  transition_ref n m here inside = (transition_at file n, made (transition_at file) (λ p. p.transitions) is_transition n m refl here inside refl)
