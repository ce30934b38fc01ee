-- References of a draft that lead to what there is.
use Rattle.std.proofs.Common.{◌≡◌, ◌<◌, ◌||◌, ℕ, Bool, true, false, List, length, filter, Option, Some, None, IfSome, refl, sym, subst, arith}
use Rattle.std.specs.Prelude.{codes, unwrap_or, option_map, if◌then◌else◌}
use Rattle.std.proofs.lemmas.List.{length-map}
use Rattle.pssm_model.specs.declared.ids.SignalId.{SignalId}
use Rattle.pssm_model.specs.declared.draft_setting.ElementRef.{ElementRef}
use Rattle.pssm_model.specs.DraftSettings.{IsRegionRef, IsVertexRef, IsTransitionRef, AreSignals, EndInRange}
use Rattle.pssm_roles.specs.declared.role.Role.{Role}
use Rattle.pssm_roles.specs.declared.role.Role.TheVariants as role
use Rattle.pssm_roles.specs.Roles.{HasRole}
use Rattle.pssm_numbering.specs.Numbering.{ModelFile, role_at, signals, machines, place_in, is_machine, is_region, is_vertex, is_transition}
use Rattle.pssm_numbering.specs.Meanings.{if_with, waits_for}
use Rattle.pssm_numbering.specs.Lists.{ref_of}
use Rattle.pssm_parts.specs.Elements.{ref_if, signals_at, end_at}
use Rattle.pssm_drafting.specs.Drafts.{draft_of, signal_at, parts_at}
use Rattle.pssm_xmi.specs.Faultless.{IsFaultless}
use Rattle.pssm_xmi.proofs.Numbers.{passing, place_within, all_made}
use Rattle.pssm_xmi.proofs.Known.{OneRole, stands_with}
use Rattle.pssm_xmi.proofs.Parts.{is_part}
use Rattle.pssm_xmi.proofs.Inside.{stands_inside}
use Rattle.pssm_xmi.proofs.Places.{region_ref, vertex_ref, transition_ref}
use Rattle.pssm_xmi.proofs.Ends.{source_met, target_met}

-- ---- parts by their tests

some_of : (g v t : Bool) → ((g ≡ true) → (g || v || t) ≡ true) × ((v ≡ true) → (g || v || t) ≡ true) × ((t ≡ true) → (g || v || t) ≡ true)
some_of true v t = (λ e. refl, λ e. refl, λ e. refl)
some_of false true t = (λ e. absurd (cc), λ e. refl, λ e. refl)
some_of false false true = (λ e. absurd (cc), λ e. absurd (cc), λ e. refl)
some_of false false false = (λ e. absurd (cc), λ e. absurd (cc), λ e. absurd (cc))

pub region_part : (r : Role) → is_region r ≡ true → is_part r ≡ true
region_part r is = (some_of (is_region r) (is_vertex r) (is_transition r)).0 is

pub vertex_part : (r : Role) → is_vertex r ≡ true → is_part r ≡ true
vertex_part r is = (some_of (is_region r) (is_vertex r) (is_transition r)).1 is

pub transition_part : (r : Role) → is_transition r ≡ true → is_part r ≡ true
transition_part r is = (some_of (is_region r) (is_vertex r) (is_transition r)).2 is

-- ---- what may be absent

if_found : (P : ElementRef → Type 0) (is : Role → Bool) (file : ModelFile) → ((n : ℕ) → is (role_at file n) ≡ true → P (ref_of is file n))
    → (found : Option ℕ) → IfSome (ref_if is file found) P
if_found P is file each None = tt
if_found P is file each (Some n) = by_kind (is (role_at file n)) (each n) where
  by_kind : (b : Bool) → (b ≡ true → P (ref_of is file n)) → IfSome (if b then Some (ref_of is file n) else None) P
  by_kind true each = each refl
  by_kind false each = tt

module _ (one_role : OneRole) (file : ModelFile) (fine : IsFaultless file) where
  region_there : (n : ℕ) → is_region (role_at file n) ≡ true → IsRegionRef (draft_of file) (ref_of is_region file n)
  region_there n here =
      let m = stands_inside one_role file fine.roles fine.ordered n (region_part (role_at file n) here) in
      region_ref one_role file fine.roles n m.0 here m.1

  vertex_there : (n : ℕ) → is_vertex (role_at file n) ≡ true → IsVertexRef (draft_of file) (ref_of is_vertex file n)
  vertex_there n here =
      let m = stands_inside one_role file fine.roles fine.ordered n (vertex_part (role_at file n) here) in
      vertex_ref one_role file fine.roles n m.0 here m.1

  transition_there : (n : ℕ) → is_transition (role_at file n) ≡ true → IsTransitionRef (draft_of file) (ref_of is_transition file n)
  transition_there n here =
      let m = stands_inside one_role file fine.roles fine.ordered n (transition_part (role_at file n) here) in
      transition_ref one_role file fine.roles n m.0 here m.1

  pub regions_there : (found : Option ℕ) → IfSome (ref_if is_region file found) (IsRegionRef (draft_of file))
  regions_there found = if_found (IsRegionRef (draft_of file)) is_region file region_there found

  pub vertices_there : (found : Option ℕ) → IfSome (ref_if is_vertex file found) (IsVertexRef (draft_of file))
  vertices_there found = if_found (IsVertexRef (draft_of file)) is_vertex file vertex_there found

  pub transitions_there : (found : Option ℕ) → IfSome (ref_if is_transition file found) (IsTransitionRef (draft_of file))
  transitions_there found = if_found (IsTransitionRef (draft_of file)) is_transition file transition_there found

  pub machine_there : (found : Option ℕ) → IfSome (option_map (place_in (machines file)) (if_with is_machine file found)) (λ m. m < length (draft_of file).machines)
  machine_there None = tt
  machine_there (Some n) = by_kind (is_machine (role_at file n)) refl where
    by_kind : (b : Bool) → is_machine (role_at file n) ≡ b
        → IfSome (option_map (place_in (machines file)) (if b then Some n else None)) (λ m. m < length (draft_of file).machines)
    by_kind true here =
        let less = place_within n (machines file) (stands_with one_role file fine.roles is_machine n refl here) in
        let same = length-map (machines file) (parts_at file) in omega (arith, less, same)
    by_kind false other = tt

  -- ---- ends

  pub source_there : (n : ℕ) → HasRole file.doc n role.Transition → EndInRange (draft_of file) (end_at (codes "source") file n)
  source_there n has =
      let m = source_met one_role file fine n has in
      subst (λ (o : Option ℕ). IsVertexRef (draft_of file) (ref_of is_vertex file (unwrap_or o (length file.doc)))) (sym m.1) (vertex_there m.0 m.2)

  pub target_there : (n : ℕ) → HasRole file.doc n role.Transition → EndInRange (draft_of file) (end_at (codes "target") file n)
  target_there n has =
      let m = target_met one_role file fine n has in
      subst (λ (o : Option ℕ). IsVertexRef (draft_of file) (ref_of is_vertex file (unwrap_or o (length file.doc)))) (sym m.1) (vertex_there m.0 m.2)

-- ---- signals

pub signals_there : (file : ModelFile) (name : List ℕ) (n : ℕ) → AreSignals (draft_of file) (signals_at name file n)
signals_there file name n =
    all_made (λ (g : SignalId). g.0 < length (draft_of file).signals) (λ s. let g : SignalId = record { 0 = place_in (signals file) s } in g)
    (filter (waits_for name file n) (signals file))
    (λ s stands. let less = place_within s (signals file) (passing (waits_for name file n) s (signals file) stands).1 in
    let same = length-map (signals file) (signal_at file) in omega (arith, less, same))
