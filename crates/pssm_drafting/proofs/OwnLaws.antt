-- The places of elements fit their types, and the place of one that is not there.
use Rattle.std.proofs.Common.{◌≡◌, ◌<◌, ◌≤◌, ℕ, Bool, true, cond, List}
use Rattle.std.proofs.Common.{length, Option, Some, None, Fits, w16, refl, sym, ap, subst, ◌∙◌, arith}
use Rattle.std.specs.Prelude.{unwrap_or}
use Rattle.std.specs.Option.{option_map_or, option_and_then}
use Rattle.std.proofs.lemmas.List.Elements.{All-get_or}
use Rattle.std.proofs.lemmas.Option.{slice_get_past}
use Rattle.pssm_xml.specs.Documents.{Element}
use Rattle.pssm_model.specs.declared.draft_setting.ElementRef.{ElementRef}
use Rattle.pssm_roles.specs.declared.role.Role.{Role}
use Rattle.pssm_roles.specs.declared.role.Role.TheVariants as role
use Rattle.pssm_numbering.specs.Numbering.{ModelFile, role_at, parent_of, machines, machine_of, machine_within}
use Rattle.pssm_numbering.specs.Numbering.{own_with, own_place, beside, place_in, is_machine, is_vertex}
use Rattle.pssm_numbering.specs.Lists.{ref_of}
use Rattle.pssm_numbering.proofs.ListLaws.{stands_there}
use Rattle.pssm_numbering.proofs.MachineLaws.{place_there}
use Rattle.pssm_numbering.proofs.GroupLaws.{none_beside}
use Rattle.pssm_model.specs.declared.draft_setting.End.TheVariants as ends
use Rattle.pssm_numbering.specs.Meanings.{meant}
use Rattle.pssm_parts.specs.Elements.{ref_if, end_at}
use Rattle.pssm_drafting.specs.Fitting.{HasFewOwn}
use Rattle.pssm_drafting.proofs.ListLaws.{place_short}

-- ---- numbers

module _ (is : Role → Bool) (file : ModelFile) (counted : length file.roles ≡ length file.doc) (few : HasFewOwn is file) where
  few_own : (m : ℕ) → place_in (machines file) m < length (machines file) → length (own_with is file m) ≤ 65535
  few_own m less =
      subst (λ k. length (own_with is file k) ≤ 65535) (stands_there (machines file) m 0 less)
      (All-get_or (λ k. length (own_with is file k) ≤ 65535) (machines file) (place_in (machines file) m) 0 less few)

  few_beside : (n : ℕ) → length (beside is file n) ≤ 65535
  few_beside n = by_machine (machine_of file n) refl where
    by_machine : (o : Option ℕ) → machine_of file n ≡ o → length (beside is file n) ≤ 65535
    by_machine None none = let e = none_beside file is n counted none in omega arith
    by_machine (Some m) some =
        subst (λ (o : Option ℕ). length (own_with is file (unwrap_or o (length file.doc))) ≤ 65535) (sym some)
        (few_own m (place_there file n m counted some))

  -- the number of an element in its machine fits
  pub own_fits : (numbered : ModelFile) (n place : ℕ) → numbered ≡ file → place ≡ own_place is numbered n → Fits w16 place
  own_fits numbered n place same at =
      let e = ap (λ (f : ModelFile). own_place is f n) same in
      let short = place_short (beside is file n) n in
      let few = few_beside n in
      omega arith

-- ---- references

pub ref_there : (is : Role → Bool) (file numbered : ModelFile) (found : Option ℕ) (m : ℕ) (r : ElementRef)
    → found ≡ Some m → is (role_at file m) ≡ true → numbered ≡ file → r ≡ ref_of is numbered m → Some r ≡ ref_if is file found
ref_there is file numbered found m r there here same at =
    ap Some (at ∙ ap (λ (f : ModelFile). ref_of is f m) same)
    ∙ sym (ap (λ (b : Bool). cond b (Some (ref_of is file m)) None) here)
    ∙ sym (ap (ref_if is file) there)

pub end_there : (name : List ℕ) (file numbered : ModelFile) (n m : ℕ) (found : Option ℕ) (r : ElementRef)
    → found ≡ meant name file n → found ≡ Some m → numbered ≡ file → r ≡ ref_of is_vertex numbered m → ends.Vertex r ≡ end_at name file n
end_there name file numbered n m found r means is same at =
    ap (λ (e : ElementRef). ends.Vertex e)
    (at
    ∙ ap (λ (f : ModelFile). ref_of is_vertex f m) same
    ∙ ap (λ (o : Option ℕ). ref_of is_vertex file (unwrap_or o (length file.doc))) (sym is ∙ means))

-- ---- past the end

nothing_in : (xs : List ℕ) (n : ℕ) → length xs ≡ 0 → place_in xs n ≡ 0
nothing_in xs n none = let short = place_short xs n in omega arith

module _ (file : ModelFile) (counted : length file.roles ≡ length file.doc) where
  no_machine : machine_of file (length file.doc) ≡ None
  no_machine =
      let r : role_at file (length file.doc) ≡ role.Passed
      = ap (λ (o : Option Role). unwrap_or o role.Passed) (slice_get_past file.roles (length file.doc) (omega arith)) in
      let p : parent_of file (length file.doc) ≡ None
      = ap (λ (o : Option Element). option_and_then (λ (e : Element). e.parent) o) (slice_get_past file.doc (length file.doc) (omega arith)) in
      ap (λ (q : Role). cond (is_machine q) (Some (length file.doc))
      (option_and_then (machine_within (length file.doc) file) (parent_of file (length file.doc)))) r
      ∙ ap (λ (o : Option ℕ). option_and_then (machine_within (length file.doc) file) o) p

  -- the place of a vertex that is not there
  pub past_vertex : (count : ℕ) → count ≡ length (machines file)
      → (let e : ElementRef = record { machine = count; element = 0 } in e) ≡ ref_of is_vertex file (length file.doc)
  past_vertex count is =
      let m : length (machines file) ≡ option_map_or (place_in (machines file)) (machine_of file (length file.doc)) (length (machines file))
      = sym (ap (λ (o : Option ℕ). option_map_or (place_in (machines file)) o (length (machines file))) no_machine) in
      let p : 0 ≡ own_place is_vertex file (length file.doc)
      = sym (nothing_in (beside is_vertex file (length file.doc)) (length file.doc)
      (none_beside file is_vertex (length file.doc) counted no_machine)) in
      ap (λ (k : ℕ). let e : ElementRef = record { machine = k; element = 0 } in e) (is ∙ m)
      ∙ ap (λ (k : ℕ). let e : ElementRef = record {
        machine = option_map_or (place_in (machines file)) (machine_of file (length file.doc)) (length (machines file));
        element = k;
      } in e) p
