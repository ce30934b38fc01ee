-- The first fault of all elements is the first of the file.
use Rattle.std.proofs.Common.{◌≡◌, ◌<◌, ◌≤◌, ◌⊎◌, ◌∙◌, ℕ, zero, suc, Bool, true, false, cond, ltb, List, [], ◌∷◌, length, Option, Some, None, refl, sym, ap, subst, inl, inr, arith}
use Rattle.std.specs.Prelude.{Contains, slice_get, option_map, unwrap_or}
use Rattle.std.specs.Option.{option_map_or, MatchOption}
use Rattle.pssm_xml.specs.Documents.{Element}
use Rattle.pssm_xml.specs.Elements.{BeginsAt}
use Rattle.pssm_roles.specs.References.{references}
use Rattle.pssm_roles.specs.Roles.{AreRolesOf}
use Rattle.pssm_roles.specs.declared.role.Role.{Role}
use Rattle.pssm_roles.specs.declared.role.Role.TheVariants as role
use Rattle.pssm_numbering.specs.Numbering.{ModelFile, role_at}
use Rattle.pssm_numbering.specs.Meanings.{at_of}
use Rattle.pssm_unmet.specs.declared.following.Target.{Target}
use Rattle.pssm_unmet.specs.declared.unmet.Unmet.{Unmet}
use Rattle.pssm_unmet.specs.declared.unmet.Unmet.TheVariants as unmet
use Rattle.pssm_unmet.specs.References.{Followed, followed_of, is_known, means_other_event, IsUnmet}
use Rattle.pssm_unmet.specs.Unmet.{HasUnmet, HasNoUnmet, IsFirstUnmet}
use Rattle.pssm_unmet.specs.Unmet.HasUnmet.{unknown, event}
use Rattle.pssm_unmet.specs.inner.Found.{fault_at, unmet_at, with_reference, with_name, with_element, first_before, order}
use Rattle.pssm_unmet.proofs.FirstLaws.{IsFirstOf, one_more, comes_before, Among, into_among, out_of_among, folded}
use Rattle.pssm_unmet.proofs.ReferenceLaws.{stand_in, among_stands}

module _ (file : ModelFile) where
  -- ---- what was asked

  -- the fault of a reference
  abbrev pub OfReference : Target → ℕ → ℕ × List ℕ → Unmet → Type 0
  OfReference target n r u = unmet_at file target n r ≡ Some u

  -- of one under a name
  abbrev pub OfName : ℕ → Followed → Unmet → Type 0
  OfName n f u = Among (OfReference f.target n) (references file.doc n f.name) u

  -- of one of an element
  abbrev pub OfElement : ℕ → Unmet → Type 0
  OfElement n u = Among (OfName n) (followed_of (role_at file n)) u

  -- of one of the elements before this one
  abbrev pub Before : ℕ → Unmet → Type 0
  Before zero u = ⊥
  Before (suc n) u = Before n u ⊎ OfElement n u

  name_first : (n : ℕ) (P : Unmet → Type 0) (o : Option Unmet) (f : Followed) → IsFirstOf P o → IsFirstOf (λ u. P u ⊎ OfName n f u) (with_name file n o f)
  name_first n P o f first =
      folded (with_reference file f.target n) (OfReference f.target n) (λ P o r before. one_more P o (unmet_at file f.target n r) before)
      (references file.doc n f.name) P o first

  element_first : (n : ℕ) (P : Unmet → Type 0) (o : Option Unmet) → IsFirstOf P o → IsFirstOf (λ u. P u ⊎ OfElement n u) (with_element file o n)
  element_first n P o first = folded (with_name file n) (OfName n) (name_first n) (followed_of (role_at file n)) P o first

  before_first : (n : ℕ) → IsFirstOf (Before n) (first_before file n)
  before_first zero = record { has = λ u is. absurd cc; least = λ u before. absurd before }
  before_first (suc n) = element_first n (Before n) (first_before file n) (before_first n)

  into_before : (k n : ℕ) (u : Unmet) → n < k → OfElement n u → Before k u
  into_before zero n u less own = absurd (omega (arith, less))
  into_before (suc k) n u less own = by_test (ltb n k) refl (λ earlier. into_before k n u earlier own) where
    by_test : (t : Bool) → ltb n k ≡ t → (n < k → Before k u) → Before (suc k) u
    by_test true is further = inl (further (grind (arith, is)))
    by_test false is further = let here : n ≡ k = grind (arith, is, less) in inr (subst (λ (m : ℕ). OfElement m u) here own)

  out_of_before : (k : ℕ) (u : Unmet) → Before k u → (n : ℕ) × (n < k) × OfElement n u
  out_of_before zero u before = absurd before
  out_of_before (suc k) u (inl before) = let more = out_of_before k u before in let less = more.1 in (more.0, omega (arith, less), more.2)
  out_of_before (suc k) u (inr own) = (k, omega arith, own)

  -- ---- from a fault

  passed : (n : ℕ) (f : Followed) → slice_get file.roles n ≡ None → Contains (followed_of (role_at file n)) f → ⊥
  passed n f none some =
      let asked : Contains (followed_of role.Passed) f = subst (λ (o : Option Role). Contains (followed_of (unwrap_or o role.Passed)) f) none some in
      let less = asked.1 in omega (arith, less)

  in_list : {X : Type 0} (xs : List X) (n : ℕ) (x : X) → slice_get xs n ≡ Some x → n < length xs
  in_list [] n x at = absurd cc
  in_list (y ∷ xs) zero x at = omega arith
  in_list (y ∷ xs) (suc n) x at = let more = in_list xs n x at in omega (arith, more)

  module _ (are : AreRolesOf file.doc file.roles) where
    in_file : (n : ℕ) (f : Followed) → Contains (followed_of (role_at file n)) f → n < length file.doc
    in_file n f some = by_role (slice_get file.roles n) refl where
      by_role : (o : Option Role) → slice_get file.roles n ≡ o → n < length file.doc
      by_role None is = absurd (passed n f is some)
      by_role (Some r) is = let less = in_list file.roles n r is in let counted = are.counted in omega (arith, less, counted)

    begins : (at byte : ℕ) → BeginsAt file.doc at byte → at_of file at ≡ byte
    begins at byte is = by_element (slice_get file.doc at) is where
      by_element : (o : Option Element) → option_map (λ (e : Element). e.at) o ≡ Some byte → option_map_or (λ (e : Element). e.at) o 0 ≡ byte
      by_element None is = absurd cc
      by_element (Some e) is = cc

    there : (target : Target) (at byte : ℕ) (id : List ℕ) (other : Bool) → IsUnmet file target at id → means_other_event file target id ≡ other
        → BeginsAt file.doc at byte → Before (length file.doc) (fault_at other byte)
    there target at byte id other is means at_byte =
        let found : unmet_at file target is.n (at, id) ≡ Some (fault_at other byte) =
        ap (λ (b : Bool). cond b None (Some (fault_at (means_other_event file target id) (at_of file at)))) is.unmet
        ∙ ap (λ (b : Bool). Some (fault_at b (at_of file at))) means ∙ ap (λ (k : ℕ). Some (fault_at other k)) (begins at byte at_byte) in
        into_before (length file.doc) is.n (fault_at other byte) (in_file is.n _ is.asked)
        (into_among (OfName is.n) (followed_of (role_at file is.n)) (fault_at other byte) _ is.asked
        (into_among (OfReference target is.n) (references file.doc is.n is.name) (fault_at other byte) (at, id) is.among found))

    pub has_before : (u : Unmet) → HasUnmet file u → Before (length file.doc) u
    has_before (unmet.Unknown _) (unknown {target = target} {at = at} {byte = byte} {id = id} is means at_byte) = there target at byte id false is means at_byte
    has_before (unmet.Event _) (event {target = target} {at = at} {byte = byte} {id = id} is means at_byte) = there target at byte id true is means at_byte

    -- ---- to a fault

    at_byte : (at : ℕ) (doc : List Element) → at < length doc → BeginsAt doc at (option_map_or (λ (e : Element). e.at) (slice_get doc at) 0)
    at_byte at [] less = absurd (omega (arith, less))
    at_byte zero (e ∷ doc) less = refl
    at_byte (suc at) (e ∷ doc) less = at_byte at doc (omega (arith, less))

    told : (target : Target) (at : ℕ) (id : List ℕ) (other : Bool) → means_other_event file target id ≡ other → IsUnmet file target at id → at < length file.doc
        → HasUnmet file (fault_at other (at_of file at))
    told target at id true means is less = event is means (at_byte at file.doc less)
    told target at id false means is less = unknown is means (at_byte at file.doc less)

    known : (b : Bool) (one u : Unmet) → cond b None (Some one) ≡ Some u → (b ≡ false) × (one ≡ u)
    known true one u is = absurd cc
    known false one u is = (refl, cc)

    back : (u : Unmet) → Before (length file.doc) u → HasUnmet file u
    back u before =
        let of = out_of_before (length file.doc) u before in let n = of.0 in
        let by_name = out_of_among (OfName n) (followed_of (role_at file n)) u of.2 in let f = by_name.0 in
        let by_reference = out_of_among (OfReference f.target n) (references file.doc n f.name) u by_name.2 in let r = by_reference.0 in
        let other = means_other_event file f.target r.1 in
        let is = known (is_known file f.target n r.1) (fault_at other (at_of file r.0)) u by_reference.2 in
        let less = among_stands (length file.doc) (references file.doc n f.name) r by_reference.1 (stand_in file.doc n f.name of.1) in
        subst (HasUnmet file) is.1
        (told f.target r.0 r.1 other refl (record { n = n; name = f.name; asked = by_name.1; among = by_reference.1; unmet = is.0 }) less)

    -- ---- the first

    pub first_found : (o : Option Unmet) → o ≡ first_before file (length file.doc)
        → MatchOption o (HasNoUnmet file) (λ u. IsFirstUnmet file u)
    first_found o is = by_found o (subst (IsFirstOf (Before (length file.doc))) (sym is) (before_first (length file.doc))) where
      by_found : (o : Option Unmet) → IsFirstOf (Before (length file.doc)) o → MatchOption o (HasNoUnmet file) (λ u. IsFirstUnmet file u)
      by_found None first = λ u has. first.least u (has_before u has)
      by_found (Some one) first = record {
        has = back one (first.has one refl);
        first = λ other has comes.
            let most : order one ≤ order other = first.least other (has_before other has) in
            let less = comes_before other one comes in
            omega (arith, most, less);
      }
