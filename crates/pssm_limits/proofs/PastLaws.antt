-- Which elements pass a limit, and the first of them.
use Rattle.std.proofs.Common.{◌≡◌, ◌↔◌, ◌≤◌, ◌<◌, ◌+◌, ◌&&◌, ℕ, Bool, true, false, not, min, length, Option, Some, None, refl, sym, ap, subst, ◌∙◌, ⊎_elim, arith, Contains}
use Rattle.std.specs.Prelude.{slice_get, option_map, IsTrue, MatchOption}
use Rattle.std.specs.Option.{option_map_or}
use Rattle.std.proofs.lemmas.Bool.{and_parts, cases_lt}
use Rattle.std.proofs.lemmas.List.{length-map}
use Rattle.std.proofs.lemmas.List.FromFn.{get_or-range_with_len, length-range_with_len}
use Rattle.std.proofs.lemmas.Option.{slice_get-get_or, slice_get_within, get_or_from_slice_get}
use Rattle.pssm_model.specs.DraftSettings.{IsSmallMachine, HasFewVariables}
use Rattle.pssm_xml.specs.Documents.{Element}
use Rattle.pssm_xml.specs.Elements.{BeginsAt}
use Rattle.pssm_roles.specs.declared.role.Role.{Role}
use Rattle.pssm_totals.specs.Totals.{ExtendWithin}
use Rattle.pssm_numbering.specs.Numbering.{ModelFile, role_at, numbers, machines, classes, is_machine, is_class, place_in, with_role}
use Rattle.pssm_numbering.specs.Meanings.{at_of}
use Rattle.pssm_numbering.proofs.ListLaws.{by_test, own_spot_of, stands_there}
use Rattle.pssm_drafting.specs.Drafts.{draft_of, parts_at, class_at}
use Rattle.pssm_limits.specs.declared.past.Tables.{Tables}
use Rattle.pssm_limits.specs.Limits.{PassesLimit, IsFirstPast}
use Rattle.pssm_limits.specs.Limits.PassesLimit.{elements, variables}
use Rattle.pssm_limits.specs.inner.Counts.{are_few}
use Rattle.pssm_limits.specs.inner.Past.{HoldTables, is_large, IsWideClass, least, IsFirstTo, IsFirstBelow}
use Rattle.pssm_limits.proofs.ListLaws.{has_place, item_at}
use Rattle.pssm_limits.proofs.MachineLaws.{small_by_totals}
use Rattle.pssm_limits.proofs.VariableLaws.{filter_of, of_place}

-- ---- places

stands_at : (is : Role → Bool) (file : ModelFile) (n : ℕ) → n < length file.doc → is (role_at file n) ≡ true
    → slice_get (with_role is file) (place_in (with_role is file) n) ≡ Some n
stands_at is file n within here =
    let there = has_place is file n within here in
    slice_get-get_or (with_role is file) (place_in (with_role is file) n) 0 there ∙ ap (λ k. Some k) (stands_there (with_role is file) n 0 there)

one_place : (is : Role → Bool) (file : ModelFile) (n place : ℕ) → slice_get (with_role is file) place ≡ Some n → place_in (with_role is file) n ≡ place
one_place is file n place at =
    let there = slice_get_within (with_role is file) place n at in
    ap (place_in (with_role is file)) (sym (get_or_from_slice_get (with_role is file) place n 0 at))
    ∙ own_spot_of (λ m. is (role_at file m)) (length file.doc) place 0 there

listed : (is : Role → Bool) (file : ModelFile) (n place : ℕ) → slice_get (with_role is file) place ≡ Some n
    → Contains (numbers file) n × (is (role_at file n) ≡ true)
listed is file n place at = filter_of (λ m. is (role_at file m)) (numbers file) n (of_place (with_role is file) place n at)

number_below : (file : ModelFile) (n : ℕ) → Contains (numbers file) n → n < length file.doc
number_below file n (k, lt, e) =
    let width = length-range_with_len 0 (length file.doc) in
    let lt2 : k < length file.doc = omega arith in
    let at = get_or-range_with_len 0 (length file.doc) k n lt2 in
    let same : n ≡ 0 + k = sym e ∙ at in
    omega arith

pub passes_below : (file : ModelFile) (n : ℕ) → PassesLimit file n → n < length file.doc
passes_below file n (elements place at not_small) = number_below file n (listed is_machine file n place at).0
passes_below file n (variables place at not_few) = number_below file n (listed is_class file n place at).0

-- ---- one element

module _ (file : ModelFile) (tables : Tables) (hold : HoldTables file tables) (n : ℕ) (within : n < length file.doc) where
  small_there : is_machine (role_at file n) ≡ true → IsTrue (are_few tables.totals (place_in (machines file) n)) ↔ IsSmallMachine (draft_of file) (place_in (machines file) n)
  small_there here =
      let there = has_place is_machine file n within here in
      let width = length-map (machines file) (parts_at file) in
      small_by_totals (draft_of file) (subst ExtendWithin hold.extends hold.within) (place_in (machines file) n) (omega arith) tables.totals hold.totals

  pub large_passes : is_large file tables n ≡ true → PassesLimit file n
  large_passes is =
      let parts = and_parts (is_machine (role_at file n)) (not (are_few tables.totals (place_in (machines file) n))) is in
      elements (place_in (machines file) n) (stands_at is_machine file n within parts.0)
      (λ small. let few = (small_there parts.0).1 small in let no = parts.1 in cc)

  pub wide_or_not : is_large file tables n ≡ false → PassesLimit file n ↔ IsWideClass file n
  wide_or_not not_large = (
    λ passes. wide passes,
    λ wide. variables (place_in (classes file) n) (stands_at is_class file n within wide.0) wide.1,
  )
    where
      wide : PassesLimit file n → IsWideClass file n
      wide (elements place at not_small) =
          let here = (listed is_machine file n place at).1 in
          by_test (are_few tables.totals (place_in (machines file) n))
          (λ few. absurd (not_small (subst (IsSmallMachine (draft_of file)) (one_place is_machine file n place at) ((small_there here).0 few))))
          (λ many. let is : is_large file tables n ≡ true = ap (λ (b : Bool). b && not (are_few tables.totals (place_in (machines file) n))) here ∙ ap not many in absurd (cc))
      wide (variables place at not_few) = ((listed is_class file n place at).1, not_few)

-- an element that is no class is not one that has too many variables
pub no_class : (file : ModelFile) (n : ℕ) → is_class (role_at file n) ≡ false → IsTrue false ↔ IsWideClass file n
no_class file n none = (λ is. absurd cc, λ wide. let one = wide.0 in absurd cc)

pub wide_by_few : (file : ModelFile) (n : ℕ) (few : Bool) → is_class (role_at file n) ≡ true
    → (IsTrue few ↔ HasFewVariables (draft_of file) (class_at file n)) → IsTrue (not few) ↔ IsWideClass file n
wide_by_few file n true class few = (λ is. absurd cc, λ wide. absurd (wide.1 (few.0 refl)))
wide_by_few file n false class few = (λ is. (class, λ h. let is = few.1 h in absurd cc), λ wide. refl)

-- ---- the first one

pub begins_at : (file : ModelFile) (n : ℕ) → n < length file.doc → BeginsAt file.doc n (at_of file n)
begins_at file n within =
    let item = item_at file.doc n within in
    ap (option_map (λ (e : Element). e.at)) item.1 ∙ ap (λ k. Some k) (sym (ap (λ o. option_map_or (λ (e : Element). e.at) o 0) item.1))

module _ (file : ModelFile) (k : ℕ) where
  old_or_last : (P : Type 0) (m : ℕ) → m < k + 1 → (m < k → P) → (m ≡ k → P) → P
  old_or_last P m lt old last = ⊎_elim old (λ ge. last (omega arith)) (cases_lt m k)

  pub below_passed : (found : Option ℕ) → IsFirstBelow file k found → (PassesLimit file k → ⊥) → IsFirstBelow file (k + 1) found
  below_passed None h out = λ m lt passes. old_or_last ⊥ m lt (λ old. h m old passes) (λ last. out (subst (PassesLimit file) last passes))
  below_passed (Some byte) h out = record {
    n = h.n;
    passes = h.passes;
    begins = h.begins;
    first = λ m at lt passes begins less.
        old_or_last ⊥ m lt (λ old. h.first m at old passes begins less) (λ last. out (subst (PassesLimit file) last passes));
  }

  same_byte : (m at other : ℕ) → BeginsAt file.doc m at → BeginsAt file.doc m other → at ≡ other
  same_byte m at other a b = let both = sym a ∙ b in cc

  pub below_taken : (found : Option ℕ) (byte : ℕ) → IsFirstBelow file k found → PassesLimit file k → BeginsAt file.doc k byte
      → IsFirstBelow file (k + 1) (Some (least found byte))
  below_taken None byte h passes begins = record {
    n = k;
    passes = passes;
    begins = begins;
    first = λ m at lt also there less. old_or_last ⊥ m lt
        (λ old. h m old also)
        (λ last. let same = same_byte k at byte (subst (λ j. BeginsAt file.doc j at) last there) begins in omega arith);
  }
  below_taken (Some before) byte h passes begins =
      ⊎_elim
      (λ earlier. let least_is : min before byte ≡ before = omega arith in
      subst (IsFirstTo file (k + 1)) (sym least_is) (record {
        n = h.n;
        passes = h.passes;
        begins = h.begins;
        first = λ m at lt also there less. old_or_last ⊥ m lt
            (λ old. h.first m at old also there less)
            (λ last. let same = same_byte k at byte (subst (λ j. BeginsAt file.doc j at) last there) begins in omega arith);
      }))
      (λ later. let least_is : min before byte ≡ byte = omega arith in
      subst (IsFirstTo file (k + 1)) (sym least_is) (record {
        n = k;
        passes = passes;
        begins = begins;
        first = λ m at lt also there less. old_or_last ⊥ m lt
            (λ old. h.first m at old also there (omega arith))
            (λ last. let same = same_byte k at byte (subst (λ j. BeginsAt file.doc j at) last there) begins in omega arith);
      }))
      (cases_lt before byte)

pub below_all : (file : ModelFile) (k : ℕ) (found : Option ℕ) → length file.doc ≤ k → IsFirstBelow file k found
    → MatchOption found ((n : ℕ) → PassesLimit file n → ⊥) (λ byte. IsFirstPast file byte)
below_all file k None le h = λ n passes. let below = passes_below file n passes in h n (omega arith) passes
below_all file k (Some byte) le h = record {
  n = h.n;
  passes = h.passes;
  begins = h.begins;
  first = λ m at passes begins less. let below = passes_below file m passes in h.first m at (omega arith) passes begins less;
}
