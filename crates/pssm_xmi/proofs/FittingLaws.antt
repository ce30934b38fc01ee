-- A file without faults has a draft: its numbers fit their types, and its first values are integers.
use Rattle.std.proofs.Common.{◌≡◌, ◌≤◌, ◌<◌, ◌↔◌, ℕ, zero, suc, Bool, List, [], ◌∷◌, length, Some, IsTrue, refl, arith}
use Rattle.std.specs.Prelude.{slice_get, codes}
use Rattle.std.specs.List.{All}
use Rattle.std.proofs.lemmas.List.{length-map}
use Rattle.pssm_model.specs.declared.draft_setting.DraftParts.{DraftParts}
use Rattle.pssm_model.specs.DraftSettings.{IsFew}
use Rattle.pssm_model.specs.DraftSettings.IsOrExtends.{itself}
use Rattle.pssm_roles.specs.declared.role.Role.{Role}
use Rattle.pssm_profile.specs.Kinds.{IsVariable}
use Rattle.pssm_numbering.specs.Numbering.{ModelFile, child_named, children_with, own_with, signals, machines, classes, is_attribute, is_region, is_vertex}
use Rattle.pssm_numbering.specs.Meanings.{is_variable, variables}
use Rattle.pssm_parts.specs.Elements.{region_at, vertex_at}
use Rattle.pssm_drafting.specs.Drafts.{draft_of, parts_at}
use Rattle.pssm_drafting.specs.Fitting.{HasFewParameters, HasIntegerFirst, HasIntegerFirsts, HasFewOwn, FitsDraft}
use Rattle.pssm_xmi.specs.Faultless.{IsFaultless}
use Rattle.pssm_xmi.proofs.Numbers.{StandsIn, stands_at, passing, made_at}
use Rattle.pssm_xmi.proofs.Known.{OneRole}
use Rattle.pssm_xmi.proofs.Limited.{few_signals, few_parameters, few_classes}
use Rattle.pssm_xmi.proofs.Kept.{small_machines}
use Rattle.pssm_xmi.proofs.DefaultLaws.{integer_first}

-- What holds of every element of a list that stands there holds of all.
at_each : (P : ℕ → Type 0) (xs : List ℕ) → ((k n : ℕ) → slice_get xs k ≡ Some n → P n) → All P xs
at_each P [] each k d less = absurd (omega (arith, less))
at_each P (x ∷ xs) each zero d less = each 0 x refl
at_each P (x ∷ xs) each (suc k) d less = at_each P xs (λ j n at. each (suc j) n at) k d (omega (arith, less))

-- A machine by itself keeps the limit where it does with all that it extends.
few_alone : (file : ModelFile) (count : DraftParts → ℕ) (k m : ℕ) → slice_get (machines file) k ≡ Some m
    → IsFew (draft_of file) count k → count (parts_at file m) ≤ 65535
few_alone file count k m at few =
    let le = few (k ∷ []) (parts_at file m ∷ []) (λ i j d before within. absurd (omega (arith, before, within))) (itself, tt)
    (made_at (parts_at file) (machines file) k m at, tt) in
    omega (arith, le)

place_there : (xs : List ℕ) (k n : ℕ) → slice_get xs k ≡ Some n → k < length xs
place_there [] k n at = absurd cc
place_there (x ∷ xs) zero n at = omega arith
place_there (x ∷ xs) (suc k) n at = let less = place_there xs k n at in omega (arith, less)

module _ (one_role : OneRole) (file : ModelFile) (fine : IsFaultless file) where
  few_own : (is : Role → Bool) (count : DraftParts → ℕ) → ((k : ℕ) → k < length (machines file) → IsFew (draft_of file) count k)
      → ((m : ℕ) → count (parts_at file m) ≡ length (own_with is file m)) → HasFewOwn is file
  few_own is count few same =
      at_each (λ m. length (own_with is file m) ≤ 65535) (machines file)
      (λ k m at. let le = few_alone file count k m at (few k (place_there (machines file) k m at)) in let own = same m in omega (arith, le, own))

  small_there : (k : ℕ) → k < length (machines file) → k < length (draft_of file).machines
  small_there k less = let same = length-map (machines file) (parts_at file) in omega (arith, less, same)

  -- The default of a variable is an integer.
  first_is : ((n : ℕ) → IsTrue (is_variable file n) → IsVariable file.doc n) → (c v : ℕ) → StandsIn v (variables file c) → HasIntegerFirst file v
  first_is variable c v stands =
      let passes = (passing (is_variable file) v (children_with is_attribute file c) stands).0 in
      integer_first file.doc fine.profile v (variable v passes) (child_named (codes "defaultValue") file v) refl

  pub fits : ((n : ℕ) → IsTrue (is_variable file n) ↔ IsVariable file.doc n) → FitsDraft file
  fits variable = record {
    few_signals = few_signals one_role file fine;
    few_parameters = at_each (HasFewParameters file) (signals file) (λ k s at. few_parameters one_role file fine s);
    few_classes = few_classes one_role file fine;
    few_regions = few_own is_region (λ p. length p.regions) (λ k less. (small_machines file fine.limits k (small_there k less)).regions)
        (λ m. length-map (own_with is_region file m) (region_at file));
    few_vertices = few_own is_vertex (λ p. length p.vertices) (λ k less. (small_machines file fine.limits k (small_there k less)).vertices)
        (λ m. length-map (own_with is_vertex file m) (vertex_at file));
    integers = at_each (HasIntegerFirsts file) (classes file)
        (λ k c at. at_each (HasIntegerFirst file) (variables file c)
        (λ j v there. first_is (λ n t. (variable n).0 t) c v (stands_at (variables file c) j v there)));
  }
