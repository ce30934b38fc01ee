-- A flat draft has few bodies.
use Rattle.std.proofs.Common.{◌≡◌, ◌≤◌, ℕ, suc, List, [], ◌∷◌, length, Some, refl, sym, ap, ◌∙◌, arith}
use Rattle.std.specs.Prelude.{IsPermutation}
use Rattle.std.proofs.lemmas.List.{length-map}
use Rattle.std.proofs.lemmas.List.Sorted.{sum_by-IsPermutation}
use Rattle.pssm_model.specs.declared.draft_setting.Draft.{Draft}
use Rattle.pssm_model.specs.declared.draft_setting.FlatDraft.{FlatDraft}
use Rattle.pssm_model.specs.DraftSettings.{IsInRange}
use Rattle.pssm_redefine.specs.Bodies.{places_from}
use Rattle.pssm_redefine.specs.Merging.{slots_of}
use Rattle.pssm_redefine.specs.Flattening.{Flattens}
use Rattle.pssm_redefine.proofs.StandLaws.{few_bodies}
use Rattle.pssm_redefine.proofs.SumLaws.{added, added_is}

ones : {X : Type 0} (xs : List X) → added (λ x. 1) xs ≡ length xs
ones [] = refl
ones (x ∷ xs) = omega (arith, ones xs)

-- A permutation has as many elements.
as_many : {X : Type 0} (xs ys : List X) → IsPermutation xs ys → length ys ≡ length xs
as_many xs ys permuted =
    sym (ones ys) ∙ added_is (λ x. 1) ys ∙ sum_by-IsPermutation (λ x. 1) xs ys permuted ∙ sym (added_is (λ x. 1) xs) ∙ ones xs

pub flat_bodies_few : (draft : Draft) (class : ℕ) (flat : FlatDraft) → IsInRange draft → Flattens draft class flat → length flat.bodies ≤ 65536
flat_bodies_few draft class flat range flattens =
    let whole = flattens.flattened in
    let slots = slots_of draft whole.gathered.vertices whole.gathered.transitions in
    let few : length (places_from 0 slots) ≤ 65535 = few_bodies draft flattens.of.machine whole.lineage whole.gathered range whole.inherits whole.gathers in
    let order = whole.merged.order in
    let same : length order ≡ length (places_from 0 slots) = as_many (places_from 0 slots) order whole.merged.ordered.same in
    let stand : length flat.bodies ≡ suc (length order) =
    sym (length-map flat.bodies Some) ∙ ap length whole.merged.bodies ∙ ap suc (length-map order _) in
    omega (arith, few, same, stand)
