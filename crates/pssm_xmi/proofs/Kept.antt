-- Limits that are not passed are kept.
use Rattle.std.proofs.Common.{◌≡◌, ◌<◌, ◌≤◌, ℕ, true, leb, length, arith}
use Rattle.std.specs.Prelude.{sum_by}
use Rattle.std.proofs.lemmas.List.{length-map}
use Rattle.pssm_model.specs.declared.draft_setting.Draft.{Draft}
use Rattle.pssm_model.specs.declared.draft_setting.DraftClass.{DraftClass}
use Rattle.pssm_model.specs.declared.draft_setting.DraftParts.{DraftParts}
use Rattle.pssm_model.specs.DraftSettings.{IsFew, IsSmallMachine, HasFewVariables, body_count, most_elements, most_variables}
use Rattle.pssm_profile.proofs.ChildLaws.{element_there}
use Rattle.pssm_numbering.specs.Numbering.{ModelFile, machines, classes, place_in}
use Rattle.pssm_drafting.specs.Drafts.{draft_of, class_at, parts_at}
use Rattle.pssm_limits.specs.Limits.PassesLimit.{elements, variables}
use Rattle.pssm_xmi.specs.Faultless.{HasNoLimitPassed}
use Rattle.pssm_xmi.proofs.Numbers.{StandsIn, at_place}
use Rattle.pssm_xmi.proofs.Tests.{by_test}

decided : (a b : ℕ) → ((a ≤ b → ⊥) → ⊥) → a ≤ b
decided a b not_more =
    by_test (leb a b)
    (λ e. grind (arith, e))
    (λ e. absurd (not_more (λ le. let wrong : leb a b ≡ true = grind (arith, le) in absurd (cc))))

few_kept : (draft : Draft) (count : DraftParts → ℕ) (m : ℕ) → ((IsFew draft count m → ⊥) → ⊥) → IsFew draft count m
few_kept draft count m kept machines parts apart all are =
    decided (sum_by count parts) most_elements (λ more. kept (λ few. more (few machines parts apart all are)))

small_kept : (draft : Draft) (m : ℕ) → ((IsSmallMachine draft m → ⊥) → ⊥) → IsSmallMachine draft m
small_kept draft m kept = record {
  regions = few_kept draft (λ p. length p.regions) m (λ not_few. kept (λ small. not_few small.regions));
  vertices = few_kept draft (λ p. length p.vertices) m (λ not_few. kept (λ small. not_few small.vertices));
  transitions = few_kept draft (λ p. length p.transitions) m (λ not_few. kept (λ small. not_few small.transitions));
  bodies = few_kept draft body_count m (λ not_few. kept (λ small. not_few small.bodies));
}

variables_kept : (draft : Draft) (class : DraftClass) → ((HasFewVariables draft class → ⊥) → ⊥) → HasFewVariables draft class
variables_kept draft class kept names apart all =
    decided (length names) most_variables (λ more. kept (λ few. more (few names apart all)))

module _ (file : ModelFile) (limits : HasNoLimitPassed file) where
  -- Every machine of the draft is small.
  pub small_machines : (m : ℕ) → m < length (draft_of file).machines → IsSmallMachine (draft_of file) m
  small_machines m less =
      let same = length-map (machines file) (parts_at file) in
      let here = element_there (machines file) m (omega (arith, less, same)) in
      small_kept (draft_of file) m (λ large. limits here.0 (elements m here.1 large))

  -- Every class of the draft has few variables.
  pub few_variables : (c : ℕ) → StandsIn c (classes file) → HasFewVariables (draft_of file) (class_at file c)
  few_variables c stands =
      variables_kept (draft_of file) (class_at file c) (λ many. limits c (variables (place_in (classes file) c) (at_place c (classes file) stands) many))
