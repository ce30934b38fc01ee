-- Whether a machine keeps the limits, by its totals.
use Rattle.std.proofs.Common.{◌<◌, ◌↔◌, ◌&&◌, ℕ, Bool, true, false, List, length, refl, arith}
use Rattle.std.specs.Prelude.{IsTrue}
use Rattle.pssm_model.specs.declared.draft_setting.Draft.{Draft}
use Rattle.pssm_model.specs.declared.draft_setting.DraftParts.{DraftParts}
use Rattle.pssm_model.specs.DraftSettings.{IsFew, IsSmallMachine}
use Rattle.pssm_totals.specs.Totals.{AreTotals, ExtendWithin, extends_of, counts_of}
use Rattle.pssm_totals.proofs.DraftLaws.{few_in_totals}
use Rattle.pssm_limits.specs.declared.machines.Totals.{Totals}
use Rattle.pssm_limits.specs.declared.counts.Counted.TheVariants as counted
use Rattle.pssm_limits.specs.inner.Counts.{count_by, keeps_limit, are_few, HoldTotals}

module _ (draft : Draft) (within : ExtendWithin (extends_of draft)) (k : ℕ) (there : k < length draft.machines) where
  one_kind : (count : DraftParts → ℕ) (totals : List ℕ) → AreTotals (extends_of draft) (counts_of count draft) totals
      → IsTrue (keeps_limit totals k) ↔ IsFew draft count k
  one_kind count totals are =
      let few = few_in_totals draft count totals k within are there in
      (λ is. few.0 (grind (arith, is)), λ is. let le = few.1 is in grind (arith, le))

  by_parts : (a b c d : Bool) → (IsTrue a ↔ IsFew draft (count_by counted.Regions) k) → (IsTrue b ↔ IsFew draft (count_by counted.Vertices) k)
      → (IsTrue c ↔ IsFew draft (count_by counted.Transitions) k) → (IsTrue d ↔ IsFew draft (count_by counted.Bodies) k)
      → IsTrue (a && b && c && d) → IsSmallMachine draft k
  by_parts true true true true regions vertices transitions bodies all =
      record { regions = regions.0 refl; vertices = vertices.0 refl; transitions = transitions.0 refl; bodies = bodies.0 refl }
  by_parts true true true false regions vertices transitions bodies all = absurd cc
  by_parts true true false d regions vertices transitions bodies all = absurd cc
  by_parts true false c d regions vertices transitions bodies all = absurd cc
  by_parts false b c d regions vertices transitions bodies all = absurd cc

  pub small_by_totals : (totals : Totals) → HoldTotals draft totals → IsTrue (are_few totals k) ↔ IsSmallMachine draft k
  small_by_totals totals hold =
      let regions = one_kind (count_by counted.Regions) totals.regions.items hold.regions in
      let vertices = one_kind (count_by counted.Vertices) totals.vertices.items hold.vertices in
      let transitions = one_kind (count_by counted.Transitions) totals.transitions.items hold.transitions in
      let bodies = one_kind (count_by counted.Bodies) totals.bodies.items hold.bodies in (
        by_parts _ _ _ _ regions vertices transitions bodies,
        λ small. let a = regions.1 small.regions in let b = vertices.1 small.vertices in let c = transitions.1 small.transitions in let d = bodies.1 small.bodies in cc,
      )
