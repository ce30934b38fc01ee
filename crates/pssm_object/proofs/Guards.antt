-- The value of a guard is the same on the parameters as on these continued by zeros.
use Rattle.std.proofs.Common.{◌≡◌, ◌≤◌, length, Bool, false, Option, Some, slice_get, sym, ap, ◌∙◌}
use Rattle.std.specs.Option.{option_map_or}
use Rattle.pssm_model.specs.declared.ids.GuardId.{GuardId}
use Rattle.pssm_semantics.specs.declared.tree.Cond.{Cond}
use Rattle.pssm_semantics.specs.declared.setting.Class.{Class}
use Rattle.pssm_semantics.specs.Values.{Store, Params, eight_of, truth_of}
use Rattle.pssm_semantics.specs.Behaviours.{guards_under}
use Rattle.pssm_object.proofs.EightParameters.{truth_eight}

module _ (class : Class) (store : Store) (params : Params) (guard : GuardId) where
  by_cond : Option Cond → Bool
  by_cond found = option_map_or (λ (k : Cond). truth_of k store (eight_of params)) found false

  pub guard_continued : (c : Cond) → length params ≤ 8 → Some c ≡ slice_get class.program.guards guard.0
      → truth_of c store params ≡ guards_under class store (eight_of params) guard
  unfolding by_cond
  guard_continued c few there = sym (truth_eight store params few c) ∙ ap by_cond there
