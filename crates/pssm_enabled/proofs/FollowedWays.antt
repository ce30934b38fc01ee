-- A way along open transitions, one after another, and what the steps so far tell of it.
use Rattle.std.proofs.Common.{◌≡◌, ◌<◌, ◌+◌, ℕ, List, [], ◌∷◌, ◌++◌, length, take, set, Option, Some, None, slice_get, sym, subst, arith}
use Rattle.std.proofs.lemmas.List.{take_more_set, length-take-le}
use Rattle.pssm_model.specs.declared.ids.VertexId.{VertexId}
use Rattle.pssm_model.specs.declared.ids.RegionId.{RegionId}
use Rattle.pssm_model.specs.declared.ids.TransId.{TransId}
use Rattle.pssm_model.specs.declared.elements.DraftMachine.{DraftMachine}
use Rattle.pssm_model.specs.Legs.{Leaves, Enters}
use Rattle.pssm_model.specs.Routes.{Truth}
use Rattle.pssm_model.specs.WellFormed.{KeepsModelRules}
use Rattle.pssm_model_laws.proofs.Through.{no_cycle}
use Rattle.pssm_enabled.specs.declared.seeking.Step.{Step}
use Rattle.pssm_enabled.specs.Ways.{IsPassedOver, IsOpen, IsWay}
use Rattle.pssm_enabled.specs.Ways.IsWay.{begins, goes_on}
use Rattle.pssm_enabled.specs.Steps.{IsTrail, IsFound}
use Rattle.pssm_enabled.specs.Steps.IsTrail.{first as trail_first, further}
use Rattle.pssm_enabled.proofs.LeadingOn.{passed_through}
use Rattle.pssm_enabled.proofs.Sought.{at_last, trail_more, trail_of_taken}
use Rattle.pssm_enabled.proofs.WayPaths.{way_led}

-- The first so many steps tell a way from the start to the last step's transition.
pub record IsFollowing (m : DraftMachine) (truth : Truth) (within : Option RegionId) (start : TransId) (steps : List Step) (last : Step) (place : ℕ) : Type 0 where
  pub passed : List VertexId
  pub path : List TransId
  pub trail : IsTrail (take place steps) last path
  pub way : IsWay m truth within start last.by passed path

module _ {m : DraftMachine} {truth : Truth} {within : Option RegionId} {start : TransId} where
  -- at its start
  pub follows_at_start : (steps : List Step) → IsOpen m truth within start
      → IsFollowing m truth within start steps (record { by = start; before = None }) 0
  follows_at_start steps opened = record { passed = []; path = start ∷ []; trail = trail_first start; way = begins opened }

  -- with one more transition; no vertex is passed twice, since no pseudostates lead on in a cycle
  pub follows_more : KeepsModelRules m → (steps : List Step) (last : Step) (place : ℕ) (u : TransId) (v : VertexId)
      → IsFollowing m truth within start steps last place → place < length steps → Enters m last.by v → IsPassedOver m v → Leaves m u v
      → IsOpen m truth within u
      → IsFollowing m truth within start (set steps place last) (record { by = u; before = Some place }) (place + 1)
  follows_more rules steps last place u v h lt enters over leaves opened =
      let more : take (place + 1) (set steps place last) ≡ take place steps ++ last ∷ [] = take_more_set steps place last lt in
      let whole : length (take place steps) ≡ place = length-take-le place steps (omega (arith, lt)) in
      let at : slice_get (take place steps ++ last ∷ []) place ≡ Some last =
      subst (λ n. slice_get (take place steps ++ last ∷ []) n ≡ Some last) whole (at_last (take place steps) last) in
      record {
        passed = v ∷ h.passed;
        path = h.path ++ u ∷ [];
        trail = subst (λ xs. IsTrail xs (record { by = u; before = Some place }) (h.path ++ u ∷ [])) (sym more)
            (further u at (trail_more (last ∷ []) h.trail));
        way = goes_on h.way enters over (λ inside. no_cycle rules v (way_led h.way v v inside enters (passed_through m v over))) leaves opened;
      }

  -- at its end
  pub follows_out : (steps : List Step) (last : Step) (place : ℕ) → IsFollowing m truth within start steps last place
      → ((v : VertexId) → Enters m last.by v → IsPassedOver m v → ⊥) → IsFound m truth within steps start last
  follows_out steps last place h out =
      (h.path, trail_of_taken place h.trail, record { passed = h.passed; way = h.way; ends = out })
