-- Two climbs, one from each of two vertices, that meet at the innermost place in which both lie.
use Rattle.std.proofs.Common.{◌≡◌, ◌<◌, ◌≤◌, ◌+◌, ℕ, Some, length, sym, subst, ⊎_elim, arith}
use Rattle.pssm_model.specs.declared.ids.VertexId.{VertexId}
use Rattle.pssm_model.specs.declared.elements.DraftMachine.{DraftMachine}
use Rattle.pssm_model.specs.declared.elements.Owner.{Owner}
use Rattle.pssm_model.specs.Forest.{owner_of}
use Rattle.pssm_model.specs.Shapes.{HasShape}
use Rattle.pssm_wellformed.specs.inner.Walks.{LiesIn}
use Rattle.pssm_wellformed.specs.inner.Levels.{IsCommonLevel, AreClimbing}
use Rattle.pssm_wellformed.proofs.Climbing.{level_over, climb_has_room, climb_goes_on, climb_ends}

-- Of two places that differ the deeper one does not hold the other's vertex.
deeper_lacks : (m : DraftMachine) (v w : VertexId) (place opposite : Owner) (k n : ℕ) → AreClimbing m v w place k opposite n → (place ≡ opposite → ⊥) → n ≤ k
    → LiesIn m w place → ⊥
deeper_lacks m v w place opposite k n h differ deeper lies = ⊎_elim (λ same. differ (sym same))
    (λ under. let lt = level_over m opposite place n k under h.1.level h.0.level in omega arith) (h.1.common place lies h.0.holds)

-- So the deeper one has an owner, to which the climb goes on.
pub meet_has_room : (m : DraftMachine) (v w : VertexId) (place opposite : Owner) (k n : ℕ) → AreClimbing m v w place k opposite n → (place ≡ opposite → ⊥) → n ≤ k
    → 0 < k
meet_has_room m v w place opposite k n h differ deeper =
    climb_has_room m v w place k h.0 (deeper_lacks m v w place opposite k n h differ deeper)

pub meet_goes_on : (m : DraftMachine) → HasShape m → (v w : VertexId) → v.0 < length m.vertices → (place opposite owner : Owner) (k n j : ℕ)
    → AreClimbing m v w place k opposite n → (place ≡ opposite → ⊥) → n ≤ k → owner_of m place ≡ Some owner → k ≡ j + 1 → AreClimbing m v w owner j opposite n
meet_goes_on m shape v w there place opposite owner k n j h differ deeper owned_by less =
    (climb_goes_on m shape v w there place owner k j h.0 (deeper_lacks m v w place opposite k n h differ deeper) owned_by less, h.1)

-- The climbs may be told in either order.
pub turned : (m : DraftMachine) (v w : VertexId) (place opposite : Owner) (k n : ℕ) → AreClimbing m v w place k opposite n → AreClimbing m w v opposite n place k
turned m v w place opposite k n h = (h.1, h.0)

-- They end where they meet.
pub meet_ends : (m : DraftMachine) → HasShape m → (v w : VertexId) → v.0 < length m.vertices → w.0 < length m.vertices → (place opposite : Owner) (k n : ℕ)
    → AreClimbing m v w place k opposite n → place ≡ opposite → IsCommonLevel m v w k
meet_ends m shape v w there other place opposite k n h same =
    climb_ends m shape v w there other place k h.0 (subst (LiesIn m w) (sym same) h.1.holds)
