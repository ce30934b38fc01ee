-- The vertices of a route as they are met one transition after another, and the State beside a join.
use Rattle.std.specs.Prelude.{◌≡◌, ◌⊎◌, List, Some, Contains}
use Rattle.pssm_model.specs.declared.ids.VertexId.{VertexId}
use Rattle.pssm_model.specs.declared.ids.RegionId.{RegionId}
use Rattle.pssm_model.specs.declared.ids.TransId.{TransId}
use Rattle.pssm_model.specs.declared.elements.DraftMachine.{DraftMachine}
use Rattle.pssm_model.specs.declared.elements.VertexKind.TheVariants as kinds
use Rattle.pssm_model.specs.declared.elements.Owner.TheVariants.{Region, State}
use Rattle.pssm_model.specs.Forest.{owner_of, HasKind, IsScope, LiesInRegion, LiesInState}
use Rattle.pssm_model.specs.Legs.{Leaves, Enters}
use Rattle.pssm_model.specs.WellFormed.{ShareRegion}

-- the ends of the first start, the sources of further starts and the targets of the transitions after the starts
abbrev pub IsMetBy : DraftMachine → TransId → List TransId → List TransId → VertexId → Type 0
IsMetBy m t more rest v =
    (Leaves m t v ⊎ Enters m t v) ⊎ ((u : TransId) × Contains more u × Leaves m u v) ⊎ ((u : TransId) × Contains rest u × Enters m u v)

-- Each of these vertices shares a region with the source of the first start.
abbrev pub AreAllNear : DraftMachine → TransId → List TransId → List TransId → Type 0
AreAllNear m t more rest = (s v : VertexId) → Leaves m t s → IsMetBy m t more rest v → ShareRegion m s v

-- the region, where the vertex lies in it, and else the innermost one in which both vertices lie
abbrev pub IsWiderFor : DraftMachine → RegionId → VertexId → VertexId → RegionId → Type 0
IsWiderFor m common first v r =
    (LiesInRegion m v common × (r ≡ common)) ⊎ ((LiesInRegion m v common → ⊥) × IsScope m (λ x. (x ≡ first) ⊎ (x ≡ v)) r)

-- a State that lies directly in the region, and in which the vertex lies
abbrev pub IsBeside : DraftMachine → RegionId → VertexId → VertexId → Type 0
IsBeside m home v s = HasKind m s kinds.State × (owner_of m (State s) ≡ Some (Region home)) × LiesInState m v s
