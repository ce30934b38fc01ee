-- Near which States the legs of a way end: only such a State may they enter.
use Rattle.std.specs.Prelude.{◌≡◌, ◌⊎◌, ◌<◌, ◌-◌, List, Some, IsTrue, Contains, length, take}
use Rattle.pssm_model.specs.declared.ids.VertexId.{VertexId}
use Rattle.pssm_model.specs.declared.ids.TransId.{TransId}
use Rattle.pssm_model.specs.declared.elements.DraftMachine.{DraftMachine}
use Rattle.pssm_model.specs.declared.elements.Owner.TheVariants.{State}
use Rattle.pssm_model.specs.Forest.{owner_of, LiesInState}
use Rattle.pssm_model.specs.Legs.{Enters}
use Rattle.pssm_legs.specs.declared.legs.Leg.{Leg}
use Rattle.pssm_plan.specs.declared.ways.Way.{Way}

-- The vertex is the State, or one that the State owns, or lies in the State.
abbrev pub IsNear : DraftMachine → VertexId → VertexId → Type 0
IsNear m v s = (s ≡ v) ⊎ (owner_of m (State v) ≡ Some (State s)) ⊎ LiesInState m v s

-- The transition ends on such a vertex.
abbrev pub LeadsNear : DraftMachine → TransId → VertexId → Type 0
LeadsNear m t s = (v : VertexId) × Enters m t v × IsNear m v s

-- One of the transitions does.
abbrev pub IsNearAmong : DraftMachine → List TransId → VertexId → Type 0
IsNearAmong m ts s = (t : TransId) × Contains ts t × LeadsNear m t s

-- The leg ends on such a vertex; one of its transitions does where they are taken in no order.
abbrev pub EndsNear : DraftMachine → Leg → VertexId → Type 0
EndsNear m leg s =
    (IsTrue leg.in_order × IsNear m leg.last s)
    ⊎ ((IsTrue leg.in_order → ⊥) × (LeadsNear m leg.named s ⊎ IsNearAmong m leg.further.items s))

-- One of the legs does.
abbrev pub IsNearSome : DraftMachine → List Leg → VertexId → Type 0
IsNearSome m legs s = (leg : Leg) × Contains legs leg × EndsNear m leg s

-- A leg of the way does.
abbrev pub ComesNear : DraftMachine → Way → VertexId → Type 0
ComesNear m way s = EndsNear m way.legs.first s ⊎ IsNearSome m way.legs.more.items s

-- A leg of the way does behind which another is listed.
abbrev pub LeadsOnNear : DraftMachine → Way → VertexId → Type 0
LeadsOnNear m way s =
    (0 < length way.legs.more.items)
    × (EndsNear m way.legs.first s ⊎ IsNearSome m (take (length way.legs.more.items - 1) way.legs.more.items) s)
