use Rattle.std.proofs.Common.{Contains}
use Rattle.pssm_model.specs.declared.ids.TransId.{TransId}
use Rattle.pssm_model.specs.declared.ids.VertexId.{VertexId}
use Rattle.pssm_model.specs.Legs.{Leaves}
use Rattle.pssm_enabled.proofs.ListPlaces.{Below}
use Rattle.pssm_routes.proofs.leading.leave_among.Given as goal

-- the sources of those before are among the States
abbrev pub invariant-loop-t : goal.invariant-loop-t
invariant-loop-t l =
    Below (λ (t : TransId). (s : VertexId) → Leaves l.machine t s → Contains l.states s) l.transitions l.t-index
