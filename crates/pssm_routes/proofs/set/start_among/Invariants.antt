use Rattle.std.proofs.Common.{Contains}
use Rattle.pssm_model.specs.declared.ids.VertexId.{VertexId}
use Rattle.pssm_model.specs.declared.steps.Route.{Route}
use Rattle.pssm_model.specs.Routes.{IsSource}
use Rattle.pssm_enabled.proofs.Scanning.{HoldsOfFirst}
use Rattle.pssm_routes.proofs.set.start_among.Given as goal

-- the sources of the routes so far are among the States
abbrev pub invariant-loop-route : goal.invariant-loop-route
invariant-loop-route l =
    HoldsOfFirst (λ (p : Route). (s : VertexId) → IsSource l.machine p s → Contains l.states s) l.routes l.route-index
