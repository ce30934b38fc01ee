-- it is the one that reacts in the regions so far
use Rattle.std.proofs.Common.{◌<◌, length, IfSome}
use Rattle.pssm_model.specs.Routes.{Truth}
use Rattle.pssm_model.specs.declared.ids.VertexId.{VertexId}
use Rattle.pssm_config.specs.Tables.{configuration_of}
use Rattle.pssm_enabled.specs.Telling.{Tells}
use Rattle.pssm_routes.proofs.Sights.{IsLone}
use Rattle.pssm_routes.proofs.candidates.lone_among_active.Given as goal

abbrev pub invariant-loop-number : goal.invariant-loop-number
invariant-loop-number g l =
    IfSome l.alone (λ (s : VertexId). s.0 < length l.machine.vertices)
    × ((values : Truth) → Tells l.machine (goal.T-post g l.truth) values → IsLone l.machine (configuration_of l.config) values l.event l.alone l.number)
