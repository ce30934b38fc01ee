-- those that react in the regions so far are found
use Rattle.std.proofs.Common.{◌<◌, length, All}
use Rattle.pssm_model.specs.Routes.{Truth}
use Rattle.pssm_model.specs.declared.ids.VertexId.{VertexId}
use Rattle.pssm_config.specs.Tables.{configuration_of}
use Rattle.pssm_enabled.specs.Telling.{Tells}
use Rattle.pssm_routes.proofs.Sights.{AreFoundBelow}
use Rattle.pssm_routes.proofs.candidates.reacting_among_active.Given as goal

abbrev pub invariant-loop-number : goal.invariant-loop-number
invariant-loop-number g l =
    All (λ (s : VertexId). s.0 < length l.machine.vertices) l.states.items
    × ((values : Truth) → Tells l.machine (goal.T-post g l.truth) values
    → AreFoundBelow l.machine (configuration_of l.config) values l.event l.states.items l.number)
