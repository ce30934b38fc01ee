-- the vertices so far that react are found
use Rattle.std.proofs.Common.{◌<◌, All, length}
use Rattle.pssm_model.specs.Routes.{Truth}
use Rattle.pssm_model.specs.declared.ids.VertexId.{VertexId}
use Rattle.pssm_config.specs.Tables.{configuration_of}
use Rattle.pssm_enabled.specs.Telling.{Tells}
use Rattle.pssm_routes.specs.inner.Starts.{HasSearch}
use Rattle.pssm_routes.proofs.Fruitless.{AreReacting}
use Rattle.pssm_routes.proofs.candidates.reacting_by_search.Given as goal

abbrev pub invariant-loop-number : goal.invariant-loop-number
invariant-loop-number g l =
    All (λ (s : VertexId). s.0 < length l.machine.vertices) l.found.items
    × HasSearch l.machine (configuration_of l.config) l.event l.search
    × ((values : Truth) → Tells l.machine (goal.T-post g l.truth) values
    → AreReacting l.machine (configuration_of l.config) values l.event l.found.items l.number l.search)
