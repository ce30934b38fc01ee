-- none of the transitions so far leads out
use Rattle.std.proofs.Common.{◌≡◌, None, take, length}
use Rattle.pssm_model.specs.Routes.{Truth}
use Rattle.pssm_config.specs.Tables.{configuration_of}
use Rattle.pssm_enabled.specs.Telling.{Tells}
use Rattle.pssm_enabled.specs.Steps.{KnowsDeadEnds}
use Rattle.pssm_routes.proofs.Fruitless.{IsFruitless}
use Rattle.pssm_routes.proofs.reacting.reacts.Given as goal

abbrev pub invariant-loop-t : goal.invariant-loop-t
invariant-loop-t g l =
    (length l.search ≡ length l.fn.search)
    × ((values : Truth) → Tells l.machine (goal.T-post g l.truth) values → KnowsDeadEnds l.machine values None l.fn.search
    → IsFruitless l.machine (configuration_of l.config) values l.event (take l.t-index l.t-items) l.search)
