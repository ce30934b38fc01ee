-- no vertex so far that is the State or lies in it reacts
use Rattle.std.proofs.Common.{◌≡◌, length}
use Rattle.pssm_model.specs.Routes.{Truth}
use Rattle.pssm_config.specs.Tables.{configuration_of}
use Rattle.pssm_enabled.specs.Telling.{Tells}
use Rattle.pssm_routes.proofs.Fruitless.{IsBarren}
use Rattle.pssm_routes.proofs.overriding.overrides_with.Given as goal

abbrev pub invariant-loop-number : goal.invariant-loop-number
invariant-loop-number g l =
    (length l.search ≡ length l.fn.search)
    × ((values : Truth) → Tells l.machine (goal.T-post g l.truth) values
    → IsBarren l.machine (configuration_of l.config) values l.event l.state l.number l.search)
