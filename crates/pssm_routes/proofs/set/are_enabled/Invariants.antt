use Rattle.pssm_model.specs.Routes.{Truth, IsStateRoute, IsEnabled}
use Rattle.pssm_config.specs.Tables.{configuration_of}
use Rattle.pssm_enabled.specs.Telling.{Tells}
use Rattle.pssm_enabled.proofs.Scanning.{HoldsOfFirst}
use Rattle.pssm_routes.proofs.set.are_enabled.Given as goal

-- the routes so far are routes of States that the event enables
abbrev pub invariant-loop-route : goal.invariant-loop-route
invariant-loop-route g l =
    HoldsOfFirst (IsStateRoute l.machine) l.routes l.route-index
    × ((values : Truth) → Tells l.machine (goal.T-post g l.truth) values
    → HoldsOfFirst (IsEnabled l.machine (configuration_of l.config) values l.event) l.routes l.route-index)
