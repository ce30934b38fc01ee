-- none of the transitions so far starts a way
use Rattle.std.proofs.Common.{take}
use Rattle.pssm_model.specs.Routes.{Truth}
use Rattle.pssm_config.specs.Tables.{configuration_of}
use Rattle.pssm_enabled.specs.Telling.{Tells}
use Rattle.pssm_routes.proofs.Sights.{StartNone}
use Rattle.pssm_routes.proofs.reacting.reacts_at_sight.Given as goal

abbrev pub invariant-loop-t : goal.invariant-loop-t
invariant-loop-t g l =
    (values : Truth) → Tells l.machine (goal.T-post g l.truth) values
    → StartNone l.machine (configuration_of l.config) values l.event (take l.t-index l.t-items)
