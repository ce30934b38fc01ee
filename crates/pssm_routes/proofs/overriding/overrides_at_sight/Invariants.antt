-- none that reacts in the regions so far is the State or lies in it
use Rattle.pssm_model.specs.Routes.{Truth}
use Rattle.pssm_config.specs.Tables.{configuration_of}
use Rattle.pssm_enabled.specs.Telling.{Tells}
use Rattle.pssm_routes.proofs.Sights.{NoneInside}
use Rattle.pssm_routes.proofs.overriding.overrides_at_sight.Given as goal

abbrev pub invariant-loop-number : goal.invariant-loop-number
invariant-loop-number g l =
    (values : Truth) → Tells l.machine (goal.T-post g l.truth) values
    → NoneInside l.machine (configuration_of l.config) values l.event l.fn.state l.number
