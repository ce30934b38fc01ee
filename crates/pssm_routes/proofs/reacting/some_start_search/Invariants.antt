-- no transition so far that the event starts wants a search
use Rattle.std.proofs.Common.{◌<◌}
use Rattle.pssm_model.specs.declared.ids.TransId.{TransId}
use Rattle.pssm_config.specs.Tables.{configuration_of}
use Rattle.pssm_routes.specs.inner.Starts.{IsStartedWith, GoesOnBy}
use Rattle.pssm_enabled.specs.Ways.{EndsInside}
use Rattle.pssm_routes.proofs.reacting.some_start_search.Given as goal

abbrev pub invariant-loop-number : goal.invariant-loop-number
invariant-loop-number l =
    (t : TransId) → t.0 < l.number
    → (u : TransId) × IsStartedWith l.machine (configuration_of l.config) l.event t × GoesOnBy l.machine t u × EndsInside l.machine u → ⊥
