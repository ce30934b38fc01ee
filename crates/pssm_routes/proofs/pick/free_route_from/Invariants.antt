use Rattle.pssm_model.specs.declared.ids.TransId.{TransId}
use Rattle.pssm_model.specs.Routes.{Truth}
use Rattle.pssm_config.specs.Tables.{configuration_of}
use Rattle.pssm_enabled.specs.Telling.{Tells}
use Rattle.pssm_routes.specs.inner.Sets.{HasJoiner}
use Rattle.pssm_enabled.proofs.Scanning.{HoldsOfFirst}
use Rattle.pssm_routes.proofs.pick.free_route_from.Given as goal

-- no route with one of the starts so far could join
abbrev pub invariant-loop-t : goal.invariant-loop-t
invariant-loop-t g l =
    (values : Truth) → Tells l.machine (goal.T-post g l.truth) values
    → HoldsOfFirst
    (λ (t : TransId). HasJoiner l.machine (configuration_of l.config) values l.event l.states l.footprints t → ⊥) l.t-items l.t-index
