use Rattle.pssm_model.specs.declared.ids.TransId.{TransId}
use Rattle.pssm_model.specs.declared.ids.VertexId.{VertexId}
use Rattle.pssm_model.specs.Legs.{Leaves}
use Rattle.pssm_model.specs.Routes.{Truth}
use Rattle.pssm_config.specs.Tables.{configuration_of}
use Rattle.pssm_enabled.specs.Telling.{Tells}
use Rattle.pssm_routes.specs.inner.Sets.{HasJoiner}
use Rattle.pssm_enabled.proofs.Scanning.{HoldsOfFirst}
use Rattle.pssm_routes.proofs.set.joins_from_some.Given as goal

-- no route that starts at one of the States so far could join
abbrev pub invariant-loop-s : goal.invariant-loop-s
invariant-loop-s g l =
    (values : Truth) → Tells l.machine (goal.T-post g l.truth) values
    → HoldsOfFirst
    (λ (s : VertexId). (t : TransId) → Leaves l.machine t s
    → HasJoiner l.machine (configuration_of l.config) values l.event l.states l.footprints t → ⊥) l.states l.s-index
