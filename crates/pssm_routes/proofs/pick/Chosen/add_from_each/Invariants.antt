use Rattle.std.proofs.Common.{take, All, Contains}
use Rattle.pssm_model.specs.declared.ids.VertexId.{VertexId}
use Rattle.pssm_model.specs.Routes.{Truth}
use Rattle.pssm_config.specs.Tables.{configuration_of}
use Rattle.pssm_enabled.specs.Telling.{Tells}
use Rattle.pssm_routes.specs.inner.Footprints.{IsFootprintIn}
use Rattle.pssm_routes.specs.inner.Starts.{IsOutranked}
use Rattle.pssm_routes.specs.inner.Picks.{IsChosen, IsGrown}
use Rattle.pssm_routes.proofs.pick.Chosen.add_from_each.Given as goal

-- what was chosen beside the routes at the start, so that none from the States so far could join
abbrev pub invariant-loop-s : goal.invariant-loop-s
invariant-loop-s g l =
    All (IsFootprintIn l.machine) l.self.footprints.items
    × ((values : Truth) → Tells l.machine (goal.T-post g l.truth) values
    → ((s : VertexId) → Contains l.states s → IsOutranked l.machine (configuration_of l.config) values l.event s → ⊥)
    → IsChosen l.machine (configuration_of l.config) values l.event l.fn.self.routes.items l.fn.self.footprints.items
    → IsGrown l.machine (configuration_of l.config) values l.event l.states (Contains (take l.s-index l.some)) l.fn.self.footprints.items l.self.routes.items
    l.self.footprints.items)
