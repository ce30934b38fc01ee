-- A State that reacts alone: the one route from there fires where its footprint is complete.
use Rattle.std.proofs.Common.{◌↔◌, [], ◌∷◌, All, arith}
use Rattle.pssm_model.specs.declared.ids.VertexId.{VertexId}
use Rattle.pssm_model.specs.declared.elements.DraftMachine.{DraftMachine}
use Rattle.pssm_model.specs.declared.steps.Event.{Event}
use Rattle.pssm_model.specs.declared.steps.Route.{Route}
use Rattle.pssm_model.specs.Configuration.{Configuration}
use Rattle.pssm_model.specs.Shapes.{HasShape}
use Rattle.pssm_model.specs.Routes.{Truth, IsEnabled}
use Rattle.pssm_model.specs.FiringSets.{IsListed, IsFiring}
use Rattle.pssm_model.specs.WellFormed.{KeepsModelRules}
use Rattle.pssm_routes.specs.declared.areas.Footprint.{Footprint}
use Rattle.pssm_routes.specs.inner.Footprints.{IsFootprintOf}
use Rattle.pssm_routes.specs.inner.Sets.{AreComplete}
use Rattle.pssm_routes.specs.inner.Starts.{ReactsAlone}
use Rattle.pssm_routes.proofs.Judging.{fires_complete}
use Rattle.pssm_routes.proofs.LoneCandidates.{lone_candidates}

-- one route is in order
listed_one : (p : Route) → IsListed (p ∷ [])
listed_one p i j d lt inside = absurd (omega (arith, lt, inside))

module _ (m : DraftMachine) (now : Configuration) (truth : Truth) (event : Event) where
  pub lone_fires : KeepsModelRules m → HasShape m → (p : Route) (g : Footprint) (s : VertexId) → IsFootprintOf m p g
      → ReactsAlone m now truth event s → All (IsEnabled m now truth event) (p ∷ [])
      → IsFiring m now truth event (p ∷ []) ↔ AreComplete m now truth event (s ∷ []) (p ∷ []) (g ∷ [])
  lone_fires b shape p g s is alone enabled =
      fires_complete b shape now truth event (p ∷ []) (g ∷ []) (s ∷ []) (is, tt)
      (lone_candidates shape now truth event (s ∷ []) (omega arith) alone) enabled (listed_one p)
