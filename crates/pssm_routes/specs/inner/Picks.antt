-- What a pick keeps while it chooses routes, one State after another.
use Rattle.std.specs.Prelude.{◌≡◌, ◌≢◌, ℕ, List, [], ◌∷◌, ◌++◌, AllPairs, Contains}
use Rattle.pssm_model.specs.declared.ids.VertexId.{VertexId}
use Rattle.pssm_model.specs.declared.ids.TransId.{TransId}
use Rattle.pssm_model.specs.declared.elements.DraftMachine.{DraftMachine}
use Rattle.pssm_model.specs.declared.steps.Route.{Route}
use Rattle.pssm_model.specs.declared.steps.Event.{Event}
use Rattle.pssm_model.specs.Configuration.{Configuration}
use Rattle.pssm_model.specs.Legs.{Leaves}
use Rattle.pssm_model.specs.Routes.{Truth, IsEnabled, IsSource}
use Rattle.pssm_routes.specs.declared.areas.Footprint.{Footprint}
use Rattle.pssm_routes.specs.inner.Footprints.{IsFootprintOf, AreFootprints, IsFootprintIn, ClashesWithSome}
use Rattle.pssm_routes.specs.inner.Sets.{IsSettled, HasJoiner}

-- the number of the first start
abbrev pub first_number : List TransId → ℕ
first_number [] = 0
first_number (t ∷ starts) = t.0

-- The first starts of no two of the routes are the same.
abbrev pub StartApart : List Route → Type 0
StartApart routes = AllPairs (λ (p q : Route). first_number p.starts ≢ first_number q.starts) routes

-- an enabled route with this start, whose sources are among the States, that clashes with none of the footprints
pub record IsFreeRoute (m : DraftMachine) (now : Configuration) (truth : Truth) (event : Event) (states : List VertexId) (footprints : List Footprint)
    (t : TransId) (q : Route) : Type 0 where
  pub enabled : IsEnabled m now truth event q
  pub starts : Contains q.starts t
  pub among : (s : VertexId) → IsSource m q s → Contains states s
  pub free : (footprint : Footprint) → IsFootprintOf m q footprint → ClashesWithSome m footprints footprint → ⊥

-- an enabled route from this State that clashes with none of the footprints
abbrev pub IsFreeFrom : DraftMachine → Configuration → Truth → Event → List VertexId → List Footprint → VertexId → Route → Type 0
IsFreeFrom m now truth event states footprints s q = (t : TransId) × Leaves m t s × IsFreeRoute m now truth event states footprints t q

-- No route that starts at the State could join.
abbrev pub IsSpent : DraftMachine → Configuration → Truth → Event → List VertexId → List Footprint → VertexId → Type 0
IsSpent m now truth event states footprints s = (t : TransId) → Leaves m t s → HasJoiner m now truth event states footprints t → ⊥

-- routes that were chosen, with their footprints
pub record IsChosen (m : DraftMachine) (now : Configuration) (truth : Truth) (event : Event) (routes : List Route) (footprints : List Footprint) : Type 0 where
  pub footprints_are : AreFootprints m routes footprints
  pub settled : IsSettled m now truth event routes
  pub apart : StartApart routes

-- the routes and footprints with one route more
pub record IsAdded (m : DraftMachine) (q : Route) (routes : List Route) (footprints : List Footprint) (more : List Route) (wider : List Footprint) : Type 0 where
  pub footprint : Footprint
  pub footprint_is : IsFootprintOf m q footprint
  pub there : IsFootprintIn m footprint
  pub routes_are : more ≡ routes ++ q ∷ []
  pub footprints_are : wider ≡ footprints ++ footprint ∷ []

-- routes chosen beside others, so that none from these States could join
pub record IsGrown (m : DraftMachine) (now : Configuration) (truth : Truth) (event : Event) (states : List VertexId) (These : VertexId → Type 0)
    (footprints : List Footprint) (more : List Route) (wider : List Footprint) : Type 0 where
  pub chosen : IsChosen m now truth event more wider
  pub spent : (s : VertexId) → These s → IsSpent m now truth event states wider s
  pub kept : (g : Footprint) → Contains footprints g → Contains wider g
