-- Which routes fire together, and the routes that an opening or a choice takes. A list of routes stands for the set of its members.
use Rattle.std.specs.Prelude.{◌≡◌, ◌⊎◌, ◌<◌, List, [], ◌∷◌, All, Contains, AllPairs}
use Rattle.pssm_model.specs.declared.ids.VertexId.{VertexId}
use Rattle.pssm_model.specs.declared.ids.TransId.{TransId}
use Rattle.pssm_model.specs.declared.ids.SignalId.{SignalId}
use Rattle.pssm_model.specs.declared.elements.DraftMachine.{DraftMachine}
use Rattle.pssm_model.specs.declared.elements.VertexKind.TheVariants as kinds
use Rattle.pssm_model.specs.declared.steps.Route.{Route}
use Rattle.pssm_model.specs.declared.steps.Event.{Event}
use Rattle.pssm_model.specs.declared.steps.Event.TheVariants.{Signal}
use Rattle.pssm_model.specs.Forest.{HasKind, IsOrLiesIn}
use Rattle.pssm_model.specs.Configuration.{Configuration}
use Rattle.pssm_model.specs.Legs.{Leaves, On}
use Rattle.pssm_model.specs.Routes.{Truth, IsRoute, IsEnabled, IsSource, IsTrueAt, Conflict, HasPriority}

-- a set of enabled routes, none of which conflicts with another or with an enabled one that has priority over it
-- (UML 2.5.1 14.2.3.9, transition selection)
pub record IsSound (m : DraftMachine) (now : Configuration) (truth : Truth) (event : Event) (routes : List Route) : Type 0 where
  pub enabled : All (IsEnabled m now truth event) routes
  pub agree : (p q : Route) → Contains routes p → Contains routes q → Conflict m now.Active p q → ⊥
  pub ranked : (p q : Route) → Contains routes p → IsEnabled m now truth event q → Conflict m now.Active p q → HasPriority m q p → ⊥

-- a sound set that is contained in no other: a maximal set (UML 2.5.1 14.2.3.9, transition selection)
pub record IsFiringSet (m : DraftMachine) (now : Configuration) (truth : Truth) (event : Event) (routes : List Route) : Type 0 where
  pub sound : IsSound m now truth event routes
  pub largest : (others : List Route) → IsSound m now truth event others → ((p : Route) → Contains routes p → Contains others p)
      → (p : Route) → Contains others p → Contains routes p

-- The first start of the first route has a lower number than that of the second (this profile's choice).
abbrev pub StartsBefore : Route → Route → Type 0
StartsBefore p q = (t u : TransId) (ts us : List TransId) → p.starts ≡ t ∷ ts → q.starts ≡ u ∷ us → t.0 < u.0

-- the routes in ascending order of their first starts (this profile's choice)
abbrev pub IsListed : List Route → Type 0
IsListed routes = AllPairs StartsBefore routes

-- what fires: a maximal set of enabled routes, in its one spelling (UML 2.5.1 14.2.3.9, transition selection; the order is this profile's choice)
abbrev pub IsFiring : DraftMachine → Configuration → Truth → Event → List Route → Type 0
IsFiring m now truth event routes = IsFiringSet m now truth event routes × IsListed routes

-- a shallow or a deep history vertex (UML 2.5.1 14.2.3.7, shallowHistory and deepHistory)
abbrev pub IsHistory : DraftMachine → VertexId → Type 0
IsHistory m v = HasKind m v kinds.ShallowHistory ⊎ HasKind m v kinds.DeepHistory

-- a vertex from which a route goes on within a step (UML 2.5.1 14.2.3.7, initial, history and choice)
abbrev pub IsLateOrigin : DraftMachine → VertexId → Type 0
IsLateOrigin m v = HasKind m v kinds.Initial ⊎ IsHistory m v ⊎ HasKind m v kinds.Choice

-- a route that starts with one transition out of an initial, history or choice vertex, with true guards
-- (UML 2.5.1 14.2.3.7, initial, history and choice)
pub record IsLateRoute (m : DraftMachine) (truth : Truth) (origin : VertexId) (route : Route) : Type 0 where
  pub origin_is : IsLateOrigin m origin
  pub route_is : IsRoute m route
  pub leaves : (t : TransId) × (route.starts ≡ t ∷ []) × Leaves m t origin
  pub guards : (t : TransId) → On route t → IsTrueAt m truth t

-- A route that the signal enables starts at the State or in it, and so keeps the State from deferring the signal
-- (UML 2.5.1 14.2.3.4, deferred events).
abbrev pub Overrides : DraftMachine → Configuration → Truth → SignalId → VertexId → Type 0
Overrides m now truth signal s =
    (route : Route) × (q : VertexId) × IsEnabled m now truth (Signal signal) route × IsSource m route q × IsOrLiesIn m q s
