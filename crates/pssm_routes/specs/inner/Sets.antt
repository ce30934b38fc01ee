-- What makes a list of routes a firing set, one route at a time.
use Rattle.std.specs.Prelude.{◌⊎◌, List, [], ◌∷◌, Contains}
use Rattle.pssm_model.specs.declared.ids.VertexId.{VertexId}
use Rattle.pssm_model.specs.declared.ids.RegionId.{RegionId}
use Rattle.pssm_model.specs.declared.ids.TransId.{TransId}
use Rattle.pssm_model.specs.declared.elements.DraftMachine.{DraftMachine}
use Rattle.pssm_model.specs.declared.steps.Route.{Route}
use Rattle.pssm_model.specs.declared.steps.Event.{Event}
use Rattle.pssm_model.specs.Forest.{LiesInRegion, IsOrLiesIn, IsWithin}
use Rattle.pssm_model.specs.Legs.{Leaves, On, LiesInScope}
use Rattle.pssm_model.specs.Configuration.{Configuration}
use Rattle.pssm_model.specs.Routes.{Truth, IsStateRoute, IsTrueAt, IsEnabled, IsSource, Conflict}
use Rattle.pssm_routes.specs.declared.areas.Footprint.{Footprint}
use Rattle.pssm_legs.specs.Areas.{scope_of}
use Rattle.pssm_routes.specs.inner.Footprints.{IsFootprintOf, ClashesWithSome}
use Rattle.pssm_routes.specs.inner.Starts.{IsOutranked}

-- The route could join the others: it is enabled, is none of them, conflicts with none, and no enabled route starts in its source.
pub record CanJoin (m : DraftMachine) (now : Configuration) (truth : Truth) (event : Event) (routes : List Route) (q : Route) : Type 0 where
  pub enabled : IsEnabled m now truth event q
  pub other : Contains routes q → ⊥
  pub agrees : (p : Route) → Contains routes p → Conflict m now.Active p q → ⊥
  pub first : (s : VertexId) → IsSource m q s → IsOutranked m now truth event s → ⊥

-- enabled routes that do not conflict, in whose sources no enabled route starts
pub record IsSettled (m : DraftMachine) (now : Configuration) (truth : Truth) (event : Event) (routes : List Route) : Type 0 where
  pub enabled : (p : Route) → Contains routes p → IsEnabled m now truth event p
  pub agree : (p q : Route) → Contains routes p → Contains routes q → Conflict m now.Active p q → ⊥
  pub first : (p : Route) (s : VertexId) → Contains routes p → IsSource m p s → IsOutranked m now truth event s → ⊥

-- No further route could join.
abbrev pub IsFull : DraftMachine → Configuration → Truth → Event → List Route → Type 0
IsFull m now truth event routes = (q : Route) → CanJoin m now truth event routes q → ⊥

-- An enabled route with this start whose sources are among the States clashes with none of the footprints.
abbrev pub HasJoiner : DraftMachine → Configuration → Truth → Event → List VertexId → List Footprint → TransId → Type 0
HasJoiner m now truth event states footprints t =
    (q : Route) × (b : Footprint) × IsEnabled m now truth event q × Contains q.starts t × ((s : VertexId) → IsSource m q s → Contains states s)
    × IsFootprintOf m q b × (ClashesWithSome m footprints b → ⊥)

-- A route of States with this start and true guards clashes with none of the footprints.
abbrev pub HasFreeRoute : DraftMachine → Truth → List Footprint → TransId → Type 0
HasFreeRoute m truth footprints t =
    (q : Route) × (b : Footprint) × IsStateRoute m q × Contains q.starts t × ((u : TransId) → On q u → IsTrueAt m truth u) × IsFootprintOf m q b
    × (ClashesWithSome m footprints b → ⊥)

-- No two of the footprints clash.
abbrev pub AreApart : DraftMachine → List Footprint → Type 0
AreApart m [] = Unit {0}
AreApart m (footprint ∷ footprints) = (ClashesWithSome m footprints footprint → ⊥) × AreApart m footprints

-- A further route could start at the States.
abbrev pub HasJoinerFrom : DraftMachine → Configuration → Truth → Event → List VertexId → List Footprint → Type 0
HasJoinerFrom m now truth event states footprints =
    (s : VertexId) × (t : TransId) × Contains states s × Leaves m t s × HasJoiner m now truth event states footprints t

-- routes that start at these States, with their footprints, that do not conflict, and to which none can be added
pub record AreComplete (m : DraftMachine) (now : Configuration) (truth : Truth) (event : Event) (states : List VertexId) (routes : List Route)
    (footprints : List Footprint) : Type 0 where
  pub among : (p : Route) (s : VertexId) → Contains routes p → IsSource m p s → Contains states s
  pub apart : AreApart m footprints
  pub closed : HasJoinerFrom m now truth event states footprints → ⊥

-- The State, or one that it lies in or that lies in it, is an anchor, or some area covers it.
abbrev pub IsTouched : DraftMachine → List Footprint → VertexId → Type 0
IsTouched m footprints s =
    (a : Footprint) × Contains footprints a × (LiesInScope m s (scope_of a.area) ⊎ IsOrLiesIn m a.source s ⊎ IsOrLiesIn m s a.source)

-- An anchor lies in the region.
abbrev pub HoldsSource : DraftMachine → List Footprint → RegionId → Type 0
HoldsSource m footprints r = (a : Footprint) × Contains footprints a × LiesInRegion m a.source r

-- the largest region around the State in which no anchor lies
pub record IsCeiling (m : DraftMachine) (footprints : List Footprint) (s : VertexId) (r : RegionId) : Type 0 where
  pub around : LiesInRegion m s r
  pub free : HoldsSource m footprints r → ⊥
  pub largest : (q : RegionId) → LiesInRegion m s q → (HoldsSource m footprints q → ⊥) → IsWithin m q r
