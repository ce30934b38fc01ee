-- Where a route may go that clashes with none of the routes that fire.
use Rattle.std.specs.Prelude.{◌≡◌, List, Option, ◌⊎◌, ◌<◌, length, IfSome, Contains}
use Rattle.pssm_model.specs.declared.ids.VertexId.{VertexId}
use Rattle.pssm_model.specs.declared.ids.RegionId.{RegionId}
use Rattle.pssm_model.specs.declared.ids.TransId.{TransId}
use Rattle.pssm_model.specs.declared.elements.DraftMachine.{DraftMachine}
use Rattle.pssm_model.specs.Legs.{On, Enters, LiesInScope}
use Rattle.pssm_model.specs.declared.steps.Route.{Route}
use Rattle.pssm_model.specs.Routes.{Truth, IsStateRoute, IsTrueAt}
use Rattle.pssm_model.specs.declared.elements.VertexKind.TheVariants as kinds
use Rattle.pssm_model.specs.declared.elements.Owner.TheVariants.{Region}
use Rattle.pssm_model.specs.Forest.{HasKind, LiesUnder, IsOrLiesIn, IsWithin}
use Rattle.pssm_legs.specs.Areas.{scope_of}
use Rattle.pssm_enabled.specs.Starts.{AreStartsWith}
use Rattle.pssm_enabled.specs.Steps.{IsTrail}
use Rattle.pssm_enabled.specs.declared.seeking.Step.{Step}
use Rattle.pssm_enabled.specs.Ways.{IsAllowed}
use Rattle.pssm_enabled.specs.Behind.{IsRouteBehind, LeadsFurther}
use Rattle.pssm_routes.specs.declared.areas.Footprint.{Footprint}
use Rattle.pssm_routes.specs.inner.Footprints.{IsFootprintOf, ClashesWithSome}
use Rattle.pssm_routes.specs.declared.joining.Room.{Room}
use Rattle.pssm_routes.specs.declared.joining.Room.TheVariants.{Shut, Open}

-- The State, or one that it lies in or that lies in it, is the source of the footprint, or its area covers the State.
abbrev pub Touches : DraftMachine → VertexId → Footprint → Type 0
Touches m s a = LiesInScope m s (scope_of a.area) ⊎ IsOrLiesIn m a.source s ⊎ IsOrLiesIn m s a.source

-- The State is an anchor.
abbrev pub IsAnchorAmong : List Footprint → VertexId → Type 0
IsAnchorAmong footprints s = (a : Footprint) × Contains footprints a × (a.source ≡ s)

-- the innermost region in which the region is nested
pub record IsNextOut (m : DraftMachine) (r next : RegionId) : Type 0 where
  pub nested : LiesUnder m (Region r) (Region next)
  pub innermost : (q : RegionId) → LiesUnder m (Region r) (Region q) → IsWithin m next q

-- Each route with this start clashes with one of the footprints.
abbrev pub IsShut : DraftMachine → List Footprint → TransId → Type 0
IsShut m footprints t =
    (q : Route) (b : Footprint) → IsStateRoute m q → Contains q.starts t → IsFootprintOf m q b → (ClashesWithSome m footprints b → ⊥) → ⊥

-- All transitions of the route end where they may.
abbrev pub EndsWithin : DraftMachine → Option RegionId → Route → Type 0
EndsWithin m within q = (u : TransId) (v : VertexId) → On q u → Enters m u v → IsAllowed m within v

-- The routes with this start that clash with none of the footprints are those that end in the region, if one is named; a join of theirs lies there.
pub record IsOpenRoom (m : DraftMachine) (footprints : List Footprint) (t : TransId) (within : Option RegionId) : Type 0 where
  pub ends : (q : Route) (b : Footprint) → IsStateRoute m q → Contains q.starts t → IsFootprintOf m q b → (ClashesWithSome m footprints b → ⊥)
      → EndsWithin m within q
  pub clear : (q : Route) (b : Footprint) → IsStateRoute m q → Contains q.starts t → IsFootprintOf m q b → EndsWithin m within q
      → ClashesWithSome m footprints b → ⊥
  pub joins : (j : VertexId) → Enters m t j → HasKind m j kinds.Join → IsAllowed m within j

-- where a route with this start may go
abbrev pub IsRoomFor : DraftMachine → List Footprint → TransId → Room → Type 0
IsRoomFor m footprints t Shut = IsShut m footprints t
IsRoomFor m footprints t (Open within) = IsOpenRoom m footprints t within

-- A region that a room names is one of the machine.
abbrev pub IsRoomIn : DraftMachine → Room → Type 0
IsRoomIn m Shut = Unit {0}
IsRoomIn m (Open within) = IfSome within (λ r. r.0 < length m.regions)

-- A way leads on from the end of the path that the steps tell, and each route over the path and what goes on behind it is one of States with true
-- guards and clashes with none of the footprints.
abbrev pub IsJoiningStep : DraftMachine → Truth → List Footprint → List Step → TransId → Step → Type 0
IsJoiningStep m truth footprints steps t last =
    (path : List TransId) × IsTrail steps last path × LeadsFurther m truth last.by
    × ((q : Route) → IsRouteBehind m truth t last.by path q
    → IsStateRoute m q × ((u : TransId) → On q u → IsTrueAt m truth u) × ((b : Footprint) → IsFootprintOf m q b → ClashesWithSome m footprints b → ⊥))

-- The route starts with the transition, is one of States with true guards, and clashes with none of the footprints.
abbrev pub IsJoiningRoute : DraftMachine → Truth → List Footprint → TransId → Route → Type 0
IsJoiningRoute m truth footprints t q =
    AreStartsWith m t q.starts × IsStateRoute m q × ((u : TransId) → On q u → IsTrueAt m truth u)
    × ((b : Footprint) → IsFootprintOf m q b → ClashesWithSome m footprints b → ⊥)
