-- From where a route starts and where it exits, which is all that conflicts and priorities ask of it.
use Rattle.std.specs.Prelude.{◌≡◌, ◌⊎◌, ◌<◌, List, [], ◌∷◌, length, Contains}
use Rattle.pssm_model.specs.declared.ids.VertexId.{VertexId}
use Rattle.pssm_model.specs.declared.ids.TransId.{TransId}
use Rattle.pssm_model.specs.declared.elements.DraftMachine.{DraftMachine}
use Rattle.pssm_model.specs.declared.elements.VertexKind.TheVariants as kinds
use Rattle.pssm_model.specs.declared.elements.Owner.TheVariants.{State}
use Rattle.pssm_model.specs.declared.steps.Route.{Route}
use Rattle.pssm_model.specs.Forest.{owner_of, HasKind, LiesInState, IsOrLiesIn}
use Rattle.pssm_model.specs.Legs.{Leaves, Enters, LiesInScope}
use Rattle.pssm_model_laws.specs.inner.RouteWords.{IsAnchorOf, IsAreaOf}
use Rattle.pssm_legs.specs.Areas.{scope_of, IsAreaIn}
use Rattle.pssm_routes.specs.declared.areas.Footprint.{Footprint}

-- the State from which the route starts, its source or the State beside its join in which its sources lie, and where the route exits
pub record IsFootprintOf (m : DraftMachine) (p : Route) (footprint : Footprint) : Type 0 where
  pub anchor : IsAnchorOf m p footprint.source
  pub area : IsAreaOf m p (scope_of footprint.area)

-- the State from which a route with the start starts: the source of that, or the State beside its join in which the source lies
abbrev pub IsAnchorBy : DraftMachine → TransId → VertexId → Type 0
IsAnchorBy m t s =
    (Leaves m t s × ((v : VertexId) → Enters m t v → HasKind m v kinds.Join → ⊥))
    ⊎ ((j : VertexId) × Enters m t j × HasKind m j kinds.Join × HasKind m s kinds.State × (owner_of m (State s) ≡ owner_of m (State j))
    × ((q : VertexId) → Leaves m t q → LiesInState m q s))

-- the footprints of the routes, one after another
abbrev pub AreFootprints : DraftMachine → List Route → List Footprint → Type 0
AreFootprints m [] [] = Unit {0}
AreFootprints m (p ∷ routes) (footprint ∷ footprints) = IsFootprintOf m p footprint × AreFootprints m routes footprints
AreFootprints m _ _ = ⊥

-- One route exits the anchor of the other, or their anchors are one, or one lies in the other.
abbrev pub Clash : DraftMachine → Footprint → Footprint → Type 0
Clash m a b =
    LiesInScope m b.source (scope_of a.area) ⊎ LiesInScope m a.source (scope_of b.area) ⊎ IsOrLiesIn m a.source b.source ⊎ IsOrLiesIn m b.source a.source

-- Some footprint among them clashes with it.
abbrev pub ClashesWithSome : DraftMachine → List Footprint → Footprint → Type 0
ClashesWithSome m footprints b = (a : Footprint) × Contains footprints a × Clash m a b

-- The footprint names places of the machine.
pub record IsFootprintIn (m : DraftMachine) (footprint : Footprint) : Type 0 where
  pub source : footprint.source.0 < length m.vertices
  pub area : IsAreaIn m footprint.area
