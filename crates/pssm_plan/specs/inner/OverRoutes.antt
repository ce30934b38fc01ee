-- What a step calls that goes by routes, in plain words: of each route as a whole, whichever of its legs calls it.
use Rattle.std.specs.Prelude.{◌≡◌, ◌⊎◌, Some}
use Rattle.pssm_model.specs.declared.ids.VertexId.{VertexId}
use Rattle.pssm_model.specs.declared.ids.RegionId.{RegionId}
use Rattle.pssm_model.specs.declared.elements.DraftMachine.{DraftMachine}
use Rattle.pssm_model.specs.declared.elements.Owner.TheVariants.{Region, State}
use Rattle.pssm_model.specs.declared.elements.TransKind.TheVariants.{Local}
use Rattle.pssm_model.specs.declared.elements.VertexKind.TheVariants as kinds
use Rattle.pssm_model.specs.declared.steps.Route.{Route}
use Rattle.pssm_model.specs.declared.steps.Mode.{Mode}
use Rattle.pssm_model.specs.declared.steps.Mode.TheVariants.{Plain, Shallow, Deep}
use Rattle.pssm_model.specs.declared.steps.Item.{Item}
use Rattle.pssm_model.specs.declared.steps.Item.TheVariants as items
use Rattle.pssm_model.specs.Forest.{HasKind, owner_of}
use Rattle.pssm_model.specs.Legs.{On, Scope, LiesInScope}
use Rattle.pssm_model.specs.Course.{Course, FiresBy, HasGoneBy, HasRun, HasRestored}
use Rattle.pssm_model.specs.Items.{StartOpens, OpensByRestoring}
use Rattle.pssm_model.specs.Routes.{IsSource}
use Rattle.pssm_model.specs.RouteWords.{IsStepRoute}
use Rattle.pssm_model_laws.specs.inner.RouteWords.{GoesAs, IsAreaOf, EndsOn, EndsIn, IsEnteredBy}

-- The vertex lies where the route exits and enters.
abbrev pub LiesInArea : DraftMachine → Route → VertexId → Type 0
LiesInArea m p s = (area : Scope) × IsAreaOf m p area × LiesInScope m s area

-- The route leaves the State that owns the region.
abbrev pub LeavesOwner : DraftMachine → Route → RegionId → Type 0
LeavesOwner m p r = (s : VertexId) × IsSource m p s × (owner_of m (Region r) ≡ Some (State s))

-- The route is local, and the region is one of the State that it leaves in which it does not end: it opens it.
abbrev pub OpensBeside : DraftMachine → Route → RegionId → Type 0
OpensBeside m p r = GoesAs m p Local × LeavesOwner m p r × (EndsIn m p r → ⊥)

-- The route ends on the choice.
abbrev pub EndsOnChoice : DraftMachine → Route → VertexId → Type 0
EndsOnChoice m p c = EndsOn m p c × HasKind m c kinds.Choice

-- a history vertex of the mode: a shallow or a deep one
abbrev pub IsHistoryFor : DraftMachine → VertexId → Mode → Type 0
IsHistoryFor m v Plain = ⊥
IsHistoryFor m v Shallow = HasKind m v kinds.ShallowHistory
IsHistoryFor m v Deep = HasKind m v kinds.DeepHistory

-- The route ends on a history vertex of the mode, which the region owns.
abbrev pub EndsOnHistory : DraftMachine → Route → RegionId → Mode → Type 0
EndsOnHistory m p r mode = (v : VertexId) × EndsOn m p v × IsHistoryFor m v mode × (owner_of m (State v) ≡ Some (Region r))

-- The route calls the item at an end: the pick of a choice or the opening of the region of a history on which it ends.
abbrev pub CallsAtEnd : DraftMachine → Route → Item → Type 0
CallsAtEnd m p (items.Pick c) = EndsOnChoice m p c
CallsAtEnd m p (items.Opened r mode) = EndsOnHistory m p r mode
CallsAtEnd m p _ = ⊥

-- The item is that by which a step goes on from the vertex: the pick of the choice, or the opening of the region of the history.
abbrev pub IsItemAt : DraftMachine → VertexId → Item → Type 0
IsItemAt m v (items.Pick c) = (v ≡ c) × HasKind m c kinds.Choice
IsItemAt m v (items.Opened r mode) = IsHistoryFor m v mode × (owner_of m (State v) ≡ Some (Region r))
IsItemAt m v _ = ⊥

-- The step goes by the route.
abbrev pub GoesBy : Course → Route → Type 0
GoesBy course p = FiresBy course.head p ⊎ HasGoneBy course p

-- A step that goes by routes out of States or from where a step goes on within itself, and restores States.
pub record GoesByRoutes (m : DraftMachine) (course : Course) : Type 0 where
  pub routes : (p : Route) → GoesBy course p → IsStepRoute m p
  pub restored : (mode : Mode) (s : VertexId) → HasRestored course mode s → HasKind m s kinds.State

-- The route fires at the head and exits the State.
abbrev pub IsExitedOver : DraftMachine → Course → Route → VertexId → Type 0
IsExitedOver m course p s = FiresBy course.head p × course.at_head.Active s × LiesInArea m p s

-- The step goes by the route, which enters the State.
abbrev pub IsEnteredOver : DraftMachine → Course → Route → VertexId → Type 0
IsEnteredOver m course p s = GoesBy course p × IsEnteredBy m p s

-- An opening has restored the State.
abbrev pub IsRestoredOver : Course → VertexId → Type 0
IsRestoredOver course s = (mode : Mode) × HasRestored course mode s

-- A route enters the State and does not end in the region, which opens by default; or the State is restored, and the region opens as that says.
abbrev pub OpensFor : DraftMachine → Course → VertexId → RegionId → Mode → Type 0
OpensFor m course s r mode =
    ((p : Route) × IsEnteredOver m course p s × (EndsIn m p r → ⊥) × (mode ≡ Plain)) ⊎ OpensByRestoring course s mode

-- The entry of the State has run, which owns the region, and this opens the region.
abbrev pub OpensAfterEntry : DraftMachine → Course → VertexId → RegionId → Mode → Type 0
OpensAfterEntry m course s r mode =
    HasRun course (items.Enter s) × (owner_of m (Region r) ≡ Some (State s)) × OpensFor m course s r mode

-- The step goes by the route, which opens the region beside what it enters.
abbrev pub IsOpenedOver : DraftMachine → Course → Route → RegionId → Mode → Type 0
IsOpenedOver m course p r mode = GoesBy course p × OpensBeside m p r × (mode ≡ Plain)

-- The step goes by the route, which ends on a history of the region.
abbrev pub IsOpenedAtEnd : DraftMachine → Course → Route → RegionId → Mode → Type 0
IsOpenedAtEnd m course p r mode = GoesBy course p × EndsOnHistory m p r mode

-- The step goes by the route, which ends on the choice.
abbrev pub IsPickedOver : DraftMachine → Course → Route → VertexId → Type 0
IsPickedOver m course p c = GoesBy course p × EndsOnChoice m p c

-- The region is opened by the start, after the entry of its State, or beside what a route enters.
abbrev pub IsOpenedFor : DraftMachine → Course → RegionId → Mode → Type 0
IsOpenedFor m course r mode =
    StartOpens m course.head (items.Opened r mode)
    ⊎ ((s : VertexId) × OpensAfterEntry m course s r mode)
    ⊎ ((p : Route) × IsOpenedOver m course p r mode)

-- the items that such a step calls
abbrev pub IsCalledOver : DraftMachine → Course → Item → Type 0
IsCalledOver m course (items.Exit s) = (p : Route) × IsExitedOver m course p s
IsCalledOver m course (items.Effect t) = (p : Route) × GoesBy course p × On p t
IsCalledOver m course (items.Enter s) = ((p : Route) × IsEnteredOver m course p s) ⊎ IsRestoredOver course s
IsCalledOver m course (items.Opened r mode) = IsOpenedFor m course r mode ⊎ ((p : Route) × IsOpenedAtEnd m course p r mode)
IsCalledOver m course (items.Pick c) = (p : Route) × IsPickedOver m course p c
