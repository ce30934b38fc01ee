-- The ways of a step: the routes by which it goes.
use Rattle.std.specs.Prelude.{◌≡◌, ◌↔◌, ◌⊎◌, List, IsTrue, Contains}
use Rattle.pssm_model.specs.declared.ids.VertexId.{VertexId}
use Rattle.pssm_model.specs.declared.elements.DraftMachine.{DraftMachine}
use Rattle.pssm_model.specs.declared.steps.Route.{Route}
use Rattle.pssm_model.specs.declared.steps.Mode.{Mode}
use Rattle.pssm_model.specs.Course.{Course, FiresBy, HasGoneBy, HasRestored}
use Rattle.pssm_legs.specs.LegsOf.{AreLegsOf}
use Rattle.pssm_plan.specs.declared.ways.Way.{Way}
use Rattle.pssm_plan.specs.declared.progress.Restored.{Restored}

-- The way has the legs of its route.
abbrev pub IsWayIn : DraftMachine → Way → Type 0
IsWayIn m way = AreLegsOf m way.route.value way.legs

-- Each of the ways has the legs of its route.
abbrev pub AreWaysIn : DraftMachine → List Way → Type 0
AreWaysIn m ways = (way : Way) → Contains ways way → IsWayIn m way

-- One of the ways is that of the route.
abbrev pub IsWayTaken : List Way → Route → Type 0
IsWayTaken ways p = (way : Way) × Contains ways way × (way.route.value ≡ p)

-- One of the ways is that of the route, and fires.
abbrev pub IsWayFired : List Way → Route → Type 0
IsWayFired ways p = (way : Way) × Contains ways way × (way.route.value ≡ p) × IsTrue way.fires

-- The ways are those by which the step goes, and what was restored in it is listed (UML 2.5.1 14.2.3.8, compound transitions).
pub record AreWaysOf (m : DraftMachine) (course : Course) (ways : List Way) (states : List Restored) : Type 0 where
  pub legs : AreWaysIn m ways
  pub taken : (p : Route) → IsWayTaken ways p ↔ (FiresBy course.head p ⊎ HasGoneBy course p)
  pub fired : (p : Route) → IsWayFired ways p ↔ FiresBy course.head p
  pub restored : (mode : Mode) (s : VertexId) → Contains states (record { mode = mode; state = s }) ↔ HasRestored course mode s
