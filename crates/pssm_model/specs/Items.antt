-- The items of a step: which are called, which come before which, and which wait or are cleared.
use Rattle.std.specs.Prelude.{◌≡◌, ◌⊎◌, Some}
use Rattle.pssm_model.specs.declared.ids.VertexId.{VertexId}
use Rattle.pssm_model.specs.declared.ids.RegionId.{RegionId}
use Rattle.pssm_model.specs.declared.ids.TransId.{TransId}
use Rattle.pssm_model.specs.declared.elements.DraftMachine.{DraftMachine}
use Rattle.pssm_model.specs.declared.elements.VertexKind.TheVariants as kinds
use Rattle.pssm_model.specs.declared.elements.Owner.TheVariants.{Top, Region, State}
use Rattle.pssm_model.specs.declared.steps.Route.{Route}
use Rattle.pssm_model.specs.declared.steps.Mode.{Mode}
use Rattle.pssm_model.specs.declared.steps.Mode.TheVariants.{Plain, Shallow, Deep}
use Rattle.pssm_model.specs.declared.steps.Item.{Item}
use Rattle.pssm_model.specs.declared.steps.Item.TheVariants as items
use Rattle.pssm_model.specs.Forest.{HasKind, owner_of, LiesInState, LiesInRegion}
use Rattle.pssm_model.specs.Legs.{On, SameLeg, LaterLeg, IsLastVertex, IsLocalFrom, Enters, Leaves, LegExits, LegEnters}
use Rattle.pssm_model.specs.Course.{Head, Course, Leg, IsLeg, FiresBy, HasRun, HasRestored}
use Rattle.pssm_model.specs.Course.Head.{Starts}

-- A route may exit what was active before the head where the head fires it, and nothing where it is a late one (UML 2.5.1 14.2.3.4, exiting a State).
abbrev pub CanExit : Course → Route → VertexId → Type 0
CanExit course route s = FiresBy course.head route × course.at_head.Active s

-- A last vertex of the leg, or of a later leg of its route, lies in the region (UML 2.5.1 14.2.3.4, explicit entry).
abbrev pub IsAimedAt : DraftMachine → Route → TransId → RegionId → Type 0
IsAimedAt m route t r =
    (u : TransId) × (v : VertexId) × (SameLeg m route t u ⊎ LaterLeg m route t u) × IsLastVertex m route u v × LiesInRegion m v r

-- what a leg calls: its exits, effects and entries (UML 2.5.1 14.2.3.9, transition execution sequence)
abbrev pub LegCalls : DraftMachine → (VertexId → Type 0) → Route → TransId → Item → Type 0
LegCalls m Active route t (items.Exit s) = LegExits m Active route t s
LegCalls m Active route t (items.Effect u) = SameLeg m route t u
LegCalls m Active route t (items.Enter s) = LegEnters m route t s
LegCalls m Active route t _ = ⊥

-- what the leg calls at its end: the pick of a choice, or the opening of the region of a history vertex (UML 2.5.1 14.2.3.7, choice and history)
abbrev pub LegEnds : DraftMachine → Route → TransId → Item → Type 0
LegEnds m route t (items.Opened r Shallow) = (v : VertexId) × IsLastVertex m route t v × HasKind m v kinds.ShallowHistory × (owner_of m (State v) ≡ Some (Region r))
LegEnds m route t (items.Opened r Deep) = (v : VertexId) × IsLastVertex m route t v × HasKind m v kinds.DeepHistory × (owner_of m (State v) ≡ Some (Region r))
LegEnds m route t (items.Pick c) = IsLastVertex m route t c × HasKind m c kinds.Choice
LegEnds m route t _ = ⊥

-- A local leg opens by default each region of its State at which neither it nor a later leg of its route aims
-- (this profile's choice; UML 2.5.1 14.5.12 says only that the State is not left).
abbrev pub LegOpens : DraftMachine → Route → TransId → Item → Type 0
LegOpens m route t (items.Opened r Plain) =
    (s : VertexId) × IsLocalFrom m route t s × (owner_of m (Region r) ≡ Some (State s)) × (IsAimedAt m route t r → ⊥)
LegOpens m route t _ = ⊥

-- The leg calls the exit, effect or entry (UML 2.5.1 14.2.3.9, transition execution sequence).
abbrev pub IsCalledInLeg : DraftMachine → Course → Leg → Item → Type 0
IsCalledInLeg m course leg item = LegCalls m (CanExit course leg.route) leg.route leg.named_by item

-- The item is one of the leg: an exit, an effect or an entry of it, or what it calls at its end (UML 2.5.1 14.2.3.9, transition execution sequence).
abbrev pub IsItemOfLeg : DraftMachine → Course → Leg → Item → Type 0
IsItemOfLeg m course leg item = IsCalledInLeg m course leg item ⊎ LegEnds m leg.route leg.named_by item ⊎ LegOpens m leg.route leg.named_by item

-- how the regions of a restored State open: by default after a shallow history, deeply after a deep one (UML 2.5.1 14.2.3.4, State history)
abbrev pub restored_mode : Mode → Mode
restored_mode Plain = Plain
restored_mode Shallow = Plain
restored_mode Deep = Deep

-- Once the State is entered by a leg, the region of it opens by default unless the leg or a later one aims at it (UML 2.5.1 14.2.3.4, entering a State).
abbrev pub OpensByEntering : DraftMachine → Course → VertexId → RegionId → Mode → Type 0
OpensByEntering m course s r mode =
    (leg : Leg) × IsLeg course leg × LegEnters m leg.route leg.named_by s × (mode ≡ Plain) × (IsAimedAt m leg.route leg.named_by r → ⊥)

-- Once a restored State is entered, each region of it opens, by default or deeply (UML 2.5.1 14.2.3.4, State history).
abbrev pub OpensByRestoring : Course → VertexId → Mode → Type 0
OpensByRestoring course s mode = (was : Mode) × HasRestored course was s × (mode ≡ restored_mode was)

-- what the entry of a State calls, once run: openings of its regions (UML 2.5.1 14.2.3.4, entering a State)
abbrev pub EnterOpens : DraftMachine → Course → VertexId → Item → Type 0
EnterOpens m course s (items.Opened r mode) =
    (owner_of m (Region r) ≡ Some (State s)) × (OpensByEntering m course s r mode ⊎ OpensByRestoring course s mode)
EnterOpens m course s _ = ⊥

-- A start opens every top region by default (UML 2.5.1 14.2.3.2, regions of a StateMachine).
abbrev pub StartOpens : DraftMachine → Head → Item → Type 0
StartOpens m Starts (items.Opened r Plain) = owner_of m (Region r) ≡ Some Top
StartOpens m _ item = ⊥

-- the items that a step calls (UML 2.5.1 14.2.3.9, transition execution sequence; this profile's choice of items)
pub data Called (m : DraftMachine) (course : Course) (item : Item) : Type 0 where
  start : StartOpens m course.head item → Called m course item
  run : (leg : Leg) → IsLeg course leg → IsCalledInLeg m course leg item → Called m course item
  ends : (leg : Leg) → IsLeg course leg → LegEnds m leg.route leg.named_by item → Called m course item
  opens : (leg : Leg) → IsLeg course leg → LegOpens m leg.route leg.named_by item → Called m course item
  restored : (mode : Mode) (s : VertexId) → HasRestored course mode s → item ≡ items.Enter s → Called m course item
  entered : (s : VertexId) → HasRun course (items.Enter s) → EnterOpens m course s item → Called m course item

-- the exit of a State (UML 2.5.1 14.2.3.4, exiting a State)
abbrev pub IsExit : Item → Type 0
IsExit (items.Exit s) = Unit {0}
IsExit _ = ⊥

-- the effect of a transition (UML 2.5.1 14.2.3.8, effects)
abbrev pub IsEffect : Item → Type 0
IsEffect (items.Effect t) = Unit {0}
IsEffect _ = ⊥

-- the entry of a State (UML 2.5.1 14.2.3.4, entering a State)
abbrev pub IsEnter : Item → Type 0
IsEnter (items.Enter s) = Unit {0}
IsEnter _ = ⊥

-- The first transition leads to the second over junctions (UML 2.5.1 14.2.3.7, junction).
pub data PathBefore (m : DraftMachine) (route : Route) : TransId → TransId → Type 0 where
  next : {t u : TransId} → On route t → On route u → (v : VertexId) → HasKind m v kinds.Junction → Enters m t v → Leaves m u v → PathBefore m route t u
  after : {t u w : TransId} → PathBefore m route t u → PathBefore m route u w → PathBefore m route t w

-- the cases in which one called item comes before another: exits from within, effects along the path, entries from without, leg after leg
-- (UML 2.5.1 14.2.3.9, transition execution sequence; for legs this profile's choice)
pub data Before (m : DraftMachine) (course : Course) : Item → Item → Type 0 where
  inner_exit : {s q : VertexId} → LiesInState m s q → Before m course (items.Exit s) (items.Exit q)
  outer_enter : {s q : VertexId} → LiesInState m q s → Before m course (items.Enter s) (items.Enter q)
  exit_effect : {x y : Item} (leg : Leg) → IsLeg course leg → IsExit x → IsEffect y → IsCalledInLeg m course leg x → IsCalledInLeg m course leg y → Before m course x y
  path : {t u : TransId} (leg : Leg) → IsLeg course leg → SameLeg m leg.route leg.named_by t → PathBefore m leg.route t u → Before m course (items.Effect t) (items.Effect u)
  effect_enter : {x y : Item} (leg : Leg) → IsLeg course leg → IsEffect x → IsEnter y → IsCalledInLeg m course leg x → IsCalledInLeg m course leg y → Before m course x y
  effect_end : {x y : Item} (leg : Leg) → IsLeg course leg → IsEffect x → IsCalledInLeg m course leg x → (LegEnds m leg.route leg.named_by y ⊎ LegOpens m leg.route leg.named_by y) → Before m course x y
  enter_end : {x y : Item} (leg : Leg) → IsLeg course leg → IsEnter x → IsCalledInLeg m course leg x → LegEnds m leg.route leg.named_by y → Before m course x y
  later : {x y : Item} (leg : Leg) (next : TransId) → IsLeg course leg → LaterLeg m leg.route leg.named_by next → IsCalledInLeg m course leg x
      → IsItemOfLeg m course (record leg { named_by = next }) y → Before m course x y

-- a called item that has not run (UML 2.5.1 14.2.3.9, transition execution sequence)
pub record IsWaiting (m : DraftMachine) (course : Course) (item : Item) : Type 0 where
  pub called : Called m course item
  pub not_run : HasRun course item → ⊥

-- Every called item that comes before it has run (UML 2.5.1 14.2.3.9, transition execution sequence).
abbrev pub IsCleared : DraftMachine → Course → Item → Type 0
IsCleared m course item = (x : Item) → Called m course x → Before m course x item → HasRun course x

-- Every called item has run (UML 2.5.1 14.2.3.9, run to completion).
abbrev pub HasRunOut : DraftMachine → Course → Type 0
HasRunOut m course = (item : Item) → Called m course item → HasRun course item
