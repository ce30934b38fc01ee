-- When the legs are those of a route.
use Rattle.std.specs.Prelude.{◌≡◌, ◌⊎◌, ◌↔◌, ◌<◌, ℕ, List, ◌∷◌, Some, IsTrue, Contains, length, slice_get}
use Rattle.pssm_model.specs.declared.ids.VertexId.{VertexId}
use Rattle.pssm_model.specs.declared.ids.TransId.{TransId}
use Rattle.pssm_model.specs.declared.elements.DraftMachine.{DraftMachine}
use Rattle.pssm_model.specs.declared.elements.VertexKind.TheVariants as kinds
use Rattle.pssm_model.specs.declared.steps.Route.{Route}
use Rattle.pssm_model.specs.Forest.{HasKind, IsStateOrFinal}
use Rattle.pssm_model.specs.Legs.{On, SameLeg, LaterLeg, Enters, LegScope, IsLastVertex}
use Rattle.pssm_model.specs.Items.{PathBefore}
use Rattle.pssm_model.specs.RouteWords.{IsStepRoute}
use Rattle.pssm_legs.specs.declared.legs.Leg.{Leg}
use Rattle.pssm_legs.specs.declared.legs.Legs.{Legs}
use Rattle.pssm_legs.specs.Areas.{scope_of, IsAreaIn}

-- The first stands in the list before the second.
abbrev pub StandsBefore : List TransId → TransId → TransId → Type 0
StandsBefore ts t u = (i j : ℕ) × (i < j) × (slice_get ts i ≡ Some t) × (slice_get ts j ≡ Some u)

-- the legs in a row; the place of a leg is its number in it
abbrev pub leg_list : Legs → List Leg
leg_list legs = legs.first ∷ legs.more.items

-- The leg has the place.
abbrev pub IsAt : Legs → ℕ → Leg → Type 0
IsAt legs place leg = slice_get (leg_list legs) place ≡ Some leg

-- the transitions of a leg: the one by which it is named, and the further ones
abbrev pub path_of : Leg → List TransId
path_of leg = leg.named ∷ leg.further.items

-- The leg ends on the vertex: the last one where its transitions are taken in order, and else the target of any of them
-- (UML 2.5.1 14.2.3.7, junction, join and fork).
abbrev pub IsLastOf : DraftMachine → Leg → VertexId → Type 0
IsLastOf m leg v =
    (IsTrue leg.in_order × (v ≡ leg.last))
    ⊎ ((IsTrue leg.in_order → ⊥) × ((t : TransId) × Contains (path_of leg) t × Enters m t v))

-- The leg with the first place leads to that with the second: what the second comes after is the first, or stands later than it.
pub data StandsLater (legs : List Leg) : ℕ → ℕ → Type 0 where
  next : {i j : ℕ} {b : Leg} → slice_get legs j ≡ Some b → b.before ≡ Some i → StandsLater legs i j
  after : {i k j : ℕ} {b : Leg} → slice_get legs j ≡ Some b → b.before ≡ Some k → StandsLater legs i k → StandsLater legs i j

-- A route goes on from the vertex: from a junction, fork or join, an entry or exit point (UML 2.5.1 14.2.3.8, compound transitions).
abbrev pub GoesOn : DraftMachine → VertexId → Type 0
GoesOn m v =
    HasKind m v kinds.Junction ⊎ HasKind m v kinds.Fork ⊎ HasKind m v kinds.Join ⊎ HasKind m v kinds.EntryPoint ⊎ HasKind m v kinds.ExitPoint

-- The route starts with the transition, and goes no further than that leads.
abbrev pub IsLoneStart : DraftMachine → Route → TransId → Type 0
IsLoneStart m p t = Contains p.starts t × ((v : VertexId) → Enters m t v → GoesOn m v → ⊥)

-- What the leg names is of the machine.
pub record IsLegIn (m : DraftMachine) (leg : Leg) : Type 0 where
  pub area : IsAreaIn m leg.area
  pub path : (t : TransId) → Contains (path_of leg) t → t.0 < length m.transitions
  pub last : leg.last.0 < length m.vertices

-- What the legs name is of the machine, and each comes after none or after one with a lower place.
pub record AreLegsIn (m : DraftMachine) (legs : Legs) : Type 0 where
  pub each : (i : ℕ) (leg : Leg) → IsAt legs i leg → IsLegIn m leg
  pub before : (i j : ℕ) (leg : Leg) → IsAt legs j leg → leg.before ≡ Some i → i < j

-- The leg of the route that this transition names: its transitions, in the order in which they are taken if they are, where it exits and enters,
-- and on what it ends: where they are taken in no order, on a join or on States and final states (UML 2.5.1 14.2.3.8, compound transitions; the legs are this profile's choice).
pub record IsLegOf (m : DraftMachine) (p : Route) (leg : Leg) : Type 0 where
  pub on : On p leg.named
  pub path : (t : TransId) → Contains (path_of leg) t ↔ SameLeg m p leg.named t
  pub order : (t u : TransId) → Contains (path_of leg) t → PathBefore m p t u ↔ (IsTrue leg.in_order × StandsBefore (path_of leg) t u)
  pub area : LegScope m p leg.named (scope_of leg.area)
  pub last : (v : VertexId) → IsLastVertex m p leg.named v ↔ IsLastOf m leg v
  pub one_last : IsLastVertex m p leg.named leg.last
  pub ends : (IsTrue leg.in_order → ⊥) → (v : VertexId) → IsLastVertex m p leg.named v → HasKind m v kinds.Join ⊎ IsStateOrFinal m v

-- The legs are those of the route: each is one of it, each of its transitions is in one, and one stands later than another where it is later
-- (UML 2.5.1 14.2.3.8, compound transitions; the legs are this profile's choice).
pub record AreLegsOf (m : DraftMachine) (p : Route) (legs : Legs) : Type 0 where
  pub route : IsStepRoute m p
  pub inside : AreLegsIn m legs
  pub each : (i : ℕ) (leg : Leg) → IsAt legs i leg → IsLegOf m p leg
  pub all : (t : TransId) → On p t → (i : ℕ) × (leg : Leg) × IsAt legs i leg × Contains (path_of leg) t
  pub later : (i j : ℕ) (a b : Leg) → IsAt legs i a → IsAt legs j b → LaterLeg m p a.named b.named ↔ StandsLater (leg_list legs) i j
