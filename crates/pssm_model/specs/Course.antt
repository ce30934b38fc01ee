-- A step as far as it has come: how it began, what has run in it, and by which routes and legs it goes.
use Rattle.std.specs.Prelude.{◌≡◌, ◌⊎◌, ◌++◌, List, ◌∷◌, Contains}
use Rattle.std.specs.List.{AllByRecursion}
use Rattle.pssm_model.specs.declared.ids.VertexId.{VertexId}
use Rattle.pssm_model.specs.declared.ids.RegionId.{RegionId}
use Rattle.pssm_model.specs.declared.ids.TransId.{TransId}
use Rattle.pssm_model.specs.declared.elements.DraftMachine.{DraftMachine}
use Rattle.pssm_model.specs.declared.steps.Route.{Route}
use Rattle.pssm_model.specs.declared.steps.Mode.{Mode}
use Rattle.pssm_model.specs.declared.steps.How.{How}
use Rattle.pssm_model.specs.declared.steps.How.TheVariants.{By, Restore}
use Rattle.pssm_model.specs.declared.steps.Item.{Item}
use Rattle.pssm_model.specs.declared.steps.Item.TheVariants as items
use Rattle.pssm_model.specs.Configuration.{Configuration, IsDirect}
use Rattle.pssm_model.specs.Legs.{On}

-- how a step begins: with the start of the machine, or with routes that fire (UML 2.5.1 14.2.3.9, run to completion; PSSM 1.0 8.5, the initial
-- run-to-completion step)
pub data Head : Type 0 where
  Starts : Head
  Fires : List Route → Head

-- a step so far: its head, the configuration at its head, and the items that have run, in order, each with its way
-- (UML 2.5.1 14.2.3.9, run to completion; this profile's choice of items)
pub record Course : Type 1 where
  pub head : Head
  pub at_head : Configuration
  pub ran : List (Item × How)

-- The item has run in the step (this profile's choice of items).
abbrev pub HasRun : Course → Item → Type 0
HasRun course item = (how : How) × Contains course.ran (item, how)

-- The route is one of those that fire at the head (UML 2.5.1 14.2.3.9, transition selection).
abbrev pub FiresBy : Head → Route → Type 0
FiresBy Starts route = ⊥
FiresBy (Fires routes) route = Contains routes route

-- An opening or a pick has gone by the late route (UML 2.5.1 14.2.3.7, initial, history and choice).
abbrev pub HasGoneBy : Course → Route → Type 0
HasGoneBy course route = (item : Item) × Contains course.ran (item, By route)

-- An opening in this mode has restored the State (UML 2.5.1 14.2.3.4, State history).
abbrev pub HasRestored : Course → Mode → VertexId → Type 0
HasRestored course mode s = (r : RegionId) × Contains course.ran (items.Opened r mode, Restore s)

-- a leg: a route and any one of the leg's transitions (this profile's choice)
pub record Leg : Type 0 where
  pub route : Route
  pub named_by : TransId

-- The leg is one of a route by which the step goes: one that its head fires, or one of a later opening or pick (UML 2.5.1 14.2.3.8, compound transitions).
abbrev pub IsLeg : Course → Leg → Type 0
IsLeg course leg = (FiresBy course.head leg.route ⊎ HasGoneBy course leg.route) × On leg.route leg.named_by

-- The item exits a direct vertex of the region (UML 2.5.1 14.2.3.4, exiting a State).
abbrev pub ExitsFrom : DraftMachine → Item → RegionId → Type 0
ExitsFrom m item r = (q : VertexId) × IsDirect m q r × (item ≡ items.Exit q)

-- The direct vertex of the region that the step exited last is this one (UML 2.5.1 14.2.3.4, State history).
abbrev pub HasExitedLast : DraftMachine → List (Item × How) → RegionId → VertexId → Type 0
HasExitedLast m ran r s =
    (before after : List (Item × How)) × (how : How) × (ran ≡ before ++ (items.Exit s, how) ∷ after) × IsDirect m s r
    × AllByRecursion (λ x. ExitsFrom m x.0 r → ⊥) after

-- the memory of the region within the step: what the step exited last in it, or else what was remembered at the head
-- (UML 2.5.1 14.2.3.4, State history)
abbrev pub RemembersSoFar : DraftMachine → Course → RegionId → VertexId → Type 0
RemembersSoFar m course r s =
    HasExitedLast m course.ran r s
    ⊎ (course.at_head.Remembers r s × AllByRecursion (λ x. ExitsFrom m x.0 r → ⊥) course.ran)
