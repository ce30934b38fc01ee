-- What a route calls in a step, and which of it comes before which, whatever is active.
use Rattle.std.specs.Prelude.{◌⊎◌, ◌<◌, Bool, IsTrue, length}
use Rattle.pssm_model.specs.declared.ids.VertexId.{VertexId}
use Rattle.pssm_model.specs.declared.ids.RegionId.{RegionId}
use Rattle.pssm_model.specs.declared.ids.TransId.{TransId}
use Rattle.pssm_model.specs.declared.elements.DraftMachine.{DraftMachine}
use Rattle.pssm_model.specs.declared.steps.Route.{Route}
use Rattle.pssm_model.specs.declared.steps.Item.{Item}
use Rattle.pssm_model.specs.declared.steps.Item.TheVariants.{Exit, Effect, Enter, Opened, Pick}
use Rattle.pssm_model.specs.Legs.{On, SameLeg, LaterLeg, LegEnters}
use Rattle.pssm_model.specs.Items.{LegCalls, LegEnds, LegOpens, IsAimedAt, IsExit, IsEffect, IsEnter, PathBefore}

-- What the item names is there.
abbrev pub IsItemIn : DraftMachine → Item → Type 0
IsItemIn m (Exit s) = s.0 < length m.vertices
IsItemIn m (Effect t) = t.0 < length m.transitions
IsItemIn m (Enter s) = s.0 < length m.vertices
IsItemIn m (Opened r mode) = r.0 < length m.regions
IsItemIn m (Pick c) = c.0 < length m.vertices

-- The leg calls the exit, effect or entry: exits only where its route fires (UML 2.5.1 14.2.3.9, transition execution sequence).
abbrev pub IsCalledInLeg : DraftMachine → Bool → Route → TransId → Item → Type 0
IsCalledInLeg m fires p t item = LegCalls m (λ s. IsTrue fires) p t item

-- The leg calls the item itself or at its end (UML 2.5.1 14.2.3.9, transition execution sequence).
abbrev pub IsItemOfLeg : DraftMachine → Bool → Route → TransId → Item → Type 0
IsItemOfLeg m fires p t item = IsCalledInLeg m fires p t item ⊎ LegEnds m p t item ⊎ LegOpens m p t item

-- Some leg of the route calls the item (UML 2.5.1 14.2.3.9, transition execution sequence).
abbrev pub IsCalledBy : DraftMachine → Bool → Route → Item → Type 0
IsCalledBy m fires p item = (t : TransId) × On p t × IsItemOfLeg m fires p t item

-- Some leg of the route enters the State and does not aim at the region, nor does a later one (UML 2.5.1 14.2.3.4, entering a State).
abbrev pub IsOpenedFor : DraftMachine → Route → VertexId → RegionId → Type 0
IsOpenedFor m p s r = (t : TransId) × On p t × LegEnters m p t s × (IsAimedAt m p t r → ⊥)

-- the cases in which one item of a leg comes before another; that exits go from within and entries from without holds of all items, whatever leg
-- calls them, and stands with the order of a step (UML 2.5.1 14.2.3.9, transition execution sequence; for legs this profile's choice)
pub data IsOrderedInLeg (m : DraftMachine) (fires : Bool) (p : Route) (t : TransId) : Item → Item → Type 0 where
  exit_effect : {x y : Item} → IsExit x → IsEffect y → IsCalledInLeg m fires p t x → IsCalledInLeg m fires p t y → IsOrderedInLeg m fires p t x y
  path : {u w : TransId} → SameLeg m p t u → PathBefore m p u w → IsOrderedInLeg m fires p t (Effect u) (Effect w)
  effect_enter : {x y : Item} → IsEffect x → IsEnter y → IsCalledInLeg m fires p t x → IsCalledInLeg m fires p t y → IsOrderedInLeg m fires p t x y
  effect_end : {x y : Item} → IsEffect x → IsCalledInLeg m fires p t x → (LegEnds m p t y ⊎ LegOpens m p t y) → IsOrderedInLeg m fires p t x y
  enter_end : {x y : Item} → IsEnter x → IsCalledInLeg m fires p t x → LegEnds m p t y → IsOrderedInLeg m fires p t x y
  later : {x y : Item} (next : TransId) → LaterLeg m p t next → IsCalledInLeg m fires p t x → IsItemOfLeg m fires p next y → IsOrderedInLeg m fires p t x y

-- Some leg of the route orders the two items so (UML 2.5.1 14.2.3.9, transition execution sequence).
abbrev pub IsOrderedBy : DraftMachine → Bool → Route → Item → Item → Type 0
IsOrderedBy m fires p x y = (t : TransId) × On p t × IsOrderedInLeg m fires p t x y
