-- Which leg calls an item that one leg alone calls.
use Rattle.std.specs.Prelude.{◌⊎◌, ◌↔◌, ℕ, Bool, Option, MatchOption, IsTrue}
use Rattle.pssm_model.specs.declared.elements.DraftMachine.{DraftMachine}
use Rattle.pssm_model.specs.declared.steps.Route.{Route}
use Rattle.pssm_model.specs.declared.steps.Item.{Item}
use Rattle.pssm_model.specs.declared.steps.Item.TheVariants.{Effect, Enter}
use Rattle.pssm_legs.specs.declared.legs.Leg.{Leg}
use Rattle.pssm_legs.specs.declared.legs.Legs.{Legs}
use Rattle.pssm_legs.specs.Calls.{IsOrderedBy}
use Rattle.pssm_legs.specs.LegsOf.{leg_list, IsAt, StandsLater, AreLegsOf}
use Rattle.pssm_legs.specs.inner.Told.{HasFurther, HasLeg, IsCalledAsTold, ComesFirst, IsPathPair}

-- an effect or entry, which one leg of a route alone calls
abbrev pub HasOneCaller : Item → Type 0
HasOneCaller (Effect t) = Unit {0}
HasOneCaller (Enter s) = Unit {0}
HasOneCaller _ = ⊥

-- The leg with the place is such.
abbrev pub IsSuchAt : Legs → (ℕ → Leg → Type 0) → ℕ → Type 0
IsSuchAt legs P i = (a : Leg) × IsAt legs i a × P i a

-- It is the place of a leg but the first that is such; none is where there is none.
abbrev pub IsFurtherPlace : Legs → (ℕ → Leg → Type 0) → Option ℕ → Type 0
IsFurtherPlace legs P found = MatchOption found (HasFurther legs P → ⊥) (IsSuchAt legs P)

-- It is the place of a leg that is such; none is where there is none.
abbrev pub IsPlaceOf : Legs → (ℕ → Leg → Type 0) → Option ℕ → Type 0
IsPlaceOf legs P found = MatchOption found (HasLeg legs P → ⊥) (IsSuchAt legs P)

-- The first of two items stands so before the second, which the leg with the second place calls, where that with the first place calls the
-- first: in its path, by their kinds, or as a later leg calls the second.
abbrev pub IsAheadOf : DraftMachine → Legs → ℕ → ℕ → Leg → Bool → Item → Item → Type 0
IsAheadOf m legs i j b fires x y = IsPathPair b x y ⊎ (ComesFirst x y × IsCalledAsTold m legs j b fires x) ⊎ StandsLater (leg_list legs) i j

-- The answer tells whether a route whose legs these are orders the items so.
abbrev pub TellsOrder : DraftMachine → Legs → Bool → Item → Item → Bool → Type 0
TellsOrder m legs fires x y result = (p : Route) → AreLegsOf m p legs → (IsTrue result ↔ IsOrderedBy m fires p x y)
