-- What the legs of a route call, open and order, by what is told of them.
use Rattle.std.specs.Prelude.{◌≡◌, ◌⊎◌, ◌+◌, ◌<◌, ℕ, Bool, IsTrue, Some, Contains, length}
use Rattle.pssm_model.specs.declared.ids.VertexId.{VertexId}
use Rattle.pssm_model.specs.declared.ids.RegionId.{RegionId}
use Rattle.pssm_model.specs.declared.ids.TransId.{TransId}
use Rattle.pssm_model.specs.declared.elements.DraftMachine.{DraftMachine}
use Rattle.pssm_model.specs.declared.elements.VertexKind.{VertexKind}
use Rattle.pssm_model.specs.declared.elements.VertexKind.TheVariants as kinds
use Rattle.pssm_model.specs.declared.elements.Owner.TheVariants.{Region, State}
use Rattle.pssm_model.specs.declared.steps.Mode.TheVariants.{Plain, Shallow, Deep}
use Rattle.pssm_model.specs.declared.steps.Item.{Item}
use Rattle.pssm_model.specs.declared.steps.Item.TheVariants.{Exit, Effect, Enter, Opened, Pick}
use Rattle.pssm_model.specs.Forest.{HasKind, owner_of, IsHome, LiesInState, LiesInRegion}
use Rattle.pssm_model.specs.Legs.{Enters, IsEnteredFor, IsEndState, LiesInScope}
use Rattle.pssm_legs.specs.declared.areas.Area.{Area}
use Rattle.pssm_legs.specs.declared.areas.Area.TheVariants.{Nowhere, Inside, Within}
use Rattle.pssm_legs.specs.declared.entering.Aim.{Aim}
use Rattle.pssm_legs.specs.declared.entering.Aim.TheVariants.{Entering, EndingIn}
use Rattle.pssm_legs.specs.declared.legs.Leg.{Leg}
use Rattle.pssm_legs.specs.declared.legs.Legs.{Legs}
use Rattle.pssm_legs.specs.Areas.{scope_of}
use Rattle.pssm_legs.specs.LegsOf.{leg_list, IsAt, StandsBefore, StandsLater}

-- A leg after which that with the place stands exits and enters around the vertex.
abbrev pub IsCoveredBefore : DraftMachine → Legs → ℕ → VertexId → Type 0
IsCoveredBefore m legs j s = (i : ℕ) × (a : Leg) × StandsLater (leg_list legs) i j × IsAt legs i a × LiesInScope m s (scope_of a.area)

-- The leg exits the State where its route fires: it lies where the leg exits, and no earlier leg exits there.
abbrev pub IsExited : DraftMachine → Legs → ℕ → Leg → VertexId → Type 0
IsExited m legs i a s = LiesInScope m s (scope_of a.area) × (IsCoveredBefore m legs i s → ⊥)

-- The area is the innermost region in which the vertex lies.
abbrev pub IsHomeArea : DraftMachine → Area → VertexId → Type 0
IsHomeArea m (Within r) v = IsHome m v r
IsHomeArea m (Inside s) v = ⊥
IsHomeArea m Nowhere v = ⊥

-- The State lies where the leg exits and enters, and the vertex in it.
abbrev pub IsPassed : DraftMachine → Leg → VertexId → VertexId → Type 0
IsPassed m a v s = LiesInScope m s (scope_of a.area) × LiesInState m v s

-- For the vertex as a last one the leg enters the State: it is passed, or stands at the end.
abbrev pub IsEnteredAt : DraftMachine → Leg → VertexId → VertexId → Type 0
IsEnteredAt m a v s = IsEnteredFor m v × (IsPassed m a v s ⊎ IsEndState m v s)

-- The transition ends on a vertex that is such.
abbrev pub EndsWhere : DraftMachine → (VertexId → Type 0) → TransId → Type 0
EndsWhere m P t = (v : VertexId) × Enters m t v × P v

-- A further transition of the leg ends on a vertex that is such.
abbrev pub HasFurtherTarget : DraftMachine → Leg → (VertexId → Type 0) → Type 0
HasFurtherTarget m a P = (t : TransId) × (v : VertexId) × Contains a.further.items t × Enters m t v × P v

-- A last vertex of the leg is such: the one on which it ends where its transitions are taken in order, and else the target of one.
abbrev pub HasLast : DraftMachine → Leg → (VertexId → Type 0) → Type 0
HasLast m a P = (IsTrue a.in_order × P a.last) ⊎ ((IsTrue a.in_order → ⊥) × (EndsWhere m P a.named ⊎ HasFurtherTarget m a P))

-- The leg enters the State: it does for a last vertex.
abbrev pub IsEntered : DraftMachine → Leg → VertexId → Type 0
IsEntered m a s = (a.area ≡ Nowhere → ⊥) × HasLast m a (λ v. IsEnteredAt m a v s)

-- A last vertex of the leg lies in the region.
abbrev pub EndsInside : DraftMachine → Leg → RegionId → Type 0
EndsInside m a r = HasLast m a (λ v. LiesInRegion m v r)

-- The vertex meets the aim as a last one of the leg.
abbrev pub Meets : DraftMachine → Leg → Aim → VertexId → Type 0
Meets m a (Entering s) v = IsEnteredAt m a v s
Meets m a (EndingIn r) v = LiesInRegion m v r

-- What the aim names is there.
abbrev pub IsAimIn : DraftMachine → Aim → Type 0
IsAimIn m (Entering s) = s.0 < length m.vertices
IsAimIn m (EndingIn r) = r.0 < length m.regions

-- The leg has the transition.
abbrev pub HasTransition : Leg → TransId → Type 0
HasTransition a t = (a.named ≡ t) ⊎ Contains a.further.items t

-- A transition of the leg ends on the vertex.
abbrev pub HasTarget : DraftMachine → Leg → VertexId → Type 0
HasTarget m a v = (t : TransId) × HasTransition a t × Enters m t v

-- The leg has the first transition before the second.
abbrev pub HasBefore : Leg → TransId → TransId → Type 0
HasBefore a t u = ((a.named ≡ t) × Contains a.further.items u) ⊎ StandsBefore a.further.items t u

-- Some leg but the first is such.
abbrev pub HasFurther : Legs → (ℕ → Leg → Type 0) → Type 0
HasFurther legs P = (k : ℕ) × (b : Leg) × IsAt legs (k + 1) b × P (k + 1) b

-- A leg that stands later than the place aims at the region.
abbrev pub IsAimedLater : DraftMachine → Legs → ℕ → RegionId → Type 0
IsAimedLater m legs i r = HasFurther legs (λ j b. StandsLater (leg_list legs) i j × EndsInside m b r)

-- The leg, or one that stands later, aims at the region.
abbrev pub IsAimedFrom : DraftMachine → Legs → ℕ → Leg → RegionId → Type 0
IsAimedFrom m legs i a r = EndsInside m a r ⊎ IsAimedLater m legs i r

-- The leg enters the State, and neither it nor a later one aims at the region.
abbrev pub IsLeftToOpen : DraftMachine → Legs → ℕ → Leg → VertexId → RegionId → Type 0
IsLeftToOpen m legs i a s r = IsEntered m a s × (IsAimedFrom m legs i a r → ⊥)

-- The leg exits and enters in the State that owns the region.
abbrev pub IsInOwner : DraftMachine → Leg → RegionId → Type 0
IsInOwner m a r = (s : VertexId) × (a.area ≡ Inside s) × (owner_of m (Region r) ≡ Some (State s))

-- The leg opens the region beside what it enters.
abbrev pub IsBeside : DraftMachine → Legs → ℕ → Leg → RegionId → Type 0
IsBeside m legs i a r = IsInOwner m a r × (IsAimedFrom m legs i a r → ⊥)

-- The leg, whose transitions are taken in order, ends on a history vertex of this kind of the region.
abbrev pub IsHistoryEnd : DraftMachine → Leg → VertexKind → RegionId → Type 0
IsHistoryEnd m a kind r = IsTrue a.in_order × HasKind m a.last kind × (owner_of m (State a.last) ≡ Some (Region r))

-- The leg, whose transitions are taken in order, ends on the choice.
abbrev pub IsChoiceEnd : DraftMachine → Leg → VertexId → Type 0
IsChoiceEnd m a c = IsTrue a.in_order × (c ≡ a.last) × HasKind m c kinds.Choice

-- The leg with the place calls the item.
abbrev pub IsCalledAsTold : DraftMachine → Legs → ℕ → Leg → Bool → Item → Type 0
IsCalledAsTold m legs i a fires (Exit s) = IsTrue fires × IsExited m legs i a s
IsCalledAsTold m legs i a fires (Effect t) = HasTransition a t
IsCalledAsTold m legs i a fires (Enter s) = IsEntered m a s
IsCalledAsTold m legs i a fires (Opened r Plain) = IsBeside m legs i a r
IsCalledAsTold m legs i a fires (Opened r Shallow) = IsHistoryEnd m a kinds.ShallowHistory r
IsCalledAsTold m legs i a fires (Opened r Deep) = IsHistoryEnd m a kinds.DeepHistory r
IsCalledAsTold m legs i a fires (Pick c) = IsChoiceEnd m a c

-- A leg that stands later than the place calls the item.
abbrev pub IsCalledLater : DraftMachine → Legs → ℕ → Bool → Item → Type 0
IsCalledLater m legs i fires x = HasFurther legs (λ j b. StandsLater (leg_list legs) i j × IsCalledAsTold m legs j b fires x)

-- Items of these kinds come in this order where one leg calls both: exits, effects, entries, and what is called at the end.
abbrev pub ComesFirst : Item → Item → Type 0
ComesFirst (Exit s) (Effect t) = Unit {0}
ComesFirst (Effect t) (Enter s) = Unit {0}
ComesFirst (Effect t) (Opened r mode) = Unit {0}
ComesFirst (Effect t) (Pick c) = Unit {0}
ComesFirst (Enter s) (Opened r Shallow) = Unit {0}
ComesFirst (Enter s) (Opened r Deep) = Unit {0}
ComesFirst (Enter s) (Pick c) = Unit {0}
ComesFirst _ _ = ⊥

-- an exit, effect or entry, which comes before all that later legs call
abbrev pub ComesBeforeLater : Item → Type 0
ComesBeforeLater (Exit s) = Unit {0}
ComesBeforeLater (Effect t) = Unit {0}
ComesBeforeLater (Enter s) = Unit {0}
ComesBeforeLater _ = ⊥

-- The items are effects, the first of which stands in the path before the second.
abbrev pub IsPathPair : Leg → Item → Item → Type 0
IsPathPair a (Effect t) (Effect u) = IsTrue a.in_order × HasBefore a t u
IsPathPair a _ _ = ⊥

-- The leg with the place calls both items, or has both in its path, and so orders them.
abbrev pub IsOrderedWithin : DraftMachine → Legs → ℕ → Leg → Bool → Item → Item → Type 0
IsOrderedWithin m legs i a fires x y =
    IsPathPair a x y ⊎ (ComesFirst x y × IsCalledAsTold m legs i a fires x × IsCalledAsTold m legs i a fires y)

-- The leg with the place calls the first item, which comes before all that later legs call, and a later one the second.
abbrev pub IsOrderedOver : DraftMachine → Legs → ℕ → Leg → Bool → Item → Item → Type 0
IsOrderedOver m legs i a fires x y = ComesBeforeLater x × IsCalledAsTold m legs i a fires x × IsCalledLater m legs i fires y

-- The leg with the place orders the items so.
abbrev pub IsOrderedAsTold : DraftMachine → Legs → ℕ → Leg → Bool → Item → Item → Type 0
IsOrderedAsTold m legs i a fires x y = IsOrderedWithin m legs i a fires x y ⊎ IsOrderedOver m legs i a fires x y

-- Where the leg with the place calls the first item, the second comes behind it: the leg calls it too, and they come in this order by
-- their kinds, or a later leg calls it.
abbrev pub ComesBehind : DraftMachine → Legs → ℕ → Leg → Bool → Item → Item → Type 0
ComesBehind m legs i a fires x y =
    (ComesFirst x y × IsCalledAsTold m legs i a fires y) ⊎ (ComesBeforeLater x × IsCalledLater m legs i fires y)

-- Some leg is such.
abbrev pub HasLeg : Legs → (ℕ → Leg → Type 0) → Type 0
HasLeg legs P = P 0 legs.first ⊎ HasFurther legs P

-- The item is the exit of a State that lies where the leg exits.
abbrev pub IsCoveredExit : DraftMachine → Leg → Item → Type 0
IsCoveredExit m a (Exit s) = LiesInScope m s (scope_of a.area)
IsCoveredExit m a _ = ⊥

-- The items are exits, the second of a State in that of the first.
abbrev pub IsInnerExit : DraftMachine → Item → Item → Type 0
IsInnerExit m (Exit q) (Exit s) = LiesInState m s q
IsInnerExit m _ _ = ⊥

-- A leg behind which that with the place stands calls the item.
abbrev pub IsCalledBefore : DraftMachine → Legs → ℕ → Bool → Item → Type 0
IsCalledBefore m legs j fires x =
    (i : ℕ) × (a : Leg) × StandsLater (leg_list legs) i j × IsAt legs i a × IsCalledAsTold m legs i a fires x

-- The first item is called ahead of the second, which the leg with the place calls: by this leg, where they come in this order by their
-- kinds, or by one behind which it stands.
abbrev pub IsCalledAhead : DraftMachine → Legs → ℕ → Leg → Bool → Item → Item → Type 0
IsCalledAhead m legs j b fires x y = (ComesFirst x y × IsCalledAsTold m legs j b fires x) ⊎ IsCalledBefore m legs j fires x

-- The State lies where the leg with the place exits, and the item is an effect, or where one behind which it stands exits.
abbrev pub IsCoveredAhead : DraftMachine → Legs → ℕ → Leg → VertexId → Item → Type 0
IsCoveredAhead m legs j b s y = (ComesFirst (Exit s) y × LiesInScope m s (scope_of b.area)) ⊎ IsCoveredBefore m legs j s

-- The leg with the place calls the second item, and the first is called ahead of it.
abbrev pub IsCalledFrom : DraftMachine → Legs → ℕ → Leg → Bool → Item → Item → Type 0
IsCalledFrom m legs j b fires x y = IsCalledAsTold m legs j b fires y × IsCalledAhead m legs j b fires x y

-- an exit or entry
abbrev pub StartsAhead : Item → Type 0
StartsAhead (Exit s) = Unit {0}
StartsAhead (Enter s) = Unit {0}
StartsAhead _ = ⊥
