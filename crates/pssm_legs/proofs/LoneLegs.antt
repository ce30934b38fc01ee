-- What a single leg of one transition orders: items of kinds that come in this order.
use Rattle.std.proofs.Common.{◌⊎◌, ◌<◌, ℕ, Bool, length, Contains, inl, inr, ⊎_elim, arith}
use Rattle.std.proofs.lemmas.Option.{slice_get_within}
use Rattle.pssm_model.specs.declared.ids.TransId.{TransId}
use Rattle.pssm_model.specs.declared.elements.DraftMachine.{DraftMachine}
use Rattle.pssm_model.specs.declared.steps.Item.{Item}
use Rattle.pssm_model.specs.declared.steps.Item.TheVariants as items
use Rattle.pssm_legs.specs.declared.legs.Leg.{Leg}
use Rattle.pssm_legs.specs.declared.legs.Legs.{Legs}
use Rattle.pssm_legs.specs.LegsOf.{StandsLater, IsAt, leg_list}
use Rattle.pssm_legs.specs.inner.Told.{HasBefore, IsCalledAsTold, IsPathPair, ComesFirst, IsOrderedWithin, IsOrderedAsTold, HasFurther, HasLeg}
use Rattle.pssm_legs.proofs.LaterPlaces.{of_more}

-- a leg that has one transition before another has several
before_several : (a : Leg) (t u : TransId) → HasBefore a t u → 0 < length a.further.items
before_several a t u h =
    ⊎_elim
    (λ named. let lt = named.1.1 in omega (arith, lt))
    (λ stands. let lt = slice_get_within a.further.items stands.1 u stands.4 in omega (arith, lt))
    h

pair_several : (a : Leg) (x y : Item) → IsPathPair a x y → 0 < length a.further.items
pair_several a (items.Effect t) (items.Effect u) h = before_several a t u h.1
pair_several a (items.Effect t) (items.Exit s) h = absurd h
pair_several a (items.Effect t) (items.Enter s) h = absurd h
pair_several a (items.Effect t) (items.Opened r mode) h = absurd h
pair_several a (items.Effect t) (items.Pick c) h = absurd h
pair_several a (items.Exit s) y h = absurd h
pair_several a (items.Enter s) y h = absurd h
pair_several a (items.Opened r mode) y h = absurd h
pair_several a (items.Pick c) y h = absurd h

further_several : (legs : Legs) (P : ℕ → Leg → Type 0) → HasFurther legs P → 0 < length legs.more.items
further_several legs P h = let lt = slice_get_within legs.more.items h.0 h.1 (of_more legs h.0 h.1 h.2) in omega (arith, lt)

-- items that some leg orders are of kinds that come in this order, or there are several legs, or the first has several transitions
pub ordered_or_several : (m : DraftMachine) (legs : Legs) (fires : Bool) (x y : Item)
    → HasLeg legs (λ i a. IsOrderedAsTold m legs i a fires x y)
    → ComesFirst x y ⊎ ((0 < length legs.more.items) ⊎ (0 < length legs.first.further.items))
ordered_or_several m legs fires x y h =
    ⊎_elim
    (λ first. ⊎_elim
    (λ (within : IsOrderedWithin m legs 0 legs.first fires x y). ⊎_elim (λ pair. inr (inr (pair_several legs.first x y pair))) (λ called. inl called.0) within)
    (λ over. inr (inl (further_several legs (λ j b. StandsLater (leg_list legs) 0 j × IsCalledAsTold m legs j b fires y) over.2)))
    first)
    (λ more. inr (inl (further_several legs (λ i a. IsOrderedAsTold m legs i a fires x y) more)))
    h
