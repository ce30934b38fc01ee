-- What the legs order, where it is asked first which leg calls the second of two items.
use Rattle.std.proofs.Common.{◌≡◌, ◌⊎◌, ◌↔◌, ◌<◌, ◌+◌, ℕ, Bool, length, refl, inl, inr, ⊎_elim, arith}
use Rattle.std.proofs.lemmas.Option.{slice_get_within}
use Rattle.pssm_model.specs.declared.elements.DraftMachine.{DraftMachine}
use Rattle.pssm_model.specs.declared.steps.Item.{Item}
use Rattle.pssm_model.specs.declared.steps.Item.TheVariants as items
use Rattle.pssm_legs.specs.declared.legs.Leg.{Leg}
use Rattle.pssm_legs.specs.declared.legs.Legs.{Legs}
use Rattle.pssm_legs.specs.LegsOf.{leg_list, IsAt, StandsLater, AreLegsIn}
use Rattle.pssm_legs.specs.inner.Told.{IsCalledAsTold, IsCalledLater, IsCalledFrom, IsOrderedOver, IsOrderedAsTold, IsPathPair, ComesBeforeLater, StartsAhead, HasFurther}
use Rattle.pssm_legs.proofs.LaterPlaces.{of_more, first_or_more, later_is_further, later_lower}

-- a leg that stands later than a place has a higher one
pub room_behind : (m : DraftMachine) (legs : Legs) → AreLegsIn m legs → (i : ℕ) (fires : Bool) (x : Item) → IsCalledLater m legs i fires x
    → i < length legs.more.items
room_behind m legs inside i fires x h =
    let less = later_lower legs inside.before i (h.0 + 1) h.3.0 in
    let within = slice_get_within legs.more.items h.0 h.1 (of_more legs h.0 h.1 h.2) in omega (arith, less, within)

-- an exit or entry comes before all that later legs call, and stands in no path
starts_before : (x : Item) → StartsAhead x → ComesBeforeLater x
starts_before (items.Exit s) h = tt
starts_before (items.Enter s) h = tt
starts_before (items.Effect t) h = absurd h
starts_before (items.Opened r mode) h = absurd h
starts_before (items.Pick c) h = absurd h

starts_no_pair : (a : Leg) (x y : Item) → StartsAhead x → IsPathPair a x y → ⊥
starts_no_pair a (items.Exit s) y h pair = pair
starts_no_pair a (items.Enter s) y h pair = pair
starts_no_pair a (items.Effect t) y h pair = absurd h
starts_no_pair a (items.Opened r mode) y h pair = absurd h
starts_no_pair a (items.Pick c) y h pair = absurd h

module _ (m : DraftMachine) (legs : Legs) (inside : AreLegsIn m legs) (fires : Bool) (x y : Item) (starts : StartsAhead x) where
  abbrev Called : ℕ → Leg → Type 0
  Called i a = IsCalledFrom m legs i a fires x y

  abbrev Told : ℕ → Leg → Type 0
  Told i a = IsOrderedAsTold m legs i a fires x y

  abbrev Over : ℕ → Leg → Type 0
  Over i a = IsOrderedOver m legs i a fires x y

  back_orders : HasFurther legs Called → Over 0 legs.first ⊎ HasFurther legs Told
  back_orders h =
      ⊎_elim
      (λ own. inr (h.0, h.1, h.2, inl (inr (own.0, own.1, h.3.0))))
      (λ before.
      let later = later_is_further legs inside.before
      (λ j b. StandsLater (leg_list legs) before.0 j × IsCalledAsTold m legs j b fires y) before.0 (h.0 + 1) h.1 before.2 h.2 (before.2, h.3.0) in
      ⊎_elim
      (λ first. inl first)
      (λ more. inr (more.0, more.1, more.2, inr more.3))
      (first_or_more legs Over before.0 before.1 before.3 (starts_before x starts, before.4, later)))
      h.3.1

  orders_back : Over 0 legs.first ⊎ HasFurther legs Told → HasFurther legs Called
  orders_back h =
      ⊎_elim
      (λ first. back 0 legs.first refl first)
      (λ more. ⊎_elim
      (λ within. ⊎_elim
      (λ pair. absurd (starts_no_pair more.1 x y starts pair))
      (λ both. (more.0, more.1, more.2, (both.2, inl (both.0, both.1))))
      within)
      (λ over. back (more.0 + 1) more.1 more.2 over)
      more.3)
      h
    where
      back : (i : ℕ) (a : Leg) → IsAt legs i a → Over i a → HasFurther legs Called
      back i a at over = (over.2.0, over.2.1, over.2.2, (over.2.3.1, inr (i, a, over.2.3.0, at, over.1)))

  pub ordered_back : HasFurther legs Called ↔ (Over 0 legs.first ⊎ HasFurther legs Told)
  ordered_back = (back_orders, orders_back)
