-- What a leg orders, where it is asked once whether it calls the first of two items.
use Rattle.std.proofs.Common.{◌⊎◌, ◌↔◌, ◌+◌, ℕ, Bool, inl, inr, ⊎_elim}
use Rattle.pssm_model.specs.declared.elements.DraftMachine.{DraftMachine}
use Rattle.pssm_model.specs.declared.steps.Item.{Item}
use Rattle.pssm_model.specs.declared.steps.Item.TheVariants as items
use Rattle.pssm_model.specs.declared.steps.Mode.TheVariants.{Plain, Shallow, Deep}
use Rattle.pssm_legs.specs.declared.legs.Leg.{Leg}
use Rattle.pssm_legs.specs.declared.legs.Legs.{Legs}
use Rattle.pssm_legs.specs.inner.Told.{IsCalledAsTold, IsCalledLater, IsPathPair, ComesFirst, ComesBeforeLater, ComesBehind, IsOrderedWithin, IsOrderedOver, IsOrderedAsTold, HasFurther}
use Rattle.pssm_legs.proofs.Places.{at_contains}

-- a leg has the effects that stand in its path
pair_calls : (m : DraftMachine) (legs : Legs) (i : ℕ) (a : Leg) (fires : Bool) (x y : Item) → IsPathPair a x y → IsCalledAsTold m legs i a fires x
pair_calls m legs i a fires (items.Effect t) (items.Effect u) h =
    ⊎_elim (λ first. inl first.0) (λ both. inr (at_contains a.further.items both.0 t both.3)) h.1
pair_calls m legs i a fires (items.Effect t) (items.Exit s) h = absurd h
pair_calls m legs i a fires (items.Effect t) (items.Enter s) h = absurd h
pair_calls m legs i a fires (items.Effect t) (items.Opened r mode) h = absurd h
pair_calls m legs i a fires (items.Effect t) (items.Pick c) h = absurd h
pair_calls m legs i a fires (items.Exit s) y h = absurd h
pair_calls m legs i a fires (items.Enter s) y h = absurd h
pair_calls m legs i a fires (items.Opened r mode) y h = absurd h
pair_calls m legs i a fires (items.Pick c) y h = absurd h

module _ (m : DraftMachine) (legs : Legs) (i : ℕ) (a : Leg) (fires : Bool) (x y : Item) where
  -- a leg that calls the first item and has the second come behind it orders them so
  behind_orders : IsCalledAsTold m legs i a fires x → ComesBehind m legs i a fires x y → IsOrderedAsTold m legs i a fires x y
  behind_orders calls (inl (order, both)) = inl (inr (order, calls, both))
  behind_orders calls (inr (before, later)) = inr (before, calls, later)

  so_ordered : IsCalledAsTold m legs i a fires x × (IsPathPair a x y ⊎ ComesBehind m legs i a fires x y) → IsOrderedAsTold m legs i a fires x y
  so_ordered (calls, inl pair) = inl (inl pair)
  so_ordered (calls, inr behind) = behind_orders calls behind

  of_ordered : IsOrderedAsTold m legs i a fires x y → IsCalledAsTold m legs i a fires x × (IsPathPair a x y ⊎ ComesBehind m legs i a fires x y)
  of_ordered (inl (inl pair)) = (pair_calls m legs i a fires x y pair, inl pair)
  of_ordered (inl (inr (order, calls, both))) = (calls, inr (inl (order, both)))
  of_ordered (inr (before, calls, later)) = (calls, inr (inr (before, later)))

  pub ordered_so : (IsCalledAsTold m legs i a fires x × (IsPathPair a x y ⊎ ComesBehind m legs i a fires x y)) ↔ IsOrderedAsTold m legs i a fires x y
  ordered_so = (so_ordered, of_ordered)

-- the first of two items that a leg orders is an exit, an effect or an entry
first_starts : (x y : Item) → ComesFirst x y → ComesBeforeLater x
first_starts (items.Exit s) y h = tt
first_starts (items.Effect t) y h = tt
first_starts (items.Enter s) y h = tt
first_starts (items.Opened r mode) y h = absurd h
first_starts (items.Pick c) y h = absurd h

pair_starts : (a : Leg) (x y : Item) → IsPathPair a x y → ComesBeforeLater x
pair_starts a (items.Exit s) y h = tt
pair_starts a (items.Effect t) y h = tt
pair_starts a (items.Enter s) y h = tt
pair_starts a (items.Opened r mode) y h = absurd h
pair_starts a (items.Pick c) y h = absurd h

module _ (m : DraftMachine) (legs : Legs) (fires : Bool) (x y : Item) where
  told_starts : (i : ℕ) (a : Leg) → IsOrderedAsTold m legs i a fires x y → ComesBeforeLater x
  told_starts i a (inl (inl pair)) = pair_starts a x y pair
  told_starts i a (inl (inr (order, one, both))) = first_starts x y order
  told_starts i a (inr (before, one, later)) = before

  pub over_starts : (i : ℕ) (a : Leg) → IsOrderedOver m legs i a fires x y → ComesBeforeLater x
  over_starts i a h = h.0

  pub further_starts : HasFurther legs (λ i a. IsOrderedAsTold m legs i a fires x y) → ComesBeforeLater x
  further_starts h = told_starts (h.0 + 1) h.1 h.3
