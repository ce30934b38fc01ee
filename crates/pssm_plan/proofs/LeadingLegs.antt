-- A leg enters only near where it ends; and its entries come before what is no end of it only where another leg is listed behind it.
use Rattle.std.proofs.Common.{refl, ◌⊎◌, ◌≡◌, ◌↔◌, ◌<◌, Bool, true, false, IsTrue, subst, ◌+◌, ◌-◌, ℕ}
use Rattle.std.proofs.Common.{List, Some, length, take, slice_get, Contains, inl, inr, ⊎_elim, arith, ◌∙◌}
use Rattle.std.proofs.lemmas.List.{get_or-take, length-take-le}
use Rattle.std.proofs.lemmas.Option.{slice_get_within, get_or_from_slice_get}
use Rattle.pssm_model.specs.declared.ids.VertexId.{VertexId}
use Rattle.pssm_model.specs.declared.ids.TransId.{TransId}
use Rattle.pssm_model.specs.declared.elements.DraftMachine.{DraftMachine}
use Rattle.pssm_model.specs.declared.steps.Item.{Item}
use Rattle.pssm_model.specs.declared.steps.Item.TheVariants.{Exit, Effect, Enter, Opened, Pick}
use Rattle.pssm_model.specs.Shapes.{HasShape}
use Rattle.pssm_model.specs.WellFormed.{KeepsModelRules}
use Rattle.pssm_legs.specs.declared.legs.Leg.{Leg}
use Rattle.pssm_legs.specs.LegsOf.{IsAt, IsLegIn}
use Rattle.pssm_legs.specs.inner.Told.{IsEntered, IsEnteredAt, ComesFirst, IsOrderedOver, IsOrderedAsTold}
use Rattle.pssm_legs.proofs.LaterPlaces.{of_more, later_lower}
use Rattle.pssm_legs.proofs.TheLegs.{orders_is}
use Rattle.pssm_plan.specs.declared.ways.Way.{Way}
use Rattle.pssm_plan.specs.Ways.{IsWayIn}
use Rattle.pssm_plan.specs.inner.ByWays.{orders_by}
use Rattle.pssm_plan.specs.inner.Near.{IsNear, EndsNear, IsNearSome, LeadsOnNear}
use Rattle.pssm_plan.specs.inner.Sequence.{IsNoEnd, IsLong}
use Rattle.pssm_plan.proofs.NearItems.{more_in, effects_are}
use Rattle.pssm_plan.proofs.NearWays.{way_calls_first}

pub taken_inside : {X : Type 0} (xs : List X) (n : ℕ) (x : X) → n < length xs → Contains (take n xs) x → Contains xs x
taken_inside {X} xs n x few h =
    let low : h.0 < n = (let whole = length-take-le n xs (omega (arith, few)) in let lt = h.1 in omega (arith, whole, lt)) in
    (h.0, omega (arith, low, few), (let same = get_or-take n xs h.0 x low in let is = h.2 in cc (same, is)))

pub contained_taken : {X : Type 0} (xs : List X) (n k : ℕ) (x : X) → slice_get xs k ≡ Some x → k < n → n < length xs → Contains (take n xs) x
contained_taken {X} xs n k x at low few =
    let whole = length-take-le n xs (omega (arith, few)) in
    (k, omega (arith, whole, low), get_or-take n xs k x low ∙ get_or_from_slice_get xs k x x at)

module _ (m : DraftMachine) (a : Leg) (s : VertexId) where
  near_at : (v : VertexId) → IsEnteredAt m a v s → IsNear m v s
  near_at v h =
      ⊎_elim
      (λ passed. inr (inr passed.1))
      (λ end. ⊎_elim (λ same. inl same.1) (λ entry. inr (inl entry.1)) end)
      h.1

  pub entered_ends_near : IsEntered m a s → EndsNear m a s
  entered_ends_near h =
      ⊎_elim
      (λ one. inl (one.0, near_at a.last one.1))
      (λ any. inr (
        any.0,
        ⊎_elim
            (λ named. inl (named.0, named.1, near_at named.0 named.2))
            (λ further. inr (further.0, further.2, (further.1, further.3, near_at further.1 further.4)))
            any.1,
      ))
      h.1

no_end_first : (s : VertexId) (y : Item) → IsNoEnd y → ComesFirst (Enter s) y → ⊥
no_end_first s (Exit q) none h = h
no_end_first s (Effect t) none h = h
no_end_first s (Enter q) none h = h
no_end_first s (Opened r mode) none h = none
no_end_first s (Pick c) none h = none

module _ {m : DraftMachine} (shape : HasShape m) (rules : KeepsModelRules m) (way : Way) (is : IsWayIn m way) (s : VertexId) (y : Item) where
  over_of : (i : ℕ) (a : Leg) → IsNoEnd y → IsOrderedAsTold m way.legs i a way.fires (Enter s) y → IsOrderedOver m way.legs i a way.fires (Enter s) y
  over_of i a none h = ⊎_elim (λ within. ⊎_elim (λ path. absurd path) (λ both. absurd (no_end_first s y none both.0)) within) (λ over. over) h

  -- another leg is listed behind
  behind : (i : ℕ) (a : Leg) → IsOrderedOver m way.legs i a way.fires (Enter s) y → i < length way.legs.more.items
  behind i a over =
      let later = over.2 in
      let lt = later_lower way.legs is.inside.before i (later.0 + 1) later.3.0 in
      let there = slice_get_within way.legs.more.items later.0 later.1 (of_more way.legs later.0 later.1 later.2) in
      omega (arith, lt, there)

  by_more : (k : ℕ) (b : Leg) → IsAt way.legs (k + 1) b → IsOrderedOver m way.legs (k + 1) b way.fires (Enter s) y → LeadsOnNear m way s
  by_more k b at over =
      let lt = behind (k + 1) b over in (
        omega (arith, lt),
        inr (
          b,
          contained_taken way.legs.more.items (length way.legs.more.items - 1) k b (of_more way.legs k b at) (omega (arith, lt)) (omega (arith, lt)),
          entered_ends_near m b s over.1,
        ),
      )

  pub leads_told : IsNoEnd y → orders_by m way (Enter s) y → LeadsOnNear m way s
  leads_told none h =
      ⊎_elim
      (λ first. (let over = over_of 0 way.legs.first none first in (behind 0 way.legs.first over, inl (entered_ends_near m way.legs.first s over.1))))
      (λ more. by_more more.0 more.1 more.2 (over_of (more.0 + 1) more.1 none more.3))
      (orders_is shape rules way.route.value way.legs is way.fires (Enter s) y h)

-- the legs but the last are of the machine
pub leading_in : {m : DraftMachine} (way : Way) → IsWayIn m way → 0 < length way.legs.more.items → (leg : Leg)
    → Contains (take (length way.legs.more.items - 1) way.legs.more.items) leg → IsLegIn m leg
leading_in way is some leg inside =
    more_in way is leg (taken_inside way.legs.more.items (length way.legs.more.items - 1) leg (omega (arith, some)) inside)

-- where the first leg does not, one of the others does
pub near_or_leads : (m : DraftMachine) (way : Way) (s : VertexId) (said : List Leg) (first some : Bool) → said ≡ way.legs.more.items
    → 0 < length way.legs.more.items → (IsTrue first ↔ EndsNear m way.legs.first s) → first ≡ false
    → (IsTrue some ↔ IsNearSome m (take (length said - 1) said) s) → IsTrue some ↔ LeadsOnNear m way s
near_or_leads m way s said first some same there has failed one =
    let near = subst (λ (l : List Leg). IsTrue some ↔ IsNearSome m (take (length l - 1) l) s) same one in (
      λ t. (there, inr (near.0 t)),
      λ h. ⊎_elim (λ here. absurd (let yes : first ≡ true = has.1 here in cc (yes, failed))) (λ more. near.1 more) h.1,
    )

-- a way that calls an effect is long, or this is that of its one transition
pub effect_leads : {m : DraftMachine} (way : Way) → IsWayIn m way → (t : TransId) (y : Item) → orders_by m way (Effect t) y
    → (way.legs.first.named ≡ t) ⊎ IsLong way
effect_leads {m} way is t y h =
    ⊎_elim
    (λ first. ⊎_elim
    (λ named. inl (let e = named in cc e))
    (λ further. inr (inr (let lt = further.1.1 in omega (arith, lt))))
    first)
    (λ more. inr (inl (let lt = more.1.1 in omega (arith, lt))))
    ((effects_are way is (Effect t)).1 (t, refl, way_calls_first m way (Effect t) y h))
