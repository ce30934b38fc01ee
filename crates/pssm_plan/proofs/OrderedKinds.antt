-- Of which kinds items are that ways order of which none is long.
use Rattle.std.proofs.Common.{◌⊎◌, ◌≤◌, List, inl, inr, ⊎_elim, arith}
use Rattle.pssm_model.specs.declared.elements.DraftMachine.{DraftMachine}
use Rattle.pssm_model.specs.declared.steps.Item.{Item}
use Rattle.pssm_model.specs.declared.steps.Item.TheVariants as items
use Rattle.pssm_model.specs.Shapes.{HasShape}
use Rattle.pssm_model.specs.WellFormed.{KeepsModelRules}
use Rattle.pssm_legs.specs.inner.Told.{ComesFirst}
use Rattle.pssm_legs.proofs.LoneLegs.{ordered_or_several}
use Rattle.pssm_legs.proofs.TheLegs.{orders_is}
use Rattle.pssm_plan.specs.declared.ways.Way.{Way}
use Rattle.pssm_plan.specs.Ways.{AreWaysIn}
use Rattle.pssm_plan.specs.inner.Sequence.{MayOrder, IsSomeLong, IsNestedPair, IsSequence, IsOrderedBySome, kind_number}

may_order_of : (x y : Item) → ComesFirst x y → MayOrder x y
may_order_of (items.Exit s) (items.Effect t) h = tt
may_order_of (items.Effect t) (items.Enter s) h = tt
may_order_of (items.Effect t) (items.Opened r mode) h = tt
may_order_of (items.Effect t) (items.Pick c) h = tt
may_order_of (items.Enter s) (items.Opened r mode) h = tt
may_order_of (items.Enter s) (items.Pick c) h = tt
may_order_of (items.Exit s) (items.Exit q) h = absurd h
may_order_of (items.Exit s) (items.Enter q) h = absurd h
may_order_of (items.Exit s) (items.Opened r mode) h = absurd h
may_order_of (items.Exit s) (items.Pick c) h = absurd h
may_order_of (items.Effect t) (items.Exit s) h = absurd h
may_order_of (items.Effect t) (items.Effect u) h = absurd h
may_order_of (items.Enter s) (items.Exit q) h = absurd h
may_order_of (items.Enter s) (items.Effect t) h = absurd h
may_order_of (items.Enter s) (items.Enter q) h = absurd h
may_order_of (items.Opened r mode) y h = absurd h
may_order_of (items.Pick c) y h = absurd h

-- the first of such kinds is no later one
order_kinds : (x y : Item) → MayOrder x y → kind_number x ≤ kind_number y
order_kinds (items.Exit s) y h = omega arith
order_kinds (items.Effect t) (items.Exit s) h = absurd h
order_kinds (items.Effect t) (items.Effect u) h = omega arith
order_kinds (items.Effect t) (items.Enter s) h = omega arith
order_kinds (items.Effect t) (items.Opened r mode) h = omega arith
order_kinds (items.Effect t) (items.Pick c) h = omega arith
order_kinds (items.Enter s) (items.Exit q) h = absurd h
order_kinds (items.Enter s) (items.Effect t) h = absurd h
order_kinds (items.Enter s) (items.Enter q) h = absurd h
order_kinds (items.Enter s) (items.Opened r mode) h = omega arith
order_kinds (items.Enter s) (items.Pick c) h = omega arith
order_kinds (items.Opened r mode) y h = absurd h
order_kinds (items.Pick c) y h = absurd h

nested_kinds : (m : DraftMachine) (x y : Item) → IsNestedPair m x y → kind_number x ≤ kind_number y
nested_kinds m (items.Exit s) y h = omega arith
nested_kinds m (items.Effect t) y h = absurd h
nested_kinds m (items.Enter s) (items.Exit q) h = absurd h
nested_kinds m (items.Enter s) (items.Effect t) h = absurd h
nested_kinds m (items.Enter s) (items.Enter q) h = omega arith
nested_kinds m (items.Enter s) (items.Opened r mode) h = absurd h
nested_kinds m (items.Enter s) (items.Pick c) h = absurd h
nested_kinds m (items.Opened r mode) y h = absurd h
nested_kinds m (items.Pick c) y h = absurd h

pub ordered_by_some : {m : DraftMachine} → HasShape m → KeepsModelRules m → (ways : List Way) → AreWaysIn m ways → (x y : Item)
    → IsOrderedBySome m ways x y → MayOrder x y ⊎ IsSomeLong ways
ordered_by_some {m} shape rules ways are x y (way, inside, orders) =
    ⊎_elim (λ first. inl (may_order_of x y first)) (λ long. inr (way, inside, long))
    (ordered_or_several m way.legs way.fires x y (orders_is shape rules way.route.value way.legs (are way inside) way.fires x y orders))

pub sequence_kinds : {m : DraftMachine} → HasShape m → KeepsModelRules m → (ways : List Way) → AreWaysIn m ways → (x y : Item)
    → IsSequence m ways x y → (kind_number x ≤ kind_number y) ⊎ IsSomeLong ways
sequence_kinds {m} shape rules ways are x y h =
    ⊎_elim
    (λ nested. inl (nested_kinds m x y nested))
    (λ ordered. ⊎_elim (λ may. inl (order_kinds x y may)) (λ long. inr long) (ordered_by_some shape rules ways are x y ordered))
    h
