-- Calls that nothing holds up which they have not seen: what ways of one transition order before an entry or an effect has run.
use Rattle.std.proofs.Common.{◌≡◌, ◌⊎◌, ◌+◌, ◌<◌, ℕ, List, false, length, take, get_or, Contains, IsTrue}
use Rattle.std.proofs.Common.{arith, refl, sym, subst, ap, ⊎_elim, ◌∙◌}
use Rattle.std.proofs.lemmas.Bool.{cases_lt, false≢true}
use Rattle.std.proofs.lemmas.List.{get_or_default}
use Rattle.pssm_model.specs.declared.ids.VertexId.{VertexId}
use Rattle.pssm_model.specs.declared.ids.RegionId.{RegionId}
use Rattle.pssm_model.specs.declared.ids.TransId.{TransId}
use Rattle.pssm_model.specs.declared.elements.DraftMachine.{DraftMachine}
use Rattle.pssm_model.specs.declared.steps.Item.{Item}
use Rattle.pssm_model.specs.declared.steps.Item.TheVariants as items
use Rattle.pssm_model.specs.Shapes.{HasShape}
use Rattle.pssm_model.specs.WellFormed.{KeepsModelRules}
use Rattle.pssm_model.proofs.ElementLaws.{nothing_in_nil}
use Rattle.pssm_legs.specs.declared.legs.Leg.{Leg}
use Rattle.pssm_legs.specs.inner.Told.{ComesFirst, IsCalledAsTold, HasFurther}
use Rattle.pssm_legs.proofs.LoneLegs.{ordered_or_several}
use Rattle.pssm_legs.proofs.LaterPlaces.{of_more}
use Rattle.pssm_legs.proofs.Places.{at_contains}
use Rattle.pssm_legs.proofs.TheLegs.{calls_is, orders_is}
use Rattle.pssm_plan.specs.declared.ways.Way.{Way}
use Rattle.pssm_plan.specs.declared.roster.Call.{Call}
use Rattle.pssm_plan.specs.Ways.{IsWayIn}
use Rattle.pssm_plan.specs.inner.ByWays.{calls_by, orders_by}
use Rattle.pssm_plan.specs.inner.Marks.{IsPlaceOf, IsSettled, AreRunBefore}
use Rattle.pssm_plan.specs.inner.Near.{EndsNear}
use Rattle.pssm_plan.specs.inner.Direct.{IsDirect}
use Rattle.pssm_plan.specs.inner.Passes.{ArePassed}
use Rattle.pssm_plan.specs.inner.Sequence.{IsSequence, IsNestedPair, IsOrderedBySome}
use Rattle.pssm_plan.specs.inner.Clear.{IsDone, IsLone, IsExitIn, HasNoExitIn}
use Rattle.pssm_plan.proofs.DirectWays.{exit_lies}
use Rattle.pssm_plan.proofs.Growing.{lower_or_same}
use Rattle.pssm_plan.proofs.NearItems.{enters_near}
use Rattle.pssm_plan.proofs.NearWays.{way_calls_first, way_calls_second}
use Rattle.pssm_plan.proofs.Taken.{taken_cases}

-- an item at whose place a call stands that has run
pub done_ran : (calls : List Call) (item : Item) (place : ℕ) → IsPlaceOf calls item place → ((d : Call) → IsTrue (get_or calls place d).ran)
    → IsDone calls item
done_ran calls item place at ran k d lt is waits = waits (subst (λ (j : ℕ). IsTrue (get_or calls j d).ran) (sym (at k d lt is)) (ran d))

-- what holds of each element so far, and of this one, holds of one more
module _ {X : Type 0} (xs : List X) (i : ℕ) (x : X) (lt : i < length xs) (is : x ≡ get_or xs i x) where
  pub all_more : (Q : X → Type 0) → Q x → ((y : X) → Contains (take i xs) y → Q y) → (y : X) → Contains (take (i + 1) xs) y → Q y
  all_more Q here before y h = ⊎_elim (λ was. before y was) (λ now. subst Q (is ∙ now) here) (taken_cases xs i x y lt h)

-- a way of one leg, of one transition
module _ {m : DraftMachine} (shape : HasShape m) (rules : KeepsModelRules m) (way : Way) (is : IsWayIn m way) (lone : IsLone way) where
  not_several : (0 < length way.legs.more.items) ⊎ (0 < length way.legs.first.further.items) → ⊥
  not_several h =
      ⊎_elim
      (λ more. let e = ap (λ (l : List Leg). length l) lone.alone in absurd (omega (arith, more, e)))
      (λ further. let e = ap (λ (l : List TransId). length l) lone.single in absurd (omega (arith, further, e)))
      h

  comes_first : (x y : Item) → orders_by m way x y → ComesFirst x y
  comes_first x y h =
      ⊎_elim (λ first. first) (λ several. absurd (not_several several))
      (ordered_or_several m way.legs way.fires x y (orders_is shape rules way.route.value way.legs is way.fires x y h))

  none_further : (P : ℕ → Leg → Type 0) → HasFurther way.legs P → ⊥
  none_further P h =
      let inside = at_contains way.legs.more.items h.0 h.1 (of_more way.legs h.0 h.1 h.2) in
      nothing_in_nil h.1 (subst (λ (l : List Leg). Contains l h.1) lone.alone inside)

  -- the one effect that it calls is that of its transition
  effect_named : (t : TransId) → calls_by m way (items.Effect t) → way.legs.first.named ≡ t
  effect_named t h =
      ⊎_elim
      (λ here. ⊎_elim (λ named. named)
      (λ further. absurd (nothing_in_nil t (subst (λ (l : List TransId). Contains l t) lone.single further))) here)
      (λ more. absurd (none_further (λ i a. IsCalledAsTold m way.legs i a way.fires (items.Effect t)) more))
      (calls_is shape rules way.route.value way.legs is way.fires (items.Effect t) h)

  ends_near : (s : VertexId) → calls_by m way (items.Enter s) → EndsNear m way.legs.first s
  ends_near s h =
      ⊎_elim (λ first. first)
      (λ more. absurd (nothing_in_nil more.0 (subst (λ (l : List Leg). Contains l more.0) lone.alone more.1)))
      (enters_near way is s h)

  -- before an entry it orders its effect alone, and only where it ends near the State
  pub led_by : (calls : List Call) (s : VertexId) → (EndsNear m way.legs.first s → IsDone calls (items.Effect way.legs.first.named))
      → (x : Item) → orders_by m way x (items.Enter s) → IsDone calls x
  led_by calls s done (items.Effect t) h =
      let named = effect_named t (way_calls_first m way (items.Effect t) (items.Enter s) h) in
      let near = ends_near s (way_calls_second m way (items.Effect t) (items.Enter s) h) in
      subst (λ (u : TransId). IsDone calls (items.Effect u)) named (done near)
  led_by calls s done (items.Exit q) h = absurd (comes_first (items.Exit q) (items.Enter s) h)
  led_by calls s done (items.Enter q) h = absurd (comes_first (items.Enter q) (items.Enter s) h)
  led_by calls s done (items.Opened r mode) h = absurd (comes_first (items.Opened r mode) (items.Enter s) h)
  led_by calls s done (items.Pick c) h = absurd (comes_first (items.Pick c) (items.Enter s) h)

  -- before an effect it orders exits alone, which lie in the region in which it exits and ends
  pub exits_before : (t : TransId) (r : RegionId) → (way.legs.first.named ≡ t → IsDirect m way r) → (x : Item)
      → orders_by m way x (items.Effect t) → IsExitIn m r x
  exits_before t r direct (items.Exit s) h =
      let named = effect_named t (way_calls_second m way (items.Exit s) (items.Effect t) h) in
      (s, refl, exit_lies shape rules way is r (direct named) s (way_calls_first m way (items.Exit s) (items.Effect t) h))
  exits_before t r direct (items.Effect u) h = absurd (comes_first (items.Effect u) (items.Effect t) h)
  exits_before t r direct (items.Enter q) h = absurd (comes_first (items.Enter q) (items.Effect t) h)
  exits_before t r direct (items.Opened q mode) h = absurd (comes_first (items.Opened q mode) (items.Effect t) h)
  exits_before t r direct (items.Pick c) h = absurd (comes_first (items.Pick c) (items.Effect t) h)

-- where the entries of the States around have run, and what ways order before the entry, nothing holds it up
pub entry_passed : (m : DraftMachine) (ways : List Way) (calls : List Call) (s : VertexId) → ArePassed (IsNestedPair m) calls (items.Enter s) (length calls)
    → ((x : Item) → IsOrderedBySome m ways x (items.Enter s) → IsDone calls x)
    → ArePassed (IsSequence m ways) calls (items.Enter s) (length calls)
entry_passed m ways calls s around led k d lt inside up =
    ⊎_elim
    (λ nested. around k d lt inside (nested, up.1))
    (λ ordered. led (get_or calls k d).item ordered k d inside refl up.1)
    up.0

-- nothing comes before an effect by where States lie
pub effect_nested : (m : DraftMachine) (x : Item) (t : TransId) → IsNestedPair m x (items.Effect t) → ⊥
effect_nested m (items.Exit s) t h = h
effect_nested m (items.Effect u) t h = h
effect_nested m (items.Enter s) t h = h
effect_nested m (items.Opened r mode) t h = h
effect_nested m (items.Pick c) t h = h

-- where ways order exits in a region alone before an effect, and none of these is left, nothing holds it up
pub effect_passed : (m : DraftMachine) (ways : List Way) (calls : List Call) (t : TransId) (r : RegionId) (from : ℕ)
    → ((x : Item) → IsOrderedBySome m ways x (items.Effect t) → IsExitIn m r x) → HasNoExitIn m calls r from (length calls)
    → AreRunBefore calls from → ArePassed (IsSequence m ways) calls (items.Effect t) (length calls)
effect_passed m ways calls t r from within none run k d lt inside up =
    ⊎_elim
    (λ nested. effect_nested m (get_or calls k d).item t nested)
    (λ ordered. ⊎_elim
    (λ ran. up.1 (run k d ran inside))
    (λ le. none k d le inside inside (within (get_or calls k d).item ordered) up.1)
    (cases_lt k from))
    up.0

-- one more call is no such exit that is left
pub no_exit_more : (m : DraftMachine) (calls : List Call) (r : RegionId) (from place : ℕ) (d : Call) → place < length calls
    → (IsExitIn m r (get_or calls place d).item → (IsTrue (get_or calls place d).ran → ⊥) → ⊥) → HasNoExitIn m calls r from place
    → HasNoExitIn m calls r from (place + 1)
no_exit_more m calls r from place d there not none k e le low inside exit waits =
    ⊎_elim
    (λ less. none k e le less inside exit waits)
    (λ same.
    (let here : get_or calls k e ≡ get_or calls place d = ap (λ (n : ℕ). get_or calls n e) same ∙ get_or_default calls place e d there in
    not (subst (λ (c : Call). IsExitIn m r c.item) here exit) (λ ran. waits (subst (λ (c : Call). IsTrue c.ran) (sym here) ran))))
    (lower_or_same k place low)

-- a call that none holds up waits for none
pub clear_settled : (Comes : Item → Item → Type 0) (calls : List Call) (place : ℕ) (call : Call) → ArePassed Comes calls call.item (length calls)
    → IsSettled Comes calls place call (record { item = call.item; ran = call.ran; blocked = false; seen = length calls })
clear_settled Comes calls place call clear = record {
  item_is = refl;
  ran = refl;
  exact = record {
    passed = λ k d met inside up. clear k d inside inside up;
    waits = λ blocked. absurd (false≢true blocked);
    through = λ free. refl;
  };
}
