-- The ways that call an item say all that there is to say of what comes before it.
use Rattle.std.proofs.Common.{◌↔◌, Bool, List, Contains, sym, subst, inl, inr, ⊎_elim, ℕ}
use Rattle.pssm_model.specs.declared.ids.TransId.{TransId}
use Rattle.pssm_model.specs.declared.elements.DraftMachine.{DraftMachine}
use Rattle.pssm_model.specs.declared.steps.Route.{Route}
use Rattle.pssm_model.specs.declared.steps.Item.{Item}
use Rattle.pssm_model.specs.Legs.{On, LaterLeg}
use Rattle.pssm_model.specs.Legs.SameLeg.{itself}
use Rattle.pssm_model.specs.Legs.LaterLeg.{next as next_leg, after as after_leg}
use Rattle.pssm_model.specs.Items.{PathBefore}
use Rattle.pssm_model.specs.Items.PathBefore.{next as next_step, after as after_step}
use Rattle.pssm_model_laws.proofs.LegShapes.{ends_on}
use Rattle.pssm_legs.specs.Calls.{IsOrderedInLeg, IsCalledBy}
use Rattle.pssm_legs.specs.Calls.IsOrderedInLeg.{exit_effect, path, effect_enter, effect_end, enter_end, later}
use Rattle.pssm_plan.specs.declared.ways.Way.{Way}
use Rattle.pssm_plan.specs.declared.roster.Call.{Call}
use Rattle.pssm_plan.specs.Ways.{AreWaysIn}
use Rattle.pssm_plan.specs.inner.ByWays.{calls_by, orders_by}
use Rattle.pssm_plan.specs.inner.Marks.{HasSeen, IsSettled}
use Rattle.pssm_plan.specs.inner.Sequence.{IsSequence}

module _ (m : DraftMachine) (p : Route) where
  path_ends_on : (t u : TransId) → PathBefore m p t u → On p u
  path_ends_on t u (next_step first second v k e l) = second
  path_ends_on t u (after_step {u = w} first second) = path_ends_on w u second

  later_is_on : (t u : TransId) → LaterLeg m p t u → On p u
  later_is_on t u (next_leg h) = ends_on m p h.1 u h.4
  later_is_on t u (after_leg {u = w} h rest) = later_is_on w u rest

  -- of two items that a leg orders, the route calls the second
  leg_calls_second : (fires : Bool) (x y : Item) (t : TransId) → On p t → IsOrderedInLeg m fires p t x y → IsCalledBy m fires p y
  leg_calls_second fires x y t is (exit_effect first second a b) = (t, is, inl b)
  leg_calls_second fires x y t is (path {u = u} {w = w} same before) =
      let on = path_ends_on u w before in (w, on, inl (itself on))
  leg_calls_second fires x y t is (effect_enter first second a b) = (t, is, inl b)
  leg_calls_second fires x y t is (effect_end first a b) = (t, is, inr b)
  leg_calls_second fires x y t is (enter_end first a b) = (t, is, inr (inl b))
  leg_calls_second fires x y t is (later next leads a b) = (next, later_is_on t next leads, b)

  path_begins_on : (t u : TransId) → PathBefore m p t u → On p t
  path_begins_on t u (next_step first second v k e l) = first
  path_begins_on t u (after_step {u = w} first second) = path_begins_on t w first

  -- and the first
  leg_calls_first : (fires : Bool) (x y : Item) (t : TransId) → On p t → IsOrderedInLeg m fires p t x y → IsCalledBy m fires p x
  leg_calls_first fires x y t is (exit_effect first second a b) = (t, is, inl a)
  leg_calls_first fires x y t is (path {u = u} {w = w} same before) =
      let on = path_begins_on u w before in (u, on, inl (itself on))
  leg_calls_first fires x y t is (effect_enter first second a b) = (t, is, inl a)
  leg_calls_first fires x y t is (effect_end first a b) = (t, is, inl a)
  leg_calls_first fires x y t is (enter_end first a b) = (t, is, inl a)
  leg_calls_first fires x y t is (later next leads a b) = (t, is, inl a)

-- of two items that a way orders, it calls the first
pub way_calls_first : (m : DraftMachine) (way : Way) (x y : Item) → orders_by m way x y → calls_by m way x
way_calls_first m way x y h = leg_calls_first m way.route.value way.fires x y h.0 h.1 h.2

-- of two items that a way orders, it calls the second
pub way_calls_second : (m : DraftMachine) (way : Way) (x y : Item) → orders_by m way x y → calls_by m way y
way_calls_second m way x y h = leg_calls_second m way.route.value way.fires x y h.0 h.1 h.2

-- what has been seen, and what is exact, in one order, is so in the same order in other words
module _ (A B : Item → Item → Type 0) (calls : List Call) where
  pub seen_same : (place : ℕ) (call : Call) → ((x : Item) → A x call.item ↔ B x call.item) → HasSeen A calls place call → HasSeen B calls place call
  seen_same place call same s = record {
    within = s.within;
    passed = λ k d met inside up. s.passed k d met inside ((same _).1 up.0, up.1);
    there = λ blocked d inside. (same _).0 (s.there blocked d inside);
  }

  pub settled_same : (place : ℕ) (call new : Call) → ((x : Item) → A x new.item ↔ B x new.item) → IsSettled A calls place call new
      → IsSettled B calls place call new
  settled_same place call new same s = record {
    item_is = s.item_is;
    ran = s.ran;
    exact = record {
      passed = λ k d lt inside up. s.exact.passed k d lt inside ((same _).1 up.0, up.1);
      waits = λ blocked. (let w = s.exact.waits blocked in (w.0, λ d. ((same _).0 (w.1 d).0, (w.1 d).1)));
      through = s.exact.through;
    };
  }

-- all ways that call the item are near, and no others
module _ (m : DraftMachine) (ways near : List Way) (some : (way : Way) → Contains near way → Contains ways way) where
  pub near_ways : AreWaysIn m ways → AreWaysIn m near
  near_ways legs way h = legs way (some way h)

  module _ (y : Item) (all : (way : Way) → Contains ways way → calls_by m way y → Contains near way) where
    pub near_sequence : (x : Item) → IsSequence m ways x y ↔ IsSequence m near x y
    near_sequence x = (
      λ h. ⊎_elim (λ nested. inl nested) (λ by. inr (by.0, all by.0 by.1 (way_calls_second m by.0 x y by.2), by.2)) h,
      λ h. ⊎_elim (λ nested. inl nested) (λ by. inr (by.0, some by.0 by.1, by.2)) h,
    )

pub near_seen : (m : DraftMachine) (ways near : List Way) (calls : List Call) (place : ℕ) (call : Call)
    → ((way : Way) → Contains near way → Contains ways way) → ((way : Way) → Contains ways way → calls_by m way call.item → Contains near way)
    → HasSeen (IsSequence m ways) calls place call → HasSeen (IsSequence m near) calls place call
near_seen m ways near calls place call some all s =
    seen_same (IsSequence m ways) (IsSequence m near) calls place call (near_sequence m ways near some call.item all) s

pub near_settled : (m : DraftMachine) (ways near : List Way) (calls : List Call) (place : ℕ) (call new : Call)
    → ((way : Way) → Contains near way → Contains ways way) → ((way : Way) → Contains ways way → calls_by m way call.item → Contains near way)
    → IsSettled (IsSequence m near) calls place call new → IsSettled (IsSequence m ways) calls place call new
near_settled m ways near calls place call new some all s =
    let same : (x : Item) → IsSequence m near x new.item ↔ IsSequence m ways x new.item =
    λ x. subst (λ (i : Item). IsSequence m near x i ↔ IsSequence m ways x i) (sym s.item_is)
    (let is = near_sequence m ways near some call.item all x in (is.1, is.0)) in
    settled_same (IsSequence m near) (IsSequence m ways) calls place call new same s
