-- Steps that began in configurations that agree call the same items, in the same order.
use Rattle.std.proofs.Common.{◌↔◌, List, inl, inr}
use Rattle.pssm_model.specs.declared.ids.VertexId.{VertexId}
use Rattle.pssm_model.specs.declared.ids.TransId.{TransId}
use Rattle.pssm_model.specs.declared.elements.DraftMachine.{DraftMachine}
use Rattle.pssm_model.specs.declared.steps.Route.{Route}
use Rattle.pssm_model.specs.declared.steps.How.{How}
use Rattle.pssm_model.specs.declared.steps.Item.{Item}
use Rattle.pssm_model.specs.declared.steps.Item.TheVariants as items
use Rattle.pssm_model.specs.Configuration.{Configuration}
use Rattle.pssm_model.specs.Changes.{Agree}
use Rattle.pssm_model.specs.Legs.{LegExits}
use Rattle.pssm_model.specs.Course.{Head, Leg}
use Rattle.pssm_model.specs.Items.{CanExit, LegCalls, IsCalledInLeg, IsItemOfLeg, Called, Before, IsWaiting, IsCleared, HasRunOut}
use Rattle.pssm_model.specs.Items.Called.{start, run, ends, opens, restored, entered}
use Rattle.pssm_model.specs.Items.Before.{inner_exit, outer_enter, exit_effect, path, effect_enter, effect_end, enter_end, later}
use Rattle.pssm_model.specs.Order.{course_by, IsReady}
use Rattle.pssm_object.proofs.Agreeing.{Agree-symm}

-- a leg exits the same where the same is active
leg_exits_same : (m : DraftMachine) (A B : VertexId → Type 0) → ((s : VertexId) → A s ↔ B s) → (route : Route) (t : TransId) (s : VertexId)
    → LegExits m A route t s → LegExits m B route t s
leg_exits_same m A B same route t s h = (((same s).0 h.0.0, h.0.1), λ u later would. h.1 u later ((same s).1 would.0, would.1))

leg_calls_same : (m : DraftMachine) (A B : VertexId → Type 0) → ((s : VertexId) → A s ↔ B s) → (route : Route) (t : TransId) (item : Item)
    → LegCalls m A route t item → LegCalls m B route t item
leg_calls_same m A B same route t (items.Exit s) h = leg_exits_same m A B same route t s h
leg_calls_same m A B same route t (items.Effect u) h = h
leg_calls_same m A B same route t (items.Enter s) h = h
leg_calls_same m A B same route t (items.Opened r mode) h = h
leg_calls_same m A B same route t (items.Pick c) h = h

module _ (m : DraftMachine) (head : Head) (ran : List (Item × How)) where
  module _ (a b : Configuration) (same : Agree a b) where
    can_exit_same : (route : Route) (s : VertexId) → CanExit (course_by head a ran) route s ↔ CanExit (course_by head b ran) route s
    can_exit_same route s = (λ h. (h.0, (same.active s).0 h.1), λ h. (h.0, (same.active s).1 h.1))

    in_leg_same : (leg : Leg) (item : Item) → IsCalledInLeg m (course_by head a ran) leg item → IsCalledInLeg m (course_by head b ran) leg item
    in_leg_same leg item h =
        leg_calls_same m (CanExit (course_by head a ran) leg.route) (CanExit (course_by head b ran) leg.route) (can_exit_same leg.route) leg.route leg.named_by
        item h

    of_leg_same : (leg : Leg) (item : Item) → IsItemOfLeg m (course_by head a ran) leg item → IsItemOfLeg m (course_by head b ran) leg item
    of_leg_same leg item (inl h) = inl (in_leg_same leg item h)
    of_leg_same leg item (inr (inl h)) = inr (inl h)
    of_leg_same leg item (inr (inr h)) = inr (inr h)

    pub called_same : (item : Item) → Called m (course_by head a ran) item → Called m (course_by head b ran) item
    called_same item (start h) = start h
    called_same item (run leg is h) = run leg is (in_leg_same leg item h)
    called_same item (ends leg is h) = ends leg is h
    called_same item (opens leg is h) = opens leg is h
    called_same item (restored mode s h e) = restored mode s h e
    called_same item (entered s h k) = entered s h k

    pub before_same : (x y : Item) → Before m (course_by head a ran) x y → Before m (course_by head b ran) x y
    before_same _ _ (inner_exit h) = inner_exit h
    before_same _ _ (outer_enter h) = outer_enter h
    before_same x y (exit_effect leg is exit effect first second) = exit_effect leg is exit effect (in_leg_same leg x first) (in_leg_same leg y second)
    before_same _ _ (path leg is on h) = path leg is on h
    before_same x y (effect_enter leg is effect enter first second) = effect_enter leg is effect enter (in_leg_same leg x first) (in_leg_same leg y second)
    before_same x y (effect_end leg is effect first last) = effect_end leg is effect (in_leg_same leg x first) last
    before_same x y (enter_end leg is enter first last) = enter_end leg is enter (in_leg_same leg x first) last
    before_same x y (later leg next is further first second) =
        later leg next is further (in_leg_same leg x first) (of_leg_same (record leg { named_by = next }) y second)

    pub waiting_same : (item : Item) → IsWaiting m (course_by head a ran) item → IsWaiting m (course_by head b ran) item
    waiting_same item h = record { called = called_same item h.called; not_run = h.not_run }

  module _ (a b : Configuration) (same : Agree a b) where
    pub cleared_same : (item : Item) → IsCleared m (course_by head a ran) item → IsCleared m (course_by head b ran) item
    cleared_same item h x called before =
        let back = Agree-symm a b same in h x (called_same b a back x called) (before_same b a back x item before)

    pub run_out_same : HasRunOut m (course_by head a ran) → HasRunOut m (course_by head b ran)
    run_out_same h item called = h item (called_same b a (Agree-symm a b same) item called)

    pub ready_same : (item : Item) → IsReady m (course_by head a ran) item → IsReady m (course_by head b ran) item
    ready_same item h = record { waiting = waiting_same a b same item h.waiting; cleared = cleared_same item h.cleared }
