-- What a step calls and in which order, as its ways say it.
use Rattle.std.proofs.Common.{◌≡◌, ◌⊎◌, ◌↔◌, ◌<◌, List, Bool, IsTrue, Contains, length, Some, refl, sym, ap, subst, inl, inr, ⊎_elim}
use Rattle.std.proofs.lemmas.Option.{slice_get_within}
use Rattle.std.proofs.lemmas.List.Elements.{All-contains}
use Rattle.pssm_model.specs.declared.ids.VertexId.{VertexId}
use Rattle.pssm_model.specs.declared.ids.TransId.{TransId}
use Rattle.pssm_model.specs.declared.elements.DraftMachine.{DraftMachine}
use Rattle.pssm_model.specs.declared.elements.Vertex.{Vertex}
use Rattle.pssm_model.specs.declared.elements.Transition.{Transition}
use Rattle.pssm_model.specs.declared.elements.VertexKind.{VertexKind}
use Rattle.pssm_model.specs.declared.elements.VertexKind.TheVariants as kinds
use Rattle.pssm_model.specs.declared.elements.Owner.{Owner}
use Rattle.pssm_model.specs.declared.elements.Owner.TheVariants.{Top, Region, State}
use Rattle.pssm_model.specs.declared.steps.Route.{Route}
use Rattle.pssm_model.specs.declared.steps.Mode.{Mode}
use Rattle.pssm_model.specs.declared.steps.Mode.TheVariants.{Plain, Shallow, Deep}
use Rattle.pssm_model.specs.declared.steps.How.{How}
use Rattle.pssm_model.specs.declared.steps.How.TheVariants.{Restore}
use Rattle.pssm_model.specs.declared.steps.Item.{Item}
use Rattle.pssm_model.specs.declared.steps.Item.TheVariants as items
use Rattle.pssm_model.specs.Shapes.{HasShape, OwnsVertex}
use Rattle.pssm_model.specs.Forest.{vertex_at, transition_at, HasKind, owner_of}
use Rattle.pssm_model.specs.Legs.{transitions_of, On, Enters, LegExits, LegEnters, IsLastVertex}
use Rattle.pssm_model.specs.Configuration.{Configuration}
use Rattle.pssm_model.specs.Course.{Head, Course, Leg, IsLeg, FiresBy, HasGoneBy, HasRun, HasRestored, RemembersSoFar}
use Rattle.pssm_model.specs.Course.Head.{Starts, Fires}
use Rattle.pssm_model.specs.Items.{CanExit, LegCalls, LegEnds, LegOpens, restored_mode, StartOpens, EnterOpens, IsExit, Called, Before}
use Rattle.pssm_model.specs.Items.{IsCalledInLeg as IsCalledByLeg, IsItemOfLeg as IsItemByLeg}
use Rattle.pssm_model.specs.Items.Called.{start, run, ends, opens, restored, entered}
use Rattle.pssm_model.specs.Items.Before.{inner_exit, outer_enter, exit_effect, path, effect_enter, effect_end, enter_end, later}
use Rattle.pssm_model.specs.Routes.{Truth}
use Rattle.pssm_model.specs.RouteWords.{IsStepRoute}
use Rattle.pssm_model.specs.Ways.{Memory, IsWay}
use Rattle.pssm_model.specs.Order.{HasGone, course_by, IsWayNow}
use Rattle.pssm_model.specs.Order.HasGone.{begun as gone_begun, more as gone_more}
use Rattle.pssm_legs.specs.Calls.{IsItemIn, IsCalledInLeg, IsItemOfLeg, IsCalledBy, IsOpenedFor, IsOrderedInLeg, IsOrderedBy}
use Rattle.pssm_legs.specs.Calls.IsOrderedInLeg.{exit_effect as leg_exit_effect, path as leg_path, effect_enter as leg_effect_enter}
use Rattle.pssm_legs.specs.Calls.IsOrderedInLeg.{effect_end as leg_effect_end, enter_end as leg_enter_end, later as leg_later}
use Rattle.pssm_plan.specs.declared.ways.Way.{Way}
use Rattle.pssm_plan.specs.declared.progress.Restored.{Restored}
use Rattle.pssm_plan.specs.Ways.{AreWaysOf}
use Rattle.pssm_plan.specs.inner.Sequence.{IsNestedPair, IsSequence, IsOpenedBySome, IsOrderedBySome}
use Rattle.pssm_plan.specs.inner.Calling.{MayRun, IsOfWays, IsDefaultOf, IsRestoredOf, IsOpenedByEntry}
use Rattle.pssm_model.proofs.ElementLaws.{mapped_some, nothing_in_nil}
use Rattle.pssm_model.proofs.OwnerChains.{owned_is_place}
use Rattle.pssm_model_laws.proofs.LegRoots.{leg_ends}
use Rattle.pssm_model_laws.proofs.EndsApart.{step_is_route}
use Rattle.pssm_plan.proofs.Depths.{scope_there}
use Rattle.pssm_plan.proofs.MoreRan.{restored_more}

module _ (m : DraftMachine) (course : Course) where
  -- the State was restored, and this is its entry
  abbrev pub IsRestoredEntry : Item → Type 0
  IsRestoredEntry x = (mode : Mode) × (s : VertexId) × HasRestored course mode s × (x ≡ items.Enter s)

  -- the entry of a State has run, and opens this
  abbrev pub IsOpenedAfter : Item → Type 0
  IsOpenedAfter x = (s : VertexId) × HasRun course (items.Enter s) × EnterOpens m course s x

  -- the items that such a step calls
  abbrev pub IsCalledSo : List Way → Item → Type 0
  IsCalledSo ways x = StartOpens m course.head x ⊎ IsOfWays m course.at_head ways x ⊎ IsRestoredEntry x ⊎ IsOpenedAfter x

-- an item is an exit or it is none
exit_or_none : (x : Item) → IsExit x ⊎ (IsExit x → ⊥)
exit_or_none (items.Exit s) = inl tt
exit_or_none (items.Effect t) = inr (λ h. h)
exit_or_none (items.Enter s) = inr (λ h. h)
exit_or_none (items.Opened r mode) = inr (λ h. h)
exit_or_none (items.Pick c) = inr (λ h. h)

module _ (m : DraftMachine) (course : Course) where
  -- what a leg exits does not change with what may be exited otherwise
  exits_alike : (A B : VertexId → Type 0) (p : Route) (t : TransId) (s : VertexId) → B s → LegExits m A p t s → LegExits m B p t s
  exits_alike A B p t s may h = ((may, h.0.1), λ u earlier would. h.1 u earlier (h.0.0, would.1))

  -- what a leg calls, where its route may exit
  calls_by_way : (p : Route) (t : TransId) (x : Item) (fires : Bool) → (IsExit x → IsTrue fires) → LegCalls m (CanExit course p) p t x
      → IsCalledInLeg m fires p t x
  calls_by_way p t (items.Exit s) fires may h = exits_alike (CanExit course p) (λ q. IsTrue fires) p t s (may tt) h
  calls_by_way p t (items.Effect u) fires may h = h
  calls_by_way p t (items.Enter s) fires may h = h
  calls_by_way p t (items.Opened r mode) fires may h = absurd h
  calls_by_way p t (items.Pick c) fires may h = absurd h

  calls_of_way : (p : Route) (t : TransId) (x : Item) (fires : Bool) → (IsTrue fires → FiresBy course.head p) → MayRun course.at_head x
      → IsCalledInLeg m fires p t x → LegCalls m (CanExit course p) p t x
  calls_of_way p t (items.Exit s) fires head active h = exits_alike (λ q. IsTrue fires) (CanExit course p) p t s (head h.0.0, active) h
  calls_of_way p t (items.Effect u) fires head active h = h
  calls_of_way p t (items.Enter s) fires head active h = h
  calls_of_way p t (items.Opened r mode) fires head active h = absurd h
  calls_of_way p t (items.Pick c) fires head active h = absurd h

  -- the route of an exit fires
  exit_fires : (leg : Leg) (x : Item) → IsCalledByLeg m course leg x → IsExit x → FiresBy course.head leg.route
  exit_fires leg (items.Exit s) h is = h.0.0.0
  exit_fires leg (items.Effect t) h is = absurd is
  exit_fires leg (items.Enter s) h is = absurd is
  exit_fires leg (items.Opened r mode) h is = absurd is
  exit_fires leg (items.Pick c) h is = absurd is

  end_is_no_exit : (p : Route) (t : TransId) (x : Item) → (LegEnds m p t x ⊎ LegOpens m p t x) → IsExit x → ⊥
  end_is_no_exit p t (items.Exit s) h is = ⊎_elim (λ end. end) (λ opening. opening) h
  end_is_no_exit p t (items.Effect u) h is = is
  end_is_no_exit p t (items.Enter s) h is = is
  end_is_no_exit p t (items.Opened r mode) h is = is
  end_is_no_exit p t (items.Pick c) h is = is

  item_exit_fires : (leg : Leg) (x : Item) → IsItemByLeg m course leg x → IsExit x → FiresBy course.head leg.route
  item_exit_fires leg x h is =
      ⊎_elim (λ calls. exit_fires leg x calls is) (λ end. absurd (end_is_no_exit leg.route leg.named_by x end is)) h

  -- what is exited was active at the head
  start_exits_nothing : (head : Head) (s : VertexId) → StartOpens m head (items.Exit s) → ⊥
  start_exits_nothing Starts s h = h
  start_exits_nothing (Fires routes) s h = h

  exit_active : (s : VertexId) → Called m course (items.Exit s) → course.at_head.Active s
  exit_active s (start h) = absurd (start_exits_nothing course.head s h)
  exit_active s (run leg is h) = h.0.0.1
  exit_active s (ends leg is h) = absurd h
  exit_active s (opens leg is h) = absurd h
  exit_active s (restored mode q h e) = absurd (cc)
  exit_active s (entered q ran h) = absurd h

  may_run : (x : Item) → Called m course x → MayRun course.at_head x
  may_run (items.Exit s) h = exit_active s h
  may_run (items.Effect t) h = tt
  may_run (items.Enter s) h = tt
  may_run (items.Opened r mode) h = tt
  may_run (items.Pick c) h = tt

module _ {m : DraftMachine} (course : Course) (ways : List Way) (states : List Restored) (are : AreWaysOf m course ways states) where
  -- a way of the route, which fires where one of the items is an exit
  record IsWayFor (p : Route) (x y : Item) : Type 0 where
    way : Way
    inside : Contains ways way
    route : way.route.value ≡ p
    first : IsExit x → IsTrue way.fires
    second : IsExit y → IsTrue way.fires

  way_fired : (p : Route) (x y : Item) → FiresBy course.head p → IsWayFor p x y
  way_fired p x y fires =
      let w = (are.fired p).1 fires in
      record { way = w.0; inside = w.1; route = w.2; first = λ is. w.3; second = λ is. w.3 }

  way_taken : (p : Route) (x y : Item) → (IsExit x → ⊥) → (IsExit y → ⊥) → (FiresBy course.head p ⊎ HasGoneBy course p) → IsWayFor p x y
  way_taken p x y no_exit neither goes =
      let w = (are.taken p).1 goes in
      record { way = w.0; inside = w.1; route = w.2; first = λ is. absurd (no_exit is); second = λ is. absurd (neither is) }

  way_for : (p : Route) (x y : Item) → (IsExit x → FiresBy course.head p) → (IsExit y → FiresBy course.head p)
      → (FiresBy course.head p ⊎ HasGoneBy course p) → IsWayFor p x y
  way_for p x y first second goes =
      ⊎_elim
      (λ is. way_fired p x y (first is))
      (λ none. ⊎_elim (λ is. way_fired p x y (second is)) (λ neither. way_taken p x y none neither goes) (exit_or_none y))
      (exit_or_none x)

  -- a route by which the step goes
  goes_by : (way : Way) → Contains ways way → FiresBy course.head way.route.value ⊎ HasGoneBy course way.route.value
  goes_by way inside = (are.taken way.route.value).0 (way, inside, refl)

  fires_by : (way : Way) → Contains ways way → IsTrue way.fires → FiresBy course.head way.route.value
  fires_by way inside fires = (are.fired way.route.value).0 (way, inside, refl, fires)

  abbrev leg_of : Way → TransId → Leg
  leg_of way t = record { route = way.route.value; named_by = t }

  -- what is called
  item_is : (leg : Leg) → IsLeg course leg → (x : Item) → Called m course x → IsItemByLeg m course leg x → IsOfWays m course.at_head ways x
  item_is leg is x called h =
      let w = way_for leg.route x x (item_exit_fires m course leg x h) (item_exit_fires m course leg x h) is.0 in
      let item : IsItemOfLeg m w.way.fires leg.route leg.named_by x =
      ⊎_elim (λ calls. inl (calls_by_way m course leg.route leg.named_by x w.way.fires w.first calls)) (λ end. inr end) h in
      let by : IsCalledBy m w.way.fires leg.route x = (leg.named_by, is.1, item) in
      (w.way, w.inside, may_run m course x called, subst (λ p. IsCalledBy m w.way.fires p x) (sym w.route) by)

  pub called_is : (x : Item) → Called m course x → IsCalledSo m course ways x
  called_is x (start h) = inl h
  called_is x (run leg is h) = inr (inl (item_is leg is x (run leg is h) (inl h)))
  called_is x (ends leg is h) = inr (inl (item_is leg is x (ends leg is h) (inr (inl h))))
  called_is x (opens leg is h) = inr (inl (item_is leg is x (opens leg is h) (inr (inr h))))
  called_is x (restored mode s h e) = inr (inr (inl (mode, s, h, e)))
  called_is x (entered s ran h) = inr (inr (inr (s, ran, h)))

  item_of : (way : Way) → Contains ways way → (t : TransId) → On way.route.value t → (x : Item) → MayRun course.at_head x
      → IsItemOfLeg m way.fires way.route.value t x → Called m course x
  item_of way inside t on x may h =
      let is : IsLeg course (leg_of way t) = (goes_by way inside, on) in
      ⊎_elim
      (λ calls. run (leg_of way t) is (calls_of_way m course way.route.value t x way.fires (fires_by way inside) may calls))
      (⊎_elim (λ end. ends (leg_of way t) is end) (λ opening. opens (leg_of way t) is opening))
      h

  pub called_of : (x : Item) → IsCalledSo m course ways x → Called m course x
  called_of x h =
      ⊎_elim
      (λ at_start. start at_start)
      (⊎_elim
      (λ of_ways. (let by = of_ways.3 in item_of of_ways.0 of_ways.1 by.0 by.1 x of_ways.2 by.2))
      (⊎_elim
      (λ entry. restored entry.0 entry.1 entry.2 entry.3)
      (λ after. entered after.0 after.1 after.2)))
      h

  -- what the entry of a State opens
  entry_is : (s : VertexId) (x : Item) → EnterOpens m course s x → IsOpenedByEntry m ways states s x
  entry_is s (items.Opened r mode) h =
      ⊎_elim
      (λ entering.
      let leg = entering.0 in
      let is = entering.1 in
      let w = (are.taken leg.route).1 is.0 in
      let by : IsOpenedFor m leg.route s r = (leg.named_by, is.1, entering.2, entering.4) in
      let some : IsOpenedBySome m ways s r = (w.0, w.1, subst (λ p. IsOpenedFor m p s r) (sym w.2) by) in
      inl (r, ap (λ k. items.Opened r k) entering.3, h.0, some))
      (λ restoring. inr (restoring.0, (are.restored restoring.0 s).1 restoring.1, (r, ap (λ k. items.Opened r k) restoring.2, h.0)))
      h.1
  entry_is s (items.Exit q) h = absurd h
  entry_is s (items.Effect t) h = absurd h
  entry_is s (items.Enter q) h = absurd h
  entry_is s (items.Pick c) h = absurd h

  default_of : (s : VertexId) (x : Item) → IsDefaultOf m ways s x → EnterOpens m course s x
  default_of s x h =
      let r = h.0 in
      let some = h.3 in
      let way = some.0 in
      let by = some.2 in
      let opening : EnterOpens m course s (items.Opened r Plain) =
      (h.2, inl (leg_of way by.0, (goes_by way some.1, by.1), by.2, refl, by.3)) in
      subst (λ y. EnterOpens m course s y) (sym h.1) opening

  restored_of : (s : VertexId) (x : Item) → IsRestoredOf m states s x → EnterOpens m course s x
  restored_of s x h =
      let opened = h.2 in
      let opening : EnterOpens m course s (items.Opened opened.0 (restored_mode h.0)) =
      (opened.2, inr (h.0, (are.restored h.0 s).0 h.1, refl)) in
      subst (λ y. EnterOpens m course s y) (sym opened.1) opening

  pub entry_opens : (s : VertexId) (x : Item) → EnterOpens m course s x ↔ IsOpenedByEntry m ways states s x
  entry_opens s x = (entry_is s x, λ h. ⊎_elim (default_of s x) (restored_of s x) h)

  -- what comes before what
  by_way : {p : Route} {x y : Item} (w : IsWayFor p x y) (t : TransId) → On p t → IsOrderedInLeg m w.way.fires p t x y → IsSequence m ways x y
  by_way {p = p} {x = x} {y = y} w t on h =
      let by : IsOrderedBy m w.way.fires p x y = (t, on, h) in
      let some : IsOrderedBySome m ways x y = (w.way, w.inside, subst (λ q. IsOrderedBy m w.way.fires q x y) (sym w.route) by) in
      inr some

  in_leg : (leg : Leg) (x y : Item) → IsLeg course leg → IsCalledByLeg m course leg x → (IsExit y → FiresBy course.head leg.route)
      → IsWayFor leg.route x y
  in_leg leg x y is h second = way_for leg.route x y (exit_fires m course leg x h) second is.0

  before_is : (x y : Item) → Before m course x y → IsSequence m ways x y
  before_is _ _ (inner_exit lies) = inl lies
  before_is _ _ (outer_enter lies) = inl lies
  before_is _ _ (exit_effect {x = x} {y = y} leg is a c h k) =
      let w = in_leg leg x y is h (exit_fires m course leg y k) in
      by_way w leg.named_by is.1 (leg_exit_effect a c
      (calls_by_way m course leg.route leg.named_by x w.way.fires w.first h)
      (calls_by_way m course leg.route leg.named_by y w.way.fires w.second k))
  before_is _ _ (path {t = t} {u = u} leg is same h) =
      let w = way_taken leg.route (items.Effect t) (items.Effect u) (λ e. e) (λ e. e) is.0 in
      by_way w leg.named_by is.1 (leg_path same h)
  before_is _ _ (effect_enter {x = x} {y = y} leg is a c h k) =
      let w = in_leg leg x y is h (exit_fires m course leg y k) in
      by_way w leg.named_by is.1 (leg_effect_enter a c
      (calls_by_way m course leg.route leg.named_by x w.way.fires w.first h)
      (calls_by_way m course leg.route leg.named_by y w.way.fires w.second k))
  before_is _ _ (effect_end {x = x} {y = y} leg is a h k) =
      let w = in_leg leg x y is h (λ e. absurd (end_is_no_exit m course leg.route leg.named_by y k e)) in
      by_way w leg.named_by is.1 (leg_effect_end a (calls_by_way m course leg.route leg.named_by x w.way.fires w.first h) k)
  before_is _ _ (enter_end {x = x} {y = y} leg is a h k) =
      let w = in_leg leg x y is h (λ e. absurd (end_is_no_exit m course leg.route leg.named_by y (inl k) e)) in
      by_way w leg.named_by is.1 (leg_enter_end a (calls_by_way m course leg.route leg.named_by x w.way.fires w.first h) k)
  before_is _ _ (later {x = x} {y = y} leg next is late h k) =
      let w = in_leg leg x y is h (item_exit_fires m course (record leg { named_by = next }) y k) in
      let item : IsItemOfLeg m w.way.fires leg.route next y =
      ⊎_elim (λ calls. inl (calls_by_way m course leg.route next y w.way.fires w.second calls)) (λ end. inr end) k in
      by_way w leg.named_by is.1 (leg_later next late (calls_by_way m course leg.route leg.named_by x w.way.fires w.first h) item)

  nested_before : (x y : Item) → IsNestedPair m x y → Before m course x y
  nested_before (items.Exit s) (items.Exit q) h = inner_exit h
  nested_before (items.Exit s) (items.Effect t) h = absurd h
  nested_before (items.Exit s) (items.Enter q) h = absurd h
  nested_before (items.Exit s) (items.Opened r mode) h = absurd h
  nested_before (items.Exit s) (items.Pick c) h = absurd h
  nested_before (items.Enter s) (items.Enter q) h = outer_enter h
  nested_before (items.Enter s) (items.Exit q) h = absurd h
  nested_before (items.Enter s) (items.Effect t) h = absurd h
  nested_before (items.Enter s) (items.Opened r mode) h = absurd h
  nested_before (items.Enter s) (items.Pick c) h = absurd h
  nested_before (items.Effect t) y h = absurd h
  nested_before (items.Opened r mode) y h = absurd h
  nested_before (items.Pick c) y h = absurd h

  module _ (way : Way) (inside : Contains ways way) where
    calls_then : (t : TransId) (x : Item) → Called m course x → IsCalledInLeg m way.fires way.route.value t x → IsCalledByLeg m course (leg_of way t) x
    calls_then t x called h = calls_of_way m course way.route.value t x way.fires (fires_by way inside) (may_run m course x called) h

    ordered_before : (t : TransId) → On way.route.value t → (x y : Item) → Called m course x → Called m course y
        → IsOrderedInLeg m way.fires way.route.value t x y → Before m course x y
    ordered_before t on _ _ first second (leg_exit_effect {x = x} {y = y} a c h k) =
        exit_effect (leg_of way t) (goes_by way inside, on) a c (calls_then t x first h) (calls_then t y second k)
    ordered_before t on _ _ first second (leg_path same h) = path (leg_of way t) (goes_by way inside, on) same h
    ordered_before t on _ _ first second (leg_effect_enter {x = x} {y = y} a c h k) =
        effect_enter (leg_of way t) (goes_by way inside, on) a c (calls_then t x first h) (calls_then t y second k)
    ordered_before t on _ _ first second (leg_effect_end {x = x} a h k) =
        effect_end (leg_of way t) (goes_by way inside, on) a (calls_then t x first h) k
    ordered_before t on _ _ first second (leg_enter_end {x = x} a h k) =
        enter_end (leg_of way t) (goes_by way inside, on) a (calls_then t x first h) k
    ordered_before t on _ _ first second (leg_later {x = x} {y = y} next late h k) =
        let item : IsItemByLeg m course (leg_of way next) y = ⊎_elim (λ calls. inl (calls_then next y second calls)) (λ end. inr end) k in
        later (leg_of way t) next (goes_by way inside, on) late (calls_then t x first h) item

  pub before_both : (x y : Item) → Called m course x → Called m course y → IsSequence m ways x y ↔ Before m course x y
  before_both x y first second = (
    λ h. ⊎_elim
        (nested_before x y)
        (λ some. (let by = some.2 in ordered_before some.0 some.1 by.0 by.1 x y first second by.2))
        h,
    before_is x y,
  )

module _ (m : DraftMachine) where
  -- a vertex of some kind is there
  kind_there : (s : VertexId) (kind : VertexKind) → HasKind m s kind → s.0 < length m.vertices
  kind_there s kind h =
      let x = mapped_some (λ (x : Vertex). x.kind) (vertex_at m s) kind h in
      slice_get_within m.vertices s.0 x.0 x.1

  -- a State that is restored is there
  restoring_there : (memory : Memory) (truth : Truth) (item : Item) (s : VertexId) → IsWay m truth memory item (Restore s) → s.0 < length m.vertices
  restoring_there memory truth (items.Exit q) s way = absurd (cc)
  restoring_there memory truth (items.Effect t) s way = absurd (cc)
  restoring_there memory truth (items.Enter q) s way = absurd (cc)
  restoring_there memory truth (items.Opened r Plain) s way = absurd way
  restoring_there memory truth (items.Opened r Shallow) s way = kind_there s kinds.State way.1
  restoring_there memory truth (items.Opened r Deep) s way = kind_there s kinds.State way.1
  restoring_there memory truth (items.Pick c) s way = absurd way

  pub restored_there : (head : Head) (now : Configuration) (ran : List (Item × How)) → HasGone m head now ran
      → (mode : Mode) (s : VertexId) → HasRestored (course_by head now ran) mode s → s.0 < length m.vertices
  restored_there head now _ (gone_begun fires) mode s h = absurd (nothing_in_nil (items.Opened h.0 mode, Restore s) h.1)
  restored_there head now _ (gone_more {ran = ran} item how before ready truth way) mode s h =
      ⊎_elim
      (restored_there head now ran before mode s)
      (λ e. restoring_there (RemembersSoFar m (course_by head now ran)) truth item s (subst (λ k. IsWayNow m truth (course_by head now ran) item k) e way))
      (restored_more (course_by head now ran) item how mode s h)

module _ {m : DraftMachine} (shape : HasShape m) where
  -- what a route names is there
  target_there : (t : TransId) (v : VertexId) → Enters m t v → v.0 < length m.vertices
  target_there t v h =
      let x = mapped_some (λ (x : Transition). x.target) (transition_at m t) v h in
      subst (λ (w : VertexId). w.0 < length m.vertices) x.2 (shape.ends t x.0 x.1).1

  last_there : (p : Route) (t : TransId) (v : VertexId) → IsLastVertex m p t v → v.0 < length m.vertices
  last_there p t v h = target_there h.0 v h.2

  -- and so is what owns a vertex
  owner_vertex : (v : VertexId) (o : Owner) → owner_of m (State v) ≡ Some o → OwnsVertex m v o
  owner_vertex v o e =
      let x = mapped_some (λ (x : Vertex). x.owner) (vertex_at m v) o e in
      subst (λ p. OwnsVertex m v p) x.2 (shape.vertices v x.0 x.1).0

  entered_there : (p : Route) (t : TransId) (s : VertexId) → LegEnters m p t s → s.0 < length m.vertices
  entered_there p t s h =
      let v = h.0 in
      ⊎_elim
      (λ inside. scope_there m s inside.0 inside.2)
      (⊎_elim
      (λ end. subst (λ (w : VertexId). w.0 < length m.vertices) (sym end.1) (last_there p t v h.1))
      (λ point. kind_there m s kinds.State (owner_vertex v (State s) point.1).1))
      h.4

  calls_there : (Active : VertexId → Type 0) (p : Route) → IsStepRoute m p → (t : TransId) (x : Item) → LegCalls m Active p t x → IsItemIn m x
  calls_there Active p route t (items.Exit s) h = let would = h.0.1 in scope_there m s would.0 would.2
  calls_there Active p route t (items.Effect u) h =
      All-contains (λ (w : TransId). w.0 < length m.transitions) (transitions_of p) u (step_is_route route).in_range (leg_ends m p h)
  calls_there Active p route t (items.Enter s) h = entered_there p t s h
  calls_there Active p route t (items.Opened r mode) h = absurd h
  calls_there Active p route t (items.Pick c) h = absurd h

  ends_there : (p : Route) (t : TransId) (x : Item) → LegEnds m p t x → IsItemIn m x
  ends_there p t (items.Opened r Shallow) h = (owner_vertex h.0 (Region r) h.3).1
  ends_there p t (items.Opened r Deep) h = (owner_vertex h.0 (Region r) h.3).1
  ends_there p t (items.Opened r Plain) h = absurd h
  ends_there p t (items.Pick c) h = last_there p t c h.0
  ends_there p t (items.Exit s) h = absurd h
  ends_there p t (items.Effect u) h = absurd h
  ends_there p t (items.Enter s) h = absurd h

  opens_there : (p : Route) (t : TransId) (x : Item) → LegOpens m p t x → IsItemIn m x
  opens_there p t (items.Opened r Plain) h = owned_is_place m (Region r) (State h.0) h.2
  opens_there p t (items.Opened r Shallow) h = absurd h
  opens_there p t (items.Opened r Deep) h = absurd h
  opens_there p t (items.Pick c) h = absurd h
  opens_there p t (items.Exit s) h = absurd h
  opens_there p t (items.Effect u) h = absurd h
  opens_there p t (items.Enter s) h = absurd h

  start_there : (head : Head) (x : Item) → StartOpens m head x → IsItemIn m x
  start_there Starts (items.Opened r Plain) h = owned_is_place m (Region r) Top h
  start_there Starts (items.Opened r Shallow) h = absurd h
  start_there Starts (items.Opened r Deep) h = absurd h
  start_there Starts (items.Pick c) h = absurd h
  start_there Starts (items.Exit s) h = absurd h
  start_there Starts (items.Effect u) h = absurd h
  start_there Starts (items.Enter s) h = absurd h
  start_there (Fires routes) x h = absurd h

  opened_there : (course : Course) (s : VertexId) (x : Item) → EnterOpens m course s x → IsItemIn m x
  opened_there course s (items.Opened r mode) h = owned_is_place m (Region r) (State s) h.0
  opened_there course s (items.Pick c) h = absurd h
  opened_there course s (items.Exit q) h = absurd h
  opened_there course s (items.Effect u) h = absurd h
  opened_there course s (items.Enter q) h = absurd h

module _ {m : DraftMachine} (course : Course) (ways : List Way) (states : List Restored) (are : AreWaysOf m course ways states) where
  -- a route by which the step goes is one of the machine
  route_there : (p : Route) → (FiresBy course.head p ⊎ HasGoneBy course p) → IsStepRoute m p
  route_there p goes =
      let w = (are.taken p).1 goes in
      subst (λ q. IsStepRoute m q) w.2 (are.legs w.0 w.1).route

  -- what such a step calls is there
  pub called_there : HasShape m → HasGone m course.head course.at_head course.ran → (x : Item) → Called m course x → IsItemIn m x
  called_there shape gone x (start h) = start_there shape course.head x h
  called_there shape gone x (run leg is h) = calls_there shape (CanExit course leg.route) leg.route (route_there leg.route is.0) leg.named_by x h
  called_there shape gone x (ends leg is h) = ends_there shape leg.route leg.named_by x h
  called_there shape gone x (opens leg is h) = opens_there shape leg.route leg.named_by x h
  called_there shape gone x (restored mode s h e) =
      subst (λ y. IsItemIn m y) (sym e) (restored_there m course.head course.at_head course.ran gone mode s h)
  called_there shape gone x (entered s ran h) = opened_there shape course s x h
