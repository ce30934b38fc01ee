-- What a step calls that goes by routes: it is what plain words say of the routes.
use Rattle.std.proofs.Common.{◌≡◌, Some, refl, sym, subst, inl, inr, ⊎_elim}
use Rattle.pssm_model.specs.declared.ids.VertexId.{VertexId}
use Rattle.pssm_model.specs.declared.ids.RegionId.{RegionId}
use Rattle.pssm_model.specs.declared.ids.TransId.{TransId}
use Rattle.pssm_model.specs.declared.elements.DraftMachine.{DraftMachine}
use Rattle.pssm_model.specs.declared.elements.Owner.TheVariants.{Region, State}
use Rattle.pssm_model.specs.declared.steps.Route.{Route}
use Rattle.pssm_model.specs.declared.steps.Mode.{Mode}
use Rattle.pssm_model.specs.declared.steps.Mode.TheVariants.{Plain, Shallow, Deep}
use Rattle.pssm_model.specs.declared.steps.Item.{Item}
use Rattle.pssm_model.specs.declared.steps.Item.TheVariants as items
use Rattle.pssm_model.specs.Shapes.{HasShape}
use Rattle.pssm_model.specs.WellFormed.{KeepsModelRules}
use Rattle.pssm_model.specs.Forest.{owner_of}
use Rattle.pssm_model.specs.Legs.{On}
use Rattle.pssm_model.specs.Legs.SameLeg.{itself}
use Rattle.pssm_model.specs.Course.{Head, Course, Leg, IsLeg, HasRun}
use Rattle.pssm_model.specs.Course.Head.{Starts, Fires}
use Rattle.pssm_model.specs.Items.{CanExit, LegEnds, LegOpens, IsCalledInLeg, OpensByEntering, EnterOpens, StartOpens, Called}
use Rattle.pssm_model.specs.Items.Called.{start, run, ends, opens, restored, entered}
use Rattle.pssm_model_laws.specs.inner.RouteWords.{IsEnteredBy}
use Rattle.pssm_plan.specs.inner.OverRoutes.{GoesBy, GoesByRoutes, CallsAtEnd, IsExitedOver, OpensFor, OpensAfterEntry, IsOpenedOver, IsCalledOver}
use Rattle.pssm_model_laws.proofs.LegRoots.{leg_ends}
use Rattle.pssm_plan.proofs.Stations.{aims}
use Rattle.pssm_plan.proofs.RouteLegs.{leg_exits_is, leg_exits_of, leg_enters_is, leg_enters_of, leg_end_is, leg_end_of, leg_opening_is, leg_opening_of}

-- the leg of a route by the name of one of its transitions
abbrev pub leg_at : Route → TransId → Leg
leg_at p a = record { route = p; named_by = a }

module _ {m : DraftMachine} (rules : KeepsModelRules m) (shape : HasShape m) (course : Course) (g : GoesByRoutes m course) where
  -- what a leg calls
  pub exit_is : (leg : Leg) → IsLeg course leg → (s : VertexId) → IsCalledInLeg m course leg (items.Exit s) → IsExitedOver m course leg.route s
  exit_is leg is s h =
      let e = leg_exits_is rules shape leg.route (g.routes leg.route is.0) (CanExit course leg.route) leg.named_by s h in
      (e.1.0, e.1.1, e.2)

  pub exit_of : (p : Route) (s : VertexId) → IsExitedOver m course p s
      → (a : TransId) × IsLeg course (leg_at p a) × IsCalledInLeg m course (leg_at p a) (items.Exit s)
  exit_of p s h =
      let by : GoesBy course p = inl h.0 in
      let e = leg_exits_of rules shape p (g.routes p by) (CanExit course p) s (h.0, h.1) h.2 in
      (e.0, (by, e.1), e.2)

  pub enter_is : (leg : Leg) → IsLeg course leg → (s : VertexId) → IsCalledInLeg m course leg (items.Enter s) → IsEnteredBy m leg.route s
  enter_is leg is s h = (leg_enters_is rules shape leg.route (g.routes leg.route is.0) leg.named_by s h).1

  pub enter_of : (p : Route) → GoesBy course p → (s : VertexId) → IsEnteredBy m p s
      → (a : TransId) × IsLeg course (leg_at p a) × IsCalledInLeg m course (leg_at p a) (items.Enter s)
  enter_of p by s h = let e = leg_enters_of rules shape p (g.routes p by) s h in (e.0, (by, e.1), e.2)

  pub effect_is : (leg : Leg) → IsLeg course leg → (t : TransId) → IsCalledInLeg m course leg (items.Effect t) → On leg.route t
  effect_is leg is t h = leg_ends m leg.route h

  item_is : (leg : Leg) → IsLeg course leg → (item : Item) → IsCalledInLeg m course leg item → IsCalledOver m course item
  item_is leg is (items.Exit s) h = (leg.route, exit_is leg is s h)
  item_is leg is (items.Effect u) h = (leg.route, is.0, effect_is leg is u h)
  item_is leg is (items.Enter s) h = inl (leg.route, (is.0, enter_is leg is s h))
  item_is leg is (items.Opened r mode) h = absurd h
  item_is leg is (items.Pick c) h = absurd h

  -- openings
  start_is : (head : Head) (item : Item) → StartOpens m head item → (head ≡ course.head) → IsCalledOver m course item
  start_is Starts (items.Opened r Plain) h e = inl (inl (subst (λ x. StartOpens m x (items.Opened r Plain)) e h))
  start_is Starts (items.Opened r Shallow) h e = absurd h
  start_is Starts (items.Opened r Deep) h e = absurd h
  start_is Starts (items.Exit s) h e = absurd h
  start_is Starts (items.Effect t) h e = absurd h
  start_is Starts (items.Enter s) h e = absurd h
  start_is Starts (items.Pick c) h e = absurd h
  start_is (Fires routes) item h e = absurd h

  opening_is : (s : VertexId) (r : RegionId) (mode : Mode) → owner_of m (Region r) ≡ Some (State s) → OpensByEntering m course s r mode
      → OpensFor m course s r mode
  opening_is s r mode e h =
      let leg = h.0 in
      let step = g.routes leg.route h.1.0 in
      inl (
        leg.route,
        (h.1.0, enter_is leg h.1 s h.2),
        λ ends. h.4 ((aims shape rules leg.route step leg.named_by s r (inl h.2) e).1 ends),
        h.3,
      )

  entered_is : (s : VertexId) (item : Item) → HasRun course (items.Enter s) → EnterOpens m course s item → IsCalledOver m course item
  entered_is s (items.Opened r mode) ran h =
      inl (inr (inl (s, (ran, h.0, ⊎_elim (λ opening. opening_is s r mode h.0 opening) (λ restoring. inr restoring) h.1))))
  entered_is s (items.Exit q) ran h = absurd h
  entered_is s (items.Effect t) ran h = absurd h
  entered_is s (items.Enter q) ran h = absurd h
  entered_is s (items.Pick c) ran h = absurd h

  beside_is : (leg : Leg) → IsLeg course leg → (item : Item) → LegOpens m leg.route leg.named_by item → IsCalledOver m course item
  beside_is leg is item h =
      let opening = leg_opening_is rules shape leg.route (g.routes leg.route is.0) leg.named_by item h in
      subst (λ x. IsCalledOver m course x) (sym opening.1) (inl (inr (inr (leg.route, (is.0, opening.3, refl)))))

  -- what a route calls at an end
  at_end : (p : Route) → GoesBy course p → (item : Item) → CallsAtEnd m p item → IsCalledOver m course item
  at_end p by (items.Pick c) h = (p, (by, h))
  at_end p by (items.Opened r mode) h = inr (p, (by, h))
  at_end p by (items.Exit s) h = absurd h
  at_end p by (items.Effect t) h = absurd h
  at_end p by (items.Enter s) h = absurd h

  pub end_of : (p : Route) → GoesBy course p → (item : Item) → CallsAtEnd m p item → (a : TransId) × IsLeg course (leg_at p a) × LegEnds m p a item
  end_of p by item h = let e = leg_end_of rules shape p (g.routes p by) item h in (e.0, (by, e.1), e.2)

  pub opening_of : (p : Route) (r : RegionId) (mode : Mode) → IsOpenedOver m course p r mode
      → (a : TransId) × IsLeg course (leg_at p a) × LegOpens m p a (items.Opened r mode)
  opening_of p r mode h =
      let e = leg_opening_of rules shape p (g.routes p h.0) r h.1 in
      (e.0, (h.0, e.1), subst (λ x. LegOpens m p e.0 (items.Opened r x)) (sym h.2) e.2)

  -- what is called, in plain words
  pub called_is : (item : Item) → Called m course item → IsCalledOver m course item
  called_is item (start h) = start_is course.head item h refl
  called_is item (run leg is h) = item_is leg is item h
  called_is item (ends leg is h) =
      at_end leg.route is.0 item (leg_end_is rules shape leg.route (g.routes leg.route is.0) leg.named_by item h).1
  called_is item (opens leg is h) = beside_is leg is item h
  called_is item (restored mode s h e) = subst (λ x. IsCalledOver m course x) (sym e) (inr (mode, h))
  called_is item (entered s ran h) = entered_is s item ran h

  after_entry : (s : VertexId) (r : RegionId) (mode : Mode) → OpensAfterEntry m course s r mode → Called m course (items.Opened r mode)
  after_entry s r mode h =
      ⊎_elim
      (λ over. (
      let p = over.0 in
      let leg = enter_of p over.1.0 s over.1.1 in
      entered s h.0 (
        h.1,
        inl (
          leg_at p leg.0,
          leg.1,
          leg.2,
          over.3,
          λ aimed. over.2 ((aims shape rules p (g.routes p over.1.0) leg.0 s r (inl leg.2) h.1).0 aimed),
        ),
      )
      ))
      (λ back. entered s h.0 (h.1, inr back))
      h.2

  pub called_of : (item : Item) → IsCalledOver m course item → Called m course item
  called_of (items.Exit s) h = let leg = exit_of h.0 s h.1 in run (leg_at h.0 leg.0) leg.1 leg.2
  called_of (items.Effect t) h = run (leg_at h.0 t) (h.1, h.2) (itself h.2)
  called_of (items.Enter s) h =
      ⊎_elim
      (λ over. (let leg = enter_of over.0 over.1.0 s over.1.1 in run (leg_at over.0 leg.0) leg.1 leg.2))
      (λ back. restored back.0 s back.1 refl)
      h
  called_of (items.Opened r mode) h =
      ⊎_elim
      (⊎_elim
      (λ at_start. start at_start)
      (⊎_elim
      (λ at. after_entry at.0 r mode at.1)
      (λ beside. (let leg = opening_of beside.0 r mode beside.1 in opens (leg_at beside.0 leg.0) leg.1 leg.2))))
      (λ over. (let leg = end_of over.0 over.1.0 (items.Opened r mode) over.1.1 in ends (leg_at over.0 leg.0) leg.1 leg.2))
      h
  called_of (items.Pick c) h = let leg = end_of h.0 h.1.0 (items.Pick c) h.1.1 in ends (leg_at h.0 leg.0) leg.1 leg.2

  -- an exit, effect or entry that a leg calls is called
  pub called_in : (leg : Leg) → IsLeg course leg → (item : Item) → IsCalledInLeg m course leg item → Called m course item
  called_in leg is item h = run leg is h
