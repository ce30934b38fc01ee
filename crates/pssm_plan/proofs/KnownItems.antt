-- What a step calls is known where the configuration at its head is, and so is on which item another waits.
use Rattle.std.proofs.Common.{List, Bool, true, false, IsTrue, ◌≡◌, ◌⊎◌, ◌<◌, ℕ, length, Contains, Some, refl, sym, ap, subst, inl, inr, ⊎_elim}
use Rattle.std.proofs.lemmas.Option.{slice_get_within}
use Rattle.pssm_model.specs.declared.ids.VertexId.{VertexId}
use Rattle.pssm_model.specs.declared.ids.RegionId.{RegionId}
use Rattle.pssm_model.specs.declared.ids.TransId.{TransId}
use Rattle.pssm_model.specs.declared.elements.DraftMachine.{DraftMachine}
use Rattle.pssm_model.specs.declared.elements.Vertex.{Vertex}
use Rattle.pssm_model.specs.declared.elements.VertexKind.TheVariants as kinds
use Rattle.pssm_model.specs.declared.elements.Owner.{Owner}
use Rattle.pssm_model.specs.declared.elements.Owner.TheVariants.{Region, State}
use Rattle.pssm_model.specs.declared.steps.Route.{Route}
use Rattle.pssm_model.specs.declared.steps.Mode.{Mode}
use Rattle.pssm_model.specs.declared.steps.Mode.TheVariants.{Plain, Shallow, Deep}
use Rattle.pssm_model.specs.declared.steps.How.{How}
use Rattle.pssm_model.specs.declared.steps.How.TheVariants.{By, Restore, Nothing}
use Rattle.pssm_model.specs.declared.steps.Item.{Item}
use Rattle.pssm_model.specs.declared.steps.Item.TheVariants as items
use Rattle.pssm_model.specs.Forest.{vertex_at, HasKind, owner_of, LiesUnder}
use Rattle.pssm_model.specs.Shapes.{HasShape}
use Rattle.pssm_model.specs.WellFormed.{KeepsModelRules}
use Rattle.pssm_model.specs.Configuration.{Configuration}
use Rattle.pssm_model.specs.Course.{Head, Course, FiresBy, HasGoneBy, HasRestored}
use Rattle.pssm_model.specs.Course.Head.{Starts, Fires}
use Rattle.pssm_model.specs.Legs.{On, transitions_of, LaterLeg}
use Rattle.pssm_model.specs.Items.{CanExit, LegEnds, LegOpens, IsCalledInLeg, IsItemOfLeg, PathBefore, HasRunOut, IsExit, IsEffect, IsEnter, Before, IsWaiting, IsCleared}
use Rattle.pssm_model.specs.Items.Before.{inner_exit, outer_enter, exit_effect, path as effect_path, effect_enter, effect_end, enter_end, later as by_later}
use Rattle.pssm_model.specs.Order.{HasGone, IsReady, IsAtOrBefore, HasReadyAtOrBefore, KnownConfiguration, course_by, known_course}
use Rattle.pssm_model_laws.specs.inner.RouteWords.{IsEnteredBy}
use Rattle.pssm_legs.specs.Calls.{IsItemIn}
use Rattle.pssm_plan.specs.Steadiness.{BeginsWell}
use Rattle.pssm_plan.specs.Steps.{IsStep}
use Rattle.pssm_plan.specs.inner.Sequence.{IsNestedPair}
use Rattle.pssm_plan.specs.inner.OverRoutes.{GoesByRoutes, LiesInArea, GoesBy, EndsOnChoice, IsRestoredOver, IsCalledOver}
use Rattle.pssm_model.proofs.ElementLaws.{mapped_some}
use Rattle.pssm_model_laws.proofs.LegShapes.{later_ends_on}
use Rattle.pssm_model_laws.proofs.KnownClosures.{known_same_leg, known_later_leg, known_path}
use Rattle.pssm_model_laws.proofs.Known.{Known, known_as, known_both, known_either, known_not, known_below, known_among, known_inside, known_vertex, known_transition}
use Rattle.pssm_model_laws.proofs.KnownPlaces.{owner_under, known_in_state}
use Rattle.pssm_plan.proofs.KnownRuns.{run_known}
use Rattle.pssm_plan.proofs.RouteItems.{leg_at, called_is, called_of}
use Rattle.pssm_plan.proofs.RouteCourses.{called_there as names_there}
use Rattle.pssm_plan.proofs.KnownRoutes.{known_in_area, known_entered, known_choice, known_leg_exits, known_leg_enters, known_leg_ends, known_leg_opens}
use Rattle.pssm_plan.proofs.RouteSteps.{gone_by_routes}
use Rattle.pssm_plan.proofs.SteadyApart.{known_route}
use Rattle.pssm_plan.proofs.RouteRanks.{strong_before}
use Rattle.pssm_plan.proofs.RouteReady.{ready_at_or_before, nothing_ready}

-- the vertex of a number
abbrev vertex_of : ℕ → VertexId
vertex_of k = record { 0 = k }

-- the transition of a number
abbrev transition_of : ℕ → TransId
transition_of k = record { 0 = k }

-- what lies somewhere, or owns a region, is one of the machine
pub lying_there : {m : DraftMachine} → HasShape m → (v : VertexId) (q : Owner) → LiesUnder m (State v) q → v.0 < length m.vertices
lying_there {m} shape v q h =
    let up = owner_under m (State v) q h in
    let at = mapped_some (λ (x : Vertex). x.owner) (vertex_at m v) up.0 up.1 in
    slice_get_within m.vertices v.0 at.0 at.1

pub owning_there : {m : DraftMachine} → HasShape m → (s : VertexId) (r : RegionId) → owner_of m (Region r) ≡ Some (State s) → s.0 < length m.vertices
owning_there {m} shape s r e =
    let is : HasKind m s kinds.State = (shape.regions r (State s) e).0 in
    let at = mapped_some (λ (x : Vertex). x.kind) (vertex_at m s) kinds.State is in
    slice_get_within m.vertices s.0 at.0 at.1

-- some route that fires is such
known_firing : (head : Head) (P : Route → Type 0) → ((p : Route) → FiresBy head p → Known (P p)) → Known ((p : Route) × FiresBy head p × P p)
known_firing Starts P each = inr (λ h. h.1)
known_firing (Fires routes) P each = known_among P routes each

-- some late route by which it goes is such
known_way : (how : How) (P : Route → Type 0) → ((p : Route) → how ≡ By p → Known (P p)) → Known ((p : Route) × (how ≡ By p) × P p)
known_way (By q) P each =
    known_as
    (λ h. (q, refl, h))
    (λ h. subst P (sym (same_way h.0 h.1)) h.2)
    (each q refl)
  where
    same_way : (p : Route) → By q ≡ By p → q ≡ p
    same_way p e = cc
known_way (Restore s) P each = inr (λ h. let clash = h.1 in cc)
known_way Nothing P each = inr (λ h. let clash = h.1 in cc)

known_late : (course : Course) (P : Route → Type 0) → ((p : Route) → HasGoneBy course p → Known (P p)) → Known ((p : Route) × HasGoneBy course p × P p)
known_late course P each =
    known_as
    (λ h. (h.2.0, (h.0.0, subst (λ x. Contains course.ran x) (pair h.0 (By h.2.0) h.2.1) h.1), h.2.2))
    (λ h. ((h.1.0, By h.0), h.1.1, (h.0, refl, h.2)))
    (known_among
    (λ x. (p : Route) × (x.1 ≡ By p) × P p)
    course.ran
    (λ x inside. known_way x.1 P (λ p e. each p (x.0, subst (λ y. Contains course.ran y) (pair x (By p) e) inside))))
  where
    pair : (x : Item × How) (how : How) → x.1 ≡ how → x ≡ (x.0, how)
    pair x how e = λ i. (x.0, e i)

-- two modes are the same, or not; and whether some mode is such
pub known_mode : (a b : Mode) → Known (a ≡ b)
known_mode Plain Plain = inl refl
known_mode Plain Shallow = inr (λ e. cc)
known_mode Plain Deep = inr (λ e. cc)
known_mode Shallow Plain = inr (λ e. cc)
known_mode Shallow Shallow = inl refl
known_mode Shallow Deep = inr (λ e. cc)
known_mode Deep Plain = inr (λ e. cc)
known_mode Deep Shallow = inr (λ e. cc)
known_mode Deep Deep = inl refl

one_of_three : (P : Mode → Type 0) (mode : Mode) → P mode → P Plain ⊎ P Shallow ⊎ P Deep
one_of_three P Plain h = inl h
one_of_three P Shallow h = inr (inl h)
one_of_three P Deep h = inr (inr h)

pub known_some_mode : (P : Mode → Type 0) → ((mode : Mode) → Known (P mode)) → Known ((mode : Mode) × P mode)
known_some_mode P each =
    known_as
    (λ h. ⊎_elim (λ plain. (Plain, plain)) (⊎_elim (λ shallow. (Shallow, shallow)) (λ deep. (Deep, deep))) h)
    (λ h. one_of_three P h.0 h.1)
    (known_either (each Plain) (known_either (each Shallow) (each Deep)))

-- What has run is an opening in the mode that has restored the State.
abbrev RestoresBy : VertexId → Mode → Item × How → Type 0
RestoresBy s mode x = (r : RegionId) × (x ≡ (items.Opened r mode, Restore s))

-- some opening has restored the State
pub known_restored_as : (course : Course) (s : VertexId) (mode : Mode) → Known (HasRestored course mode s)
known_restored_as course s mode =
    known_as
    (λ h. (h.2.0, subst (λ x. Contains course.ran x) h.2.1 h.1))
    (λ h. ((items.Opened h.0 mode, Restore s), h.1, (h.0, refl)))
    (known_among (λ x. RestoresBy s mode x) course.ran (λ x inside. known_by x))
  where
    known_back : (how : How) → Known (how ≡ Restore s)
    known_back (By p) = inr (λ e. cc)
    known_back (Restore q) = known_as (λ e. ap Restore e) (λ e. cc) (known_vertex q s)
    known_back Nothing = inr (λ e. cc)

    is_such : (r : RegionId) (was : Mode) (how : How) → was ≡ mode → how ≡ Restore s → RestoresBy s mode (items.Opened r was, how)
    is_such r was how e f = (r, λ i. (items.Opened r (e i), f i))

    mode_of : (r q : RegionId) (was : Mode) → items.Opened r was ≡ items.Opened q mode → was ≡ mode
    mode_of r q was e = cc

    no_opening : (item : Item) (how : How) → ((r : RegionId) → item ≡ items.Opened r mode → ⊥) → RestoresBy s mode (item, how) → ⊥
    no_opening item how none h = none h.0 (ap (λ (y : Item × How). y.0) h.1)

    known_by : (x : Item × How) → Known (RestoresBy s mode x)
    known_by (items.Opened r was, how) =
        known_as
        (λ h. is_such r was how h.0 h.1)
        (λ h. (mode_of r h.0 was (ap (λ (y : Item × How). y.0) h.1), ap (λ (y : Item × How). y.1) h.1))
        (known_both (known_mode was mode) (known_back how))
    known_by (items.Exit q, how) = inr (no_opening (items.Exit q) how (λ r e. cc))
    known_by (items.Effect t, how) = inr (no_opening (items.Effect t) how (λ r e. cc))
    known_by (items.Enter q, how) = inr (no_opening (items.Enter q) how (λ r e. cc))
    known_by (items.Pick c, how) = inr (no_opening (items.Pick c) how (λ r e. cc))

known_restored : (course : Course) (s : VertexId) → Known (IsRestoredOver course s)
known_restored course s = known_some_mode (λ mode. HasRestored course mode s) (known_restored_as course s)

-- whether a transition is of a route, and a route one that fires
known_on : (p : Route) (t : TransId) → Known (On p t)
known_on p t = known_inside known_transition (transitions_of p) t

known_fires : (head : Head) (p : Route) → Known (FiresBy head p)
known_fires Starts p = inr (λ none. none)
known_fires (Fires routes) p = known_inside known_route routes p

-- and of what kind an item is
known_exits : (x : Item) → Known (IsExit x)
known_exits (items.Exit s) = inl tt
known_exits (items.Effect t) = inr (λ none. none)
known_exits (items.Enter s) = inr (λ none. none)
known_exits (items.Opened r mode) = inr (λ none. none)
known_exits (items.Pick c) = inr (λ none. none)

known_acts : (x : Item) → Known (IsEffect x)
known_acts (items.Exit s) = inr (λ none. none)
known_acts (items.Effect t) = inl tt
known_acts (items.Enter s) = inr (λ none. none)
known_acts (items.Opened r mode) = inr (λ none. none)
known_acts (items.Pick c) = inr (λ none. none)

known_enters : (x : Item) → Known (IsEnter x)
known_enters (items.Exit s) = inr (λ none. none)
known_enters (items.Effect t) = inr (λ none. none)
known_enters (items.Enter s) = inl tt
known_enters (items.Opened r mode) = inr (λ none. none)
known_enters (items.Pick c) = inr (λ none. none)

-- The effects are those of a path of the route.
abbrev IsOnPath : DraftMachine → Route → Item → Item → Type 0
IsOnPath m p (items.Effect t) (items.Effect u) = PathBefore m p t u
IsOnPath m p _ _ = ⊥

known_on_path : (m : DraftMachine) (p : Route) (x y : Item) → Known (IsOnPath m p x y)
known_on_path m p (items.Effect t) (items.Effect u) = known_path m p t u
known_on_path m p (items.Effect t) (items.Exit s) = inr (λ none. none)
known_on_path m p (items.Effect t) (items.Enter s) = inr (λ none. none)
known_on_path m p (items.Effect t) (items.Opened r mode) = inr (λ none. none)
known_on_path m p (items.Effect t) (items.Pick c) = inr (λ none. none)
known_on_path m p (items.Exit s) y = inr (λ none. none)
known_on_path m p (items.Enter s) y = inr (λ none. none)
known_on_path m p (items.Opened r mode) y = inr (λ none. none)
known_on_path m p (items.Pick c) y = inr (λ none. none)

known_nested : {m : DraftMachine} → HasShape m → (x y : Item) → Known (IsNestedPair m x y)
known_nested shape (items.Exit s) (items.Exit q) = known_in_state shape s q
known_nested shape (items.Exit s) (items.Effect t) = inr (λ none. none)
known_nested shape (items.Exit s) (items.Enter q) = inr (λ none. none)
known_nested shape (items.Exit s) (items.Opened r mode) = inr (λ none. none)
known_nested shape (items.Exit s) (items.Pick c) = inr (λ none. none)
known_nested shape (items.Enter s) (items.Enter q) = known_in_state shape q s
known_nested shape (items.Enter s) (items.Exit q) = inr (λ none. none)
known_nested shape (items.Enter s) (items.Effect t) = inr (λ none. none)
known_nested shape (items.Enter s) (items.Opened r mode) = inr (λ none. none)
known_nested shape (items.Enter s) (items.Pick c) = inr (λ none. none)
known_nested shape (items.Effect t) y = inr (λ none. none)
known_nested shape (items.Opened r mode) y = inr (λ none. none)
known_nested shape (items.Pick c) y = inr (λ none. none)

-- The first item is one that the leg calls, and comes before the second in it, at its end or since that is of a later leg.
abbrev IsFollowed : DraftMachine → Course → Route → TransId → Item → Item → Type 0
IsFollowed m course p a x y =
    (IsExit x × IsEffect y × IsCalledInLeg m course (leg_at p a) y)
    ⊎ IsOnPath m p x y
    ⊎ (IsEffect x × IsEnter y × IsCalledInLeg m course (leg_at p a) y)
    ⊎ (IsEffect x × (LegEnds m p a y ⊎ LegOpens m p a y))
    ⊎ (IsEnter x × LegEnds m p a y)
    ⊎ ((u : TransId) × LaterLeg m p a u × IsItemOfLeg m course (leg_at p u) y)

abbrev FollowsInLeg : DraftMachine → Course → Route → TransId → Item → Item → Type 0
FollowsInLeg m course p a x y = IsCalledInLeg m course (leg_at p a) x × IsFollowed m course p a x y

-- The one comes before the other by nesting, or by a leg.
abbrev IsTold : DraftMachine → Course → Item → Item → Type 0
IsTold m course x y =
    IsNestedPair m x y ⊎ ((p : Route) × GoesBy course p × ((a : TransId) × On p a × FollowsInLeg m course p a x y))

module _ (m : DraftMachine) (course : Course) where
  told : (x y : Item) → Before m course x y → IsTold m course x y
  told _ _ (inner_exit lies) = inl lies
  told _ _ (outer_enter lies) = inl lies
  told _ _ (exit_effect {x = x} {y = y} leg is a c h k) = inr (leg.route, is.0, (leg.named_by, is.1, (h, inl (a, c, k))))
  told _ _ (effect_path {t = t} {u = u} leg is same way) = inr (leg.route, is.0, (leg.named_by, is.1, (same, inr (inl way))))
  told _ _ (effect_enter {x = x} {y = y} leg is a c h k) = inr (leg.route, is.0, (leg.named_by, is.1, (h, inr (inr (inl (a, c, k))))))
  told _ _ (effect_end {x = x} {y = y} leg is a h k) = inr (leg.route, is.0, (leg.named_by, is.1, (h, inr (inr (inr (inl (a, k)))))))
  told _ _ (enter_end {x = x} {y = y} leg is a h k) = inr (leg.route, is.0, (leg.named_by, is.1, (h, inr (inr (inr (inr (inl (a, k))))))))
  told _ _ (by_later {x = x} {y = y} leg u is more h k) =
      inr (leg.route, is.0, (leg.named_by, is.1, (h, inr (inr (inr (inr (inr (u, more, k))))))))

  nested_before : (x y : Item) → IsNestedPair m x y → Before m course x y
  nested_before (items.Exit s) (items.Exit q) h = inner_exit h
  nested_before (items.Exit s) (items.Effect t) h = absurd h
  nested_before (items.Exit s) (items.Enter q) h = absurd h
  nested_before (items.Exit s) (items.Opened r mode) h = absurd h
  nested_before (items.Exit s) (items.Pick c) h = absurd h
  nested_before (items.Enter s) (items.Enter q) h = outer_enter h
  nested_before (items.Enter s) (items.Exit q) h = absurd h
  nested_before (items.Enter s) (items.Effect t) h = absurd h
  nested_before (items.Enter s) (items.Opened r mode) h = absurd h
  nested_before (items.Enter s) (items.Pick c) h = absurd h
  nested_before (items.Effect t) y h = absurd h
  nested_before (items.Opened r mode) y h = absurd h
  nested_before (items.Pick c) y h = absurd h

  path_before : (p : Route) (a : TransId) (x y : Item) → GoesBy course p → On p a → IsCalledInLeg m course (leg_at p a) x → IsOnPath m p x y
      → Before m course x y
  path_before p a (items.Effect t) (items.Effect u) by on calls way = effect_path (leg_at p a) (by, on) calls way
  path_before p a (items.Effect t) (items.Exit s) by on calls way = absurd way
  path_before p a (items.Effect t) (items.Enter s) by on calls way = absurd way
  path_before p a (items.Effect t) (items.Opened r mode) by on calls way = absurd way
  path_before p a (items.Effect t) (items.Pick c) by on calls way = absurd way
  path_before p a (items.Exit s) y by on calls way = absurd way
  path_before p a (items.Enter s) y by on calls way = absurd way
  path_before p a (items.Opened r mode) y by on calls way = absurd way
  path_before p a (items.Pick c) y by on calls way = absurd way

  leg_before : (p : Route) (a : TransId) (x y : Item) → GoesBy course p → On p a → FollowsInLeg m course p a x y → Before m course x y
  leg_before p a x y by on h =
      let calls = h.0 in
      ⊎_elim
      (λ k. exit_effect (leg_at p a) (by, on) k.0 k.1 calls k.2)
      (⊎_elim
      (λ way. path_before p a x y by on calls way)
      (⊎_elim
      (λ k. effect_enter (leg_at p a) (by, on) k.0 k.1 calls k.2)
      (⊎_elim
      (λ k. effect_end (leg_at p a) (by, on) k.0 calls k.1)
      (⊎_elim
      (λ k. enter_end (leg_at p a) (by, on) k.0 calls k.1)
      (λ k. by_later (leg_at p a) k.0 (by, on) k.1 calls k.2)))))
      h.1

  untold : (x y : Item) → IsTold m course x y → Before m course x y
  untold x y h = ⊎_elim (λ nested. nested_before x y nested) (λ by. leg_before by.0 by.2.0 x y by.1 by.2.1 by.2.2) h

-- the step, where the configuration at its head is known
module _ {m : DraftMachine} (rules : KeepsModelRules m) (shape : HasShape m) (course : Course) (g : GoesByRoutes m course)
    (active : (s : VertexId) → Known (course.at_head.Active s)) where
  pub known_by_some : (P : Route → Type 0) → ((p : Route) → GoesBy course p → Known (P p)) → Known ((p : Route) × GoesBy course p × P p)
  known_by_some P each =
      known_as
      (λ h. ⊎_elim (λ fires. (fires.0, inl fires.1, fires.2)) (λ gone. (gone.0, inr gone.1, gone.2)) h)
      (λ h. ⊎_elim (λ fires. inl (h.0, fires, h.2)) (λ gone. inr (h.0, gone, h.2)) h.1)
      (known_either
      (known_firing course.head P (λ p fires. each p (inl fires)))
      (known_late course P (λ p gone. each p (inr gone))))

  -- which effects it calls
  pub known_over : (t : TransId) → Known (IsCalledOver m course (items.Effect t))
  known_over t = known_by_some (λ p. On p t) (λ p by. known_on p t)

  -- which exits and entries it calls
  pub known_exit : (s : VertexId) → Known (IsCalledOver m course (items.Exit s))
  known_exit s =
      known_as
      (λ h. (h.0, (h.1, h.2.0, h.2.1)))
      (λ h. (h.0, h.1.0, (h.1.1, h.1.2)))
      (known_firing course.head
      (λ p. course.at_head.Active s × LiesInArea m p s)
      (λ p fires. known_both (active s) (known_in_area shape rules p (g.routes p (inl fires)) s)))

  pub known_enter : (s : VertexId) → Known (IsCalledOver m course (items.Enter s))
  known_enter s =
      known_either
      (known_as
      (λ h. (h.0, (h.1, h.2)))
      (λ h. (h.0, h.1.0, h.1.1))
      (known_by_some (λ p. IsEnteredBy m p s) (λ p by. known_entered shape rules p (g.routes p by) s)))
      (known_restored course s)

  -- and which picks
  pub known_pick : (c : VertexId) → Known (IsCalledOver m course (items.Pick c))
  known_pick c =
      known_as
      (λ h. (h.0, (h.1, h.2)))
      (λ h. (h.0, h.1.0, h.1.1))
      (known_by_some (λ p. EndsOnChoice m p c) (λ p by. known_choice shape rules p (g.routes p by) c))

  -- what a leg calls, and what it calls at its end
  known_called_in : (p : Route) (by : GoesBy course p) (a : TransId) → On p a → (x : Item) → Known (IsCalledInLeg m course (leg_at p a) x)
  known_called_in p by a on (items.Exit s) =
      known_leg_exits shape rules p (g.routes p by) (CanExit course p) (λ v. known_both (known_fires course.head p) (active v)) a on s
  known_called_in p by a on (items.Effect t) = known_same_leg m p a t
  known_called_in p by a on (items.Enter s) = known_leg_enters shape rules p (g.routes p by) a on s
  known_called_in p by a on (items.Opened r mode) = inr (λ none. none)
  known_called_in p by a on (items.Pick c) = inr (λ none. none)

  known_of_leg : (p : Route) (by : GoesBy course p) (a : TransId) → On p a → (y : Item) → Known (IsItemOfLeg m course (leg_at p a) y)
  known_of_leg p by a on y =
      known_either
      (known_called_in p by a on y)
      (known_either (known_leg_ends shape rules p (g.routes p by) a y) (known_leg_opens shape rules p (g.routes p by) a y))

  -- so whether one item comes before another
  known_later_item : (p : Route) (by : GoesBy course p) (a : TransId) (y : Item)
      → Known ((u : TransId) × LaterLeg m p a u × IsItemOfLeg m course (leg_at p u) y)
  known_later_item p by a y =
      known_as
      (λ h. (h.0, h.2.0, h.2.1))
      (λ h. (h.0, later_ends_on m p a h.0 h.1, (h.1, h.2)))
      (known_among
      (λ u. LaterLeg m p a u × IsItemOfLeg m course (leg_at p u) y)
      (transitions_of p)
      (λ u on. known_both (known_later_leg m p a u) (known_of_leg p by u on y)))

  known_followed : (p : Route) (by : GoesBy course p) (a : TransId) → On p a → (x y : Item) → Known (IsFollowed m course p a x y)
  known_followed p by a on x y =
      known_either
      (known_as
      (λ h. (h.0, h.1.0, h.1.1))
      (λ h. (h.0, (h.1, h.2)))
      (known_both (known_exits x) (known_both (known_acts y) (known_called_in p by a on y))))
      (known_either
      (known_on_path m p x y)
      (known_either
      (known_as
      (λ h. (h.0, h.1.0, h.1.1))
      (λ h. (h.0, (h.1, h.2)))
      (known_both (known_acts x) (known_both (known_enters y) (known_called_in p by a on y))))
      (known_either
      (known_both
      (known_acts x)
      (known_either (known_leg_ends shape rules p (g.routes p by) a y) (known_leg_opens shape rules p (g.routes p by) a y)))
      (known_either
      (known_both (known_enters x) (known_leg_ends shape rules p (g.routes p by) a y))
      (known_later_item p by a y)))))

  known_by_leg : (x y : Item) → Known ((p : Route) × GoesBy course p × ((a : TransId) × On p a × FollowsInLeg m course p a x y))
  known_by_leg x y =
      known_by_some
      (λ p. (a : TransId) × On p a × FollowsInLeg m course p a x y)
      (λ p by. known_among
      (λ a. FollowsInLeg m course p a x y)
      (transitions_of p)
      (λ a on. known_both (known_called_in p by a on x) (known_followed p by a on x y)))

  known_before : (x y : Item) → Known (Before m course x y)
  known_before x y = known_as (untold m course x y) (told m course x y) (known_either (known_nested shape x y) (known_by_leg x y))

  -- an exit, effect or entry of a number that waits and comes before an item
  abbrev WaitsBefore : Item → Item → Type 0
  WaitsBefore y x = IsWaiting m course x × Before m course x y

  known_waits : (y x : Item) → Known (IsCalledOver m course x) → Known (WaitsBefore y x)
  known_waits y x called =
      known_as
      (λ h. (record { called = called_of rules shape course g x h.0; not_run = h.1.0 }, h.1.1))
      (λ h. (called_is rules shape course g x h.0.called, (h.0.not_run, h.1)))
      (known_both called (known_both (known_not (run_known course x)) (known_before x y)))

  there : (x : Item) → IsWaiting m course x → IsItemIn m x
  there x waits = names_there shape rules course g x (called_is rules shape course g x waits.called)

  known_exit_waits : (y : Item) → Known ((s : VertexId) × WaitsBefore y (items.Exit s))
  known_exit_waits y =
      known_as
      (λ h. (vertex_of h.0, h.2))
      (λ h. (h.0.0, there (items.Exit h.0) h.1.0, h.1))
      (known_below
      (λ k. WaitsBefore y (items.Exit (vertex_of k)))
      (λ k. known_waits y (items.Exit (vertex_of k)) (known_exit (vertex_of k)))
      (length m.vertices))

  known_effect_waits : (y : Item) → Known ((t : TransId) × WaitsBefore y (items.Effect t))
  known_effect_waits y =
      known_as
      (λ h. (transition_of h.0, h.2))
      (λ h. (h.0.0, there (items.Effect h.0) h.1.0, h.1))
      (known_below
      (λ k. WaitsBefore y (items.Effect (transition_of k)))
      (λ k. known_waits y (items.Effect (transition_of k)) (known_over (transition_of k)))
      (length m.transitions))

  known_enter_waits : (y : Item) → Known ((s : VertexId) × WaitsBefore y (items.Enter s))
  known_enter_waits y =
      known_as
      (λ h. (vertex_of h.0, h.2))
      (λ h. (h.0.0, there (items.Enter h.0) h.1.0, h.1))
      (known_below
      (λ k. WaitsBefore y (items.Enter (vertex_of k)))
      (λ k. known_waits y (items.Enter (vertex_of k)) (known_enter (vertex_of k)))
      (length m.vertices))

  -- what comes before an item is one of these
  none_before : (y : Item) → ((s : VertexId) × WaitsBefore y (items.Exit s) → ⊥) → ((t : TransId) × WaitsBefore y (items.Effect t) → ⊥)
      → ((s : VertexId) × WaitsBefore y (items.Enter s) → ⊥) → (x : Item) → IsWaiting m course x → Before m course x y → ⊥
  none_before y no_exit no_effect no_enter (items.Exit s) waits before = no_exit (s, (waits, before))
  none_before y no_exit no_effect no_enter (items.Effect t) waits before = no_effect (t, (waits, before))
  none_before y no_exit no_effect no_enter (items.Enter s) waits before = no_enter (s, (waits, before))
  none_before y no_exit no_effect no_enter (items.Opened r mode) waits before = absurd (strong_before m course (items.Opened r mode) y before)
  none_before y no_exit no_effect no_enter (items.Pick c) waits before = absurd (strong_before m course (items.Pick c) y before)

  cleared : (y : Item) → ((x : Item) → IsWaiting m course x → Before m course x y → ⊥) → IsCleared m course y
  cleared y none x called h =
      ⊎_elim
      (λ ran. ran)
      (λ not. absurd (none x (record { called = called; not_run = not }) h))
      (run_known course x)

  -- an item is cleared, or waits for one
  pub cleared_or_waits : (y : Item) → IsCleared m course y ⊎ ((x : Item) × IsWaiting m course x × Before m course x y)
  cleared_or_waits y =
      ⊎_elim
      (λ on. inr (items.Exit on.0, on.1.0, on.1.1))
      (λ no_exit. ⊎_elim
      (λ on. inr (items.Effect on.0, on.1.0, on.1.1))
      (λ no_effect. ⊎_elim
      (λ on. inr (items.Enter on.0, on.1.0, on.1.1))
      (λ no_enter. inl (cleared y (none_before y no_exit no_effect no_enter)))
      (known_enter_waits y))
      (known_effect_waits y))
      (known_exit_waits y)

-- a called item that has not run has a ready item at or before it
pub some_ready : {m : DraftMachine} → HasShape m → KeepsModelRules m → (head : Head) (now : Configuration) → BeginsWell m head now → (ran : List (Item × How))
    → HasGone m head now ran → ((s : VertexId) → Known (now.Active s)) → (item : Item) → IsWaiting m (course_by head now ran) item
    → (x : Item) × IsReady m (course_by head now ran) x × IsAtOrBefore m (course_by head now ran) x item
some_ready {m = m} shape rules head now begins ran gone active item waits =
    let course = course_by head now ran in
    let g = gone_by_routes rules shape head now ran gone in
    ready_at_or_before shape rules head now begins ran gone (λ x is. cleared_or_waits rules shape course g active x) item waits

-- so it is in the steps of a machine
pub step_ready : (m : DraftMachine) (course : Course) → IsStep m course → ((s : VertexId) → Known (course.at_head.Active s))
    → (item : Item) → IsWaiting m course item → HasReadyAtOrBefore m course item
step_ready m course h active item waits =
    some_ready h.shape h.rules course.head course.at_head h.begins course.ran h.gone active item waits

pub step_finished : (m : DraftMachine) (course : Course) → IsStep m course → ((item : Item) → IsReady m course item → ⊥) → HasRunOut m course
step_finished m course h none =
    nothing_ready h.shape h.rules course.head course.at_head h.begins course.ran h.gone none

-- and where the configuration at the head is known
pub known_true : (b : Bool) → Known (IsTrue b)
known_true true = inl refl
known_true false = inr (λ h. cc)

pub known_ready : (m : DraftMachine) (head : Head) (now : KnownConfiguration) (ran : List (Item × How)) (item : Item) → IsStep m (known_course head now ran)
    → IsWaiting m (known_course head now ran) item → HasReadyAtOrBefore m (known_course head now ran) item
known_ready m head now ran item h waits = step_ready m (known_course head now ran) h (λ s. known_true (now.is_active s)) item waits
