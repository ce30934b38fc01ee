-- How a step comes to stand somewhere: a route fires, the step opens a region so, or goes on so from a choice or history on which a route has ended.
use Rattle.std.proofs.Common.{List, Some, ◌≡◌, ◌⊎◌, [], ◌∷◌, Contains, refl, sym, ap, subst, ◌∙◌, inl, inr, ⊎_elim}
use Rattle.std.proofs.lemmas.List.Elements.{Contains-append_cases}
use Rattle.pssm_model.specs.declared.ids.VertexId.{VertexId}
use Rattle.pssm_model.specs.declared.ids.RegionId.{RegionId}
use Rattle.pssm_model.specs.declared.ids.TransId.{TransId}
use Rattle.pssm_model.specs.declared.elements.DraftMachine.{DraftMachine}
use Rattle.pssm_model.specs.declared.elements.VertexKind.TheVariants as kinds
use Rattle.pssm_model.specs.declared.elements.Owner.TheVariants.{Region, State}
use Rattle.pssm_model.specs.declared.steps.Route.{Route}
use Rattle.pssm_model.specs.declared.steps.Mode.{Mode}
use Rattle.pssm_model.specs.declared.steps.Mode.TheVariants.{Plain, Shallow, Deep}
use Rattle.pssm_model.specs.declared.steps.How.{How}
use Rattle.pssm_model.specs.declared.steps.How.TheVariants.{Restore}
use Rattle.pssm_model.specs.declared.steps.Item.{Item}
use Rattle.pssm_model.specs.declared.steps.Item.TheVariants as items
use Rattle.pssm_model.specs.Forest.{HasKind, owner_of, LiesInState}
use Rattle.pssm_model.specs.Shapes.{HasShape}
use Rattle.pssm_model.specs.WellFormed.{KeepsModelRules}
use Rattle.pssm_model.specs.Routes.{Truth, IsSource}
use Rattle.pssm_model.specs.RouteWords.{IsStepRoute}
use Rattle.pssm_model.specs.FiringSets.{IsLateRoute}
use Rattle.pssm_model.specs.Configuration.{Configuration, IsDirect}
use Rattle.pssm_model.specs.Course.{Head, Course, FiresBy, HasRun, RemembersSoFar}
use Rattle.pssm_model.specs.Items.{LegEnds, Before}
use Rattle.pssm_model.specs.Items.Before.{effect_end, enter_end, later}
use Rattle.pssm_model.specs.Ways.{Memory, IsWay}
use Rattle.pssm_model.specs.Order.{HasGone, IsReady, course_by}
use Rattle.pssm_model.specs.Order.HasGone.{begun as gone_begun, more as gone_more}
use Rattle.pssm_model.specs.Legs.{Leaves, On, SameLeg, LaterLeg, IsLastVertex, LegEnters}
use Rattle.pssm_model.specs.Legs.SameLeg.{itself as itself_leg}
use Rattle.pssm_plan.specs.Steadiness.{BeginsWell}
use Rattle.pssm_plan.specs.inner.OverRoutes.{LiesInArea, GoesBy, IsHistoryFor, IsItemAt, IsOpenedFor, IsCalledOver}
use Rattle.pssm_model.proofs.ElementLaws.{leaves_one, nothing_in_nil, kind_unique}
use Rattle.pssm_model.proofs.RouteLaws.{is_one}
use Rattle.pssm_model.proofs.OwnerChains.{one_owner}
use Rattle.pssm_model_laws.proofs.InnerPaths.{late_is_kind}
use Rattle.pssm_model_laws.proofs.LegRoots.{leg_begins, leg_turned}
use Rattle.pssm_model_laws.proofs.LegShapes.{later_begins_on}
use Rattle.pssm_legs.proofs.LegEntries.{enters_turned}
use Rattle.pssm_plan.proofs.Stations.{entries_around}
use Rattle.pssm_plan.proofs.RouteLegs.{last_of_end}
use Rattle.pssm_plan.proofs.RouteItems.{leg_at, called_is, called_in}
use Rattle.pssm_plan.proofs.RouteMore.{over_more, goes_kept, opened_kept, called_kept}
use Rattle.pssm_plan.proofs.RouteSteps.{opening_by, opening_restores, pick_by, way_is_late, gone_by_routes, fires_states}
use Rattle.pssm_plan.proofs.MoreRan.{gone_on, nothing_ran, begins_by, ran_kept, ran_now, run_more}
use Rattle.pssm_plan.proofs.SteadyPlaces.{IsGoOn, go_on_is_no, home_of_late, same_region_place}
use Rattle.pssm_plan.proofs.RoutePlaces.{IsLateFrom, EndsLate, late_is_within, late_end_enters}
use Rattle.pssm_plan.proofs.Arrivals.{Arrival, Arrives, IsFiring, IsProper, IsComingIn, IsBroughtBy, HasBrought, how_of, comes_proper}
use Rattle.pssm_plan.proofs.Arrivals.Arrival.{Along, Back}

-- The leg of the first transition is that of the second, or an earlier one.
abbrev pub IsUpTo : DraftMachine → Route → TransId → TransId → Type 0
IsUpTo m p t u = SameLeg m p t u ⊎ LaterLeg m p t u

-- The step opens the region, which the arrival begins in, and has opened it so.
abbrev pub IsOpenedBy : DraftMachine → Course → Arrival → RegionId → Mode → Type 0
IsOpenedBy m course x r mode = IsOpenedFor m course r mode × IsComingIn m x r × HasBrought course (items.Opened r mode) x

-- The step goes by the route, which has ended on a choice or history of the region: the effects and entries of the leg that ends there, and of those before
-- it, have run.
pub record HasComeTo (m : DraftMachine) (course : Course) (w : Route) (c : VertexId) (r : RegionId) : Type 0 where
  pub goes : GoesBy course w
  pub ends : EndsLate m w c
  pub home : owner_of m (State c) ≡ Some (Region r)
  pub effects : (t : TransId) → IsUpTo m w t ends.0.0 → HasRun course (items.Effect t)
  pub entries : (a : TransId) (s : VertexId) → IsUpTo m w a ends.0.0 → LegEnters m w a s → HasRun course (items.Enter s)

-- the States around the end that it enters have been entered
pub come_entered : {m : DraftMachine} → HasShape m → KeepsModelRules m → (course : Course) (w : Route) (c : VertexId) (r : RegionId) (o : VertexId)
    → IsStepRoute m w → HasComeTo m course w c r → LiesInState m c o → LiesInArea m w o → HasRun course (items.Enter o)
come_entered {m = m} shape rules course w c r o step come inside area =
    let ends = come.ends in
    let stops = λ (k : HasKind m c kinds.Junction). (
    let wrong : ⊥ = go_on_is_no m c kinds.Junction (λ clash. cc) (λ clash. cc) (λ clash. cc) ends.1 k in wrong) in
    let enters = late_end_enters shape rules w step c o ends area inside in
    ⊎_elim
    (λ here. come.entries ends.0.0 o (inl (itself_leg ends.0.1)) here)
    (λ earlier. come.entries earlier.0 o (inr earlier.1) earlier.2)
    (entries_around shape rules w step ends.0.0 c o (last_of_end rules shape w step c ends.0 stops) ends.0 enters inside)

-- The route has come to such an end, and the step has gone on from there so.
pub record IsNextBy (m : DraftMachine) (course : Course) (w : Route) (x : Arrival) (c : VertexId) (r : RegionId) : Type 0 where
  pub come : HasComeTo m course w c r
  pub comes : IsComingIn m x r
  pub item : Item
  pub at : IsItemAt m c item
  pub brought : HasBrought course item x

-- how the step comes to stand so
pub data Stems (m : DraftMachine) (course : Course) : Arrival → Type 0 where
  fires : {p : Route} → FiresBy course.head p → Stems m course (Along p)
  opens : {x : Arrival} {r : RegionId} {mode : Mode} → IsOpenedBy m course x r mode → Stems m course x
  goes_on : {w : Route} {x : Arrival} {c : VertexId} {r : RegionId} → Stems m course (Along w) → IsNextBy m course w x c r → Stems m course x

-- An item has brought the arrival, which begins in the region.
abbrev pub ComesWithin : DraftMachine → Course → Arrival → RegionId → Type 0
ComesWithin m course x r = IsComingIn m x r × ((item : Item) × HasBrought course item x)

-- The arrival begins in a region that the step opens, or of a choice or history to which a route has come.
abbrev pub IsNewIn : DraftMachine → Course → Arrival → Type 0
IsNewIn m course x =
    ((r : RegionId) × (mode : Mode) × IsOpenedFor m course r mode × IsComingIn m x r)
    ⊎ ((w : Route) × (c : VertexId) × (r : RegionId) × HasComeTo m course w c r × IsComingIn m x r)

-- what has run is the one more item, or had run before
either_ran : (course : Course) (item : Item) (how : How) (x : Item × How) → Contains (gone_on course item how).ran x
    → Contains course.ran x ⊎ (x ≡ (item, how))
either_ran course item how x h =
    ⊎_elim (λ was. inl was) (λ last. inr (is_one (item, how) x last)) (Contains-append_cases course.ran ((item, how) ∷ []) x h)

-- one more item keeps this
module _ (m : DraftMachine) (course : Course) (item : Item) (how : How) where
  brought_more : (x : Arrival) (y : Item) → HasBrought course y x → HasBrought (gone_on course item how) y x
  brought_more x y h = (ran_kept course item how (y, how_of x) h.0, h.1)

  opened_more : (x : Arrival) (r : RegionId) (mode : Mode) → IsOpenedBy m course x r mode → IsOpenedBy m (gone_on course item how) x r mode
  opened_more x r mode h = (opened_kept course item how m r mode h.0, h.1, brought_more x (items.Opened r mode) h.2)

  come_more : (w : Route) (c : VertexId) (r : RegionId) → HasComeTo m course w c r → HasComeTo m (gone_on course item how) w c r
  come_more w c r h = record {
    goes = goes_kept course item how w h.goes;
    ends = h.ends;
    home = h.home;
    effects = λ t up. (run_more course item how (items.Effect t)).1 (inl (h.effects t up));
    entries = λ a s up enters. (run_more course item how (items.Enter s)).1 (inl (h.entries a s up enters));
  }

  next_more : (w : Route) (x : Arrival) (c : VertexId) (r : RegionId) → IsNextBy m course w x c r → IsNextBy m (gone_on course item how) w x c r
  next_more w x c r h = record {
    come = come_more w c r h.come;
    comes = h.comes;
    item = h.item;
    at = h.at;
    brought = brought_more x h.item h.brought;
  }

  stems_more : (x : Arrival) → Stems m course x → Stems m (gone_on course item how) x
  stems_more _ (fires h) = fires h
  stems_more x (opens {r = r} {mode = mode} h) = opens (opened_more x r mode h)
  stems_more x (goes_on {w = w} {c = c} {r = r} before h) = goes_on (stems_more (Along w) before) (next_more w x c r h)

  -- the step comes so by the one more item, or came so before
  pub arrives_more : (x : Arrival) → Arrives (gone_on course item how) x → Arrives course x ⊎ ((how ≡ how_of x) × IsBroughtBy x item)
  arrives_more (Along p) h = ⊎_elim (λ was. inl was) (λ is. inr (is, tt)) ((over_more course item how p).0 h)
  arrives_more (Back r mode s) h =
      ⊎_elim
      (λ was. inl was)
      (λ is. inr (sym (ap (λ (y : Item × How). y.1) is), sym (ap (λ (y : Item × How). y.0) is)))
      (either_ran course item how (items.Opened r mode, Restore s) h)

  pub brought_was : (x : Arrival) (y : Item) → HasBrought (gone_on course item how) y x
      → HasBrought course y x ⊎ ((how ≡ how_of x) × IsBroughtBy x item)
  brought_was x y h =
      ⊎_elim
      (λ was. inl (was, h.1))
      (λ is. inr (sym (ap (λ (z : Item × How). z.1) is), subst (λ z. IsBroughtBy x z) (ap (λ (z : Item × How). z.0) is) h.1))
      (either_ran course item how (y, how_of x) h.0)

  now_brought : (x : Arrival) (y : Item) → y ≡ item → how ≡ how_of x → IsBroughtBy x item → HasBrought (gone_on course item how) y x
  now_brought x y same is by = (
    subst (λ z. Contains (gone_on course item how).ran (z, how_of x)) (sym same)
        (subst (λ k. Contains (gone_on course item how).ran (item, k)) is (ran_now course item how)),
    subst (λ z. IsBroughtBy x z) (sym same) by,
  )

-- what a route calls at its end is one item
pub history_modes : (m : DraftMachine) (v : VertexId) (a b : Mode) → IsHistoryFor m v a → IsHistoryFor m v b → a ≡ b
history_modes m v Plain b h g = absurd h
history_modes m v Shallow Plain h g = absurd g
history_modes m v Shallow Shallow h g = refl
history_modes m v Shallow Deep h g = let clash = kind_unique m v kinds.ShallowHistory kinds.DeepHistory h g in absurd (cc)
history_modes m v Deep Plain h g = absurd g
history_modes m v Deep Shallow h g = let clash = kind_unique m v kinds.DeepHistory kinds.ShallowHistory h g in absurd (cc)
history_modes m v Deep Deep h g = refl

pub history_is_no_choice : (m : DraftMachine) (v : VertexId) (a : Mode) → IsHistoryFor m v a → HasKind m v kinds.Choice → ⊥
history_is_no_choice m v Plain h g = h
history_is_no_choice m v Shallow h g = let clash = kind_unique m v kinds.ShallowHistory kinds.Choice h g in cc
history_is_no_choice m v Deep h g = let clash = kind_unique m v kinds.DeepHistory kinds.Choice h g in cc

pub go_on_history : (m : DraftMachine) (v : VertexId) (a : Mode) → IsHistoryFor m v a → IsGoOn m v
go_on_history m v Plain h = absurd h
go_on_history m v Shallow h = inr (inl h)
go_on_history m v Deep h = inr (inr h)

-- one item is that by which a step goes on from a vertex
pub one_at_end : (m : DraftMachine) (v : VertexId) (x y : Item) → IsItemAt m v x → IsItemAt m v y → x ≡ y
one_at_end m v (items.Pick c) (items.Pick d) h g = ap items.Pick (sym h.0 ∙ g.0)
one_at_end m v (items.Pick c) (items.Opened r a) h g =
    absurd (history_is_no_choice m c a (subst (λ x. IsHistoryFor m x a) h.0 g.0) h.1)
one_at_end m v (items.Pick c) (items.Exit s) h g = absurd g
one_at_end m v (items.Pick c) (items.Effect t) h g = absurd g
one_at_end m v (items.Pick c) (items.Enter s) h g = absurd g
one_at_end m v (items.Opened r a) (items.Pick c) h g =
    absurd (history_is_no_choice m c a (subst (λ x. IsHistoryFor m x a) g.0 h.0) g.1)
one_at_end m v (items.Opened r a) (items.Opened q b) h g =
    let modes = history_modes m v a b h.0 g.0 in
    let homes = same_region_place r q (one_owner m (State v) (Region r) (Region q) h.1 g.1) in
    cc
one_at_end m v (items.Opened r a) (items.Exit s) h g = absurd g
one_at_end m v (items.Opened r a) (items.Effect t) h g = absurd g
one_at_end m v (items.Opened r a) (items.Enter s) h g = absurd g
one_at_end m v (items.Exit s) y h g = absurd h
one_at_end m v (items.Effect t) y h g = absurd h
one_at_end m v (items.Enter s) y h g = absurd h

-- the leg that ends on the vertex calls it
leg_ends_at : (m : DraftMachine) (p : Route) (a : TransId) (v : VertexId) (item : Item) → IsItemAt m v item → IsLastVertex m p a v → LegEnds m p a item
leg_ends_at m p a v (items.Pick c) at last = (subst (λ x. IsLastVertex m p a x) at.0 last, at.1)
leg_ends_at m p a v (items.Opened r Plain) at last = absurd at.0
leg_ends_at m p a v (items.Opened r Shallow) at last = (v, last, at.0, at.1)
leg_ends_at m p a v (items.Opened r Deep) at last = (v, last, at.0, at.1)
leg_ends_at m p a v (items.Exit s) at last = absurd at
leg_ends_at m p a v (items.Effect t) at last = absurd at
leg_ends_at m p a v (items.Enter s) at last = absurd at

module _ {m : DraftMachine} (shape : HasShape m) (rules : KeepsModelRules m) where
  -- a late route starts at its origin
  late_from : (truth : Truth) (v : VertexId) (p : Route) → IsLateRoute m truth v p → IsLateFrom m p v
  late_from truth v p late = (late.leaves.0, late.origin_is, late.route_is, late.leaves.1, late.leaves.2)

  -- The item opens the region, or picks a choice of it.
  abbrev pub IsItemIn : Item → RegionId → Type 0
  IsItemIn (items.Opened q mode) r = q ≡ r
  IsItemIn (items.Pick c) r = owner_of m (State c) ≡ Some (Region r)
  IsItemIn _ r = ⊥

  -- what an item brings begins in its region
  new_in : (truth : Truth) (memory : Memory) → ((r : RegionId) (s : VertexId) → memory r s → IsDirect m s r) → (item : Item) (how : How)
      → IsWay m truth memory item how → (x : Arrival) → how ≡ how_of x → IsBroughtBy x item → (r : RegionId) × IsComingIn m x r × IsItemIn item r
  new_in truth memory direct (items.Opened r mode) how way (Along p) e by =
      let at = opening_by m truth memory r mode how way p e in
      (r, (at.0, (late_from truth at.0 p at.1, ⊎_elim (λ initial. initial.1) (λ history. history.1.1) at.2)), refl)
  new_in truth memory direct (items.Opened r mode) how way (Back k was s) e by =
      let is = opening_restores m truth memory r mode how way s e in
      let same : k ≡ r = cc in
      (r, (same, direct r s is.0), refl)
  new_in truth memory direct (items.Pick c) how way (Along p) e by =
      let late = pick_by m truth memory c how way p e in
      let home = home_of_late shape c late.origin_is in
      (home.0, (c, (late_from truth c p late, home.1)), home.1)
  new_in truth memory direct (items.Pick c) how way (Back k was s) e by = let clash = by in absurd (cc)
  new_in truth memory direct (items.Exit s) how way (Along p) e by = let none = way in absurd (cc)
  new_in truth memory direct (items.Exit s) how way (Back k was q) e by = let none = way in absurd (cc)
  new_in truth memory direct (items.Effect t) how way (Along p) e by = let none = way in absurd (cc)
  new_in truth memory direct (items.Effect t) how way (Back k was q) e by = let none = way in absurd (cc)
  new_in truth memory direct (items.Enter s) how way (Along p) e by = let none = way in absurd (cc)
  new_in truth memory direct (items.Enter s) how way (Back k was q) e by = let none = way in absurd (cc)

  module _ (head : Head) (now : Configuration) where
    -- a ready item is called
    pub called_ready : (ran : List (Item × How)) → HasGone m head now ran → (item : Item) → IsReady m (course_by head now ran) item
        → IsCalledOver m (course_by head now ran) item
    called_ready ran gone item ready =
        called_is rules shape (course_by head now ran) (gone_by_routes rules shape head now ran gone) item ready.waiting.called

    -- what has run was called
    pub ran_was_called : (ran : List (Item × How)) → HasGone m head now ran
        → (x : Item) → HasRun (course_by head now ran) x → IsCalledOver m (course_by head now ran) x
    ran_was_called _ (gone_begun all) x h = absurd (nothing_ran head now x h)
    ran_was_called _ (gone_more {ran = ran} item how before ready truth way) x h =
        let course = course_by head now ran in
        called_kept course item how m x (⊎_elim
        (λ was. ran_was_called ran before x was)
        (λ is. subst (λ y. IsCalledOver m course y) (sym is) (called_ready ran before item ready))
        ((run_more course item how x).0 h))

    -- and runs in one way
    pub ran_once : (ran : List (Item × How)) → HasGone m head now ran → (x : Item) (first second : How) → Contains ran (x, first)
        → Contains ran (x, second) → first ≡ second
    ran_once _ (gone_begun all) x first second a b = absurd (nothing_in_nil (x, first) a)
    ran_once _ (gone_more {ran = ran} item how before ready truth way) x first second a b =
        let course = course_by head now ran in
        let again = λ (k : How) (was : Contains ran (x, k)) (same : x ≡ item). ready.waiting.not_run (k, subst (λ y. Contains ran (y, k)) same was) in
        ⊎_elim
        (λ was. ⊎_elim
        (λ too. ran_once ran before x first second was too)
        (λ is. absurd (again first was (ap (λ y. y.0) is)))
        (either_ran course item how (x, second) b))
        (λ is. ⊎_elim
        (λ was. absurd (again second was (ap (λ y. y.0) is)))
        (λ too. ap (λ y. y.1) is ∙ sym (ap (λ y. y.1) too))
        (either_ran course item how (x, second) b))
        (either_ran course item how (x, first) a)

    -- so an item brings one arrival
    same_way : (x y : Arrival) (item : Item) → how_of x ≡ how_of y → IsBroughtBy x item → IsBroughtBy y item → x ≡ y
    same_way (Along p) (Along q) item e a b = let same : p ≡ q = cc in ap Along same
    same_way (Along p) (Back r mode s) item e a b = absurd (cc)
    same_way (Back r mode s) (Along p) item e a b = absurd (cc)
    same_way (Back r mode s) (Back k was q) item e a b = let first = a in let second = b in cc

    pub one_brought : (ran : List (Item × How)) → HasGone m head now ran → (i j : Item) (x y : Arrival) → i ≡ j
        → HasBrought (course_by head now ran) i x → HasBrought (course_by head now ran) j y → x ≡ y
    one_brought ran gone i j x y same a b =
        let first = subst (λ k. HasBrought (course_by head now ran) k x) same a in
        same_way x y j (ran_once ran gone j (how_of x) (how_of y) first.0 b.0) first.1 b.1

    -- each route by which it goes fires, or starts late
    pub fires_or_late : (ran : List (Item × How)) → HasGone m head now ran → (p : Route) → GoesBy (course_by head now ran) p
        → FiresBy head p ⊎ ((v : VertexId) × IsLateFrom m p v)
    fires_or_late _ (gone_begun all) p over = inl (begins_by head now p over)
    fires_or_late _ (gone_more {ran = ran} item how before ready truth way) p over =
        let course = course_by head now ran in
        ⊎_elim
        (λ was. fires_or_late ran before p was)
        (λ is. (let late = way_is_late m truth (RemembersSoFar m course) item how way p is in inr (late.0, late_from truth late.0 p late.1)))
        ((over_more course item how p).0 over)

    pub step_route : (ran : List (Item × How)) → HasGone m head now ran → (p : Route) → GoesBy (course_by head now ran) p → IsStepRoute m p
    step_route ran gone p over =
        ⊎_elim
        (λ is. inl (fires_states rules shape head now ran gone p is))
        (λ late. late_is_within m p late.0 late.1)
        (fires_or_late ran gone p over)

    -- and one that leaves a State fires
    pub fires_from_state : (ran : List (Item × How)) → HasGone m head now ran → (p : Route) (s : VertexId) → GoesBy (course_by head now ran) p
        → IsSource m p s → HasKind m s kinds.State → FiresBy head p
    fires_from_state ran gone p s over source state =
        ⊎_elim
        (λ is. is)
        (λ late. (
        let from = late.1 in
        let same = is_one from.0 source.0 (subst (λ ts. Contains ts source.0) from.3 source.1) in
        let here = leaves_one m from.0 s late.0 (subst (λ t. Leaves m t s) same source.2) from.4 in
        absurd (late_is_kind m late.0 kinds.State from.1 (subst (λ x. HasKind m x kinds.State) here state))
        ))
        (fires_or_late ran gone p over)

    -- where an item is ready by which a step goes on from an end of a route, the route has come to it
    come_to : (ran : List (Item × How)) → HasGone m head now ran → (item : Item) → IsReady m (course_by head now ran) item
        → (w : Route) (c : VertexId) (r : RegionId) → GoesBy (course_by head now ran) w → EndsLate m w c
        → owner_of m (State c) ≡ Some (Region r) → IsItemAt m c item → HasComeTo m (course_by head now ran) w c r
    come_to ran gone item ready w c r goes ends home at =
        let course = course_by head now ran in
        let g = gone_by_routes rules shape head now ran gone in
        let step = step_route ran gone w goes in
        let e = ends.0.0 in
        let e_on = ends.0.1 in
        let stops = λ (k : HasKind m c kinds.Junction). (
        let wrong : ⊥ = go_on_is_no m c kinds.Junction (λ clash. cc) (λ clash. cc) (λ clash. cc) ends.1 k in wrong) in
        let calls = leg_ends_at m w e c item at (last_of_end rules shape w step c ends.0 stops) in
        record {
          goes = goes;
          ends = ends;
          home = home;
          effects = λ t up. (
              let on : On w t = ⊎_elim (λ leg. leg_begins m w leg) (λ more. later_begins_on m w t e more) up in
              let before : Before m course (items.Effect t) item =
              ⊎_elim
              (λ leg. effect_end (leg_at w e) (goes, e_on) tt (leg_turned m w leg) (inl calls))
              (λ more. later (leg_at w t) e (goes, on) more (itself_leg on) (inr (inl calls)))
              up in
              ready.cleared (items.Effect t) (called_in rules shape course g (leg_at w t) (goes, on) (items.Effect t) (itself_leg on)) before);
          entries = λ a s up enters. (
              let on : On w a = leg_begins m w enters.1.1 in
              let before : Before m course (items.Enter s) item =
              ⊎_elim
              (λ leg. enter_end (leg_at w e) (goes, e_on) tt (enters_turned shape rules w step a e s leg enters) calls)
              (λ more. later (leg_at w a) e (goes, on) more enters (inr (inl calls)))
              up in
              ready.cleared (items.Enter s) (called_in rules shape course g (leg_at w a) (goes, on) (items.Enter s) enters) before);
        }

    -- what a ready item brings
    new_called : (ran : List (Item × How)) → HasGone m head now ran → (item : Item) → IsReady m (course_by head now ran) item
        → IsCalledOver m (course_by head now ran) item → (x : Arrival)
        → (r : RegionId) × IsComingIn m x r × IsItemIn item r → IsNewIn m (course_by head now ran) x
    new_called ran gone (items.Opened q mode) ready called x new =
        let comes = subst (λ r. IsComingIn m x r) (sym new.2) new.1 in
        ⊎_elim
        (λ opened. inl (q, mode, opened, comes))
        (λ over. (
        let at = over.1.1 in
        let come = come_to ran gone (items.Opened q mode) ready over.0 at.0 q over.1.0 (at.1, go_on_history m at.0 mode at.2) at.3 (at.2, at.3) in
        inr (over.0, at.0, q, come, comes)
        ))
        called
    new_called ran gone (items.Pick c) ready called x new =
        let over = called.1 in
        let come = come_to ran gone (items.Pick c) ready called.0 c new.0 over.0 (over.1.0, inl over.1.1) new.2 (refl, over.1.1) in
        inr (called.0, c, new.0, come, new.1)
    new_called ran gone (items.Exit s) ready called x new = absurd new.2
    new_called ran gone (items.Effect t) ready called x new = absurd new.2
    new_called ran gone (items.Enter s) ready called x new = absurd new.2

    module _ (begins : BeginsWell m head now) where
      -- what is remembered is direct
      remembered_direct : (ran : List (Item × How)) (r : RegionId) (s : VertexId) → RemembersSoFar m (course_by head now ran) r s → IsDirect m s r
      remembered_direct ran r s h = ⊎_elim (λ exited. exited.4) (λ was. begins.remembers r s was.0) h

      -- what a ready item brings
      pub newly : (ran : List (Item × How)) (item : Item) (how : How) → HasGone m head now ran → IsReady m (course_by head now ran) item
          → (truth : Truth) → IsWay m truth (RemembersSoFar m (course_by head now ran)) item how → (x : Arrival) → how ≡ how_of x
          → IsBroughtBy x item → IsNewIn m (course_by head now ran) x
      newly ran item how gone ready truth way x is by =
          let course = course_by head now ran in
          new_called ran gone item ready (called_ready ran gone item ready) x
          (new_in truth (RemembersSoFar m course) (remembered_direct ran) item how way x is by)

      -- what the item that runs brings
      newly_next : (ran : List (Item × How)) (item : Item) (how : How) → HasGone m head now ran → IsReady m (course_by head now ran) item
          → (x : Arrival) → how ≡ how_of x → IsBroughtBy x item → (w : Route) (c : VertexId) (r : RegionId) → GoesBy (course_by head now ran) w
          → EndsLate m w c → owner_of m (State c) ≡ Some (Region r) → IsItemAt m c item → IsComingIn m x r
          → IsNextBy m (gone_on (course_by head now ran) item how) w x c r
      newly_next ran item how before ready x is by w c r goes ends home at comes =
          let course = course_by head now ran in
          record {
            come = come_more m course item how w c r (come_to ran before item ready w c r goes ends home at);
            comes = comes;
            item = item;
            at = at;
            brought = now_brought m course item how x item refl is by;
          }

      abbrev AllStem : List (Item × How) → Type 0
      AllStem ran = (x : Arrival) → Arrives (course_by head now ran) x → Stems m (course_by head now ran) x

      opened_now : (ran : List (Item × How)) (r : RegionId) (mode : Mode) (how : How) (before : HasGone m head now ran)
          → IsReady m (course_by head now ran) (items.Opened r mode) → AllStem ran → (x : Arrival) → how ≡ how_of x → IsBroughtBy x (items.Opened r mode)
          → IsComingIn m x r → IsCalledOver m (course_by head now ran) (items.Opened r mode)
          → Stems m (gone_on (course_by head now ran) (items.Opened r mode) how) x
      opened_now ran r mode how before ready all x is by comes called =
          let course = course_by head now ran in
          let item = items.Opened r mode in
          ⊎_elim
          (λ opened. opens (opened_kept course item how m r mode opened, comes, now_brought m course item how x item refl is by))
          (λ over. (
          let w = over.0 in
          let at = over.1.1 in
          goes_on (stems_more m course item how (Along w) (all (Along w) over.1.0))
          (newly_next ran item how before ready x is by w at.0 r over.1.0 (at.1, go_on_history m at.0 mode at.2) at.3 (at.2, at.3) comes)
          ))
          called

      picked_now : (ran : List (Item × How)) (c : VertexId) (how : How) (before : HasGone m head now ran)
          → IsReady m (course_by head now ran) (items.Pick c) → AllStem ran → (x : Arrival) → how ≡ how_of x → IsBroughtBy x (items.Pick c)
          → (r : RegionId) → IsComingIn m x r → owner_of m (State c) ≡ Some (Region r) → IsCalledOver m (course_by head now ran) (items.Pick c)
          → Stems m (gone_on (course_by head now ran) (items.Pick c) how) x
      picked_now ran c how before ready all x is by r comes home called =
          let course = course_by head now ran in
          let item = items.Pick c in
          let w = called.0 in
          let ends = called.1.1 in
          goes_on (stems_more m course item how (Along w) (all (Along w) called.1.0))
          (newly_next ran item how before ready x is by w c r called.1.0 (ends.0, inl ends.1) home (refl, ends.1) comes)

      new_stems : (ran : List (Item × How)) (item : Item) (how : How) (before : HasGone m head now ran)
          → IsReady m (course_by head now ran) item → AllStem ran → (x : Arrival) → how ≡ how_of x → IsBroughtBy x item
          → (r : RegionId) × IsComingIn m x r × IsItemIn item r → Stems m (gone_on (course_by head now ran) item how) x
      new_stems ran (items.Opened q mode) how before ready all x is by new =
          opened_now ran q mode how before ready all x is by (subst (λ r. IsComingIn m x r) (sym new.2) new.1)
          (called_ready ran before (items.Opened q mode) ready)
      new_stems ran (items.Pick c) how before ready all x is by new =
          picked_now ran c how before ready all x is by new.0 new.1 new.2 (called_ready ran before (items.Pick c) ready)
      new_stems ran (items.Exit s) how before ready all x is by new = absurd new.2
      new_stems ran (items.Effect t) how before ready all x is by new = absurd new.2
      new_stems ran (items.Enter s) how before ready all x is by new = absurd new.2

      first_stems : (x : Arrival) → Arrives (course_by head now []) x → Stems m (course_by head now []) x
      first_stems (Along p) over = fires (begins_by head now p over)
      first_stems (Back r mode s) h = absurd (nothing_in_nil (items.Opened r mode, Restore s) h)

      -- each arrival of a step stems from what fires or opens
      pub stems : (ran : List (Item × How)) → HasGone m head now ran → (x : Arrival) → Arrives (course_by head now ran) x
          → Stems m (course_by head now ran) x
      stems _ (gone_begun all) x h = first_stems x h
      stems _ (gone_more {ran = ran} item how before ready truth way) x h =
          let course = course_by head now ran in
          ⊎_elim
          (λ was. stems_more m course item how x (stems ran before x was))
          (λ is. new_stems ran item how before ready (stems ran before) x is.0 is.1
          (new_in truth (RemembersSoFar m course) (remembered_direct ran) item how way x is.0 is.1))
          (arrives_more m course item how x h)

      -- so it fires, or begins in a region
      pub fires_or_comes : (ran : List (Item × How)) → HasGone m head now ran → (x : Arrival) → Arrives (course_by head now ran) x
          → IsFiring head x ⊎ ((r : RegionId) × ComesWithin m (course_by head now ran) x r)
      fires_or_comes ran gone x h = by x (stems ran gone x h)
        where
          by : (y : Arrival) → Stems m (course_by head now ran) y → IsFiring head y ⊎ ((r : RegionId) × ComesWithin m (course_by head now ran) y r)
          by _ (fires is) = inl is
          by y (opens {r = r} {mode = mode} is) = inr (r, (is.1, (items.Opened r mode, is.2)))
          by y (goes_on {r = r} before is) = inr (r, (is.comes, (is.item, is.brought)))

      pub proper : (ran : List (Item × How)) → HasGone m head now ran → (x : Arrival) → Arrives (course_by head now ran) x → IsProper m x
      proper ran gone (Along p) h = step_route ran gone p h
      proper ran gone (Back r mode s) h =
          ⊎_elim
          (λ none. absurd none)
          (λ comes. comes_proper shape rules (Back r mode s) comes.0 comes.1.0)
          (fires_or_comes ran gone (Back r mode s) h)
