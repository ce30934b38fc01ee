-- An exit, effect or entry that waits is called by one leg of one route, or by one restoring; and what is entered in a State whose entry waits comes with it.
use Rattle.std.proofs.Common.{List, [], Some, ◌≡◌, Contains, refl, sym, subst, inl, inr, ⊎_elim}
use Rattle.std.proofs.lemmas.List.Elements.{Contains-append_cases}
use Rattle.pssm_model.specs.declared.ids.VertexId.{VertexId}
use Rattle.pssm_model.specs.declared.ids.RegionId.{RegionId}
use Rattle.pssm_model.specs.declared.ids.TransId.{TransId}
use Rattle.pssm_model.specs.declared.elements.DraftMachine.{DraftMachine}
use Rattle.pssm_model.specs.declared.elements.VertexKind.TheVariants as kinds
use Rattle.pssm_model.specs.declared.elements.Owner.TheVariants.{Top, Region, State}
use Rattle.pssm_model.specs.declared.elements.TransKind.TheVariants.{Internal}
use Rattle.pssm_model.specs.declared.steps.Route.{Route}
use Rattle.pssm_model.specs.declared.steps.Mode.{Mode}
use Rattle.pssm_model.specs.declared.steps.How.{How}
use Rattle.pssm_model.specs.declared.steps.How.TheVariants.{Restore}
use Rattle.pssm_model.specs.declared.steps.Item.{Item}
use Rattle.pssm_model.specs.declared.steps.Item.TheVariants as items
use Rattle.pssm_model.specs.Forest.{HasKind, owner_of, LiesUnder, LiesInRegion, LiesInState}
use Rattle.pssm_model.specs.Forest.LiesUnder.{owned}
use Rattle.pssm_model.specs.Legs.{Leaves, Enters, On, SameLeg, Scope}
use Rattle.pssm_model.specs.Legs.Scope.{Inside, Within}
use Rattle.pssm_model.specs.Shapes.{HasShape}
use Rattle.pssm_model.specs.WellFormed.{KeepsModelRules}
use Rattle.pssm_model.specs.Configuration.{Configuration}
use Rattle.pssm_model.specs.Course.{Head, Course, Leg, IsLeg, FiresBy, HasRun}
use Rattle.pssm_model.specs.Items.{CanExit, LegCalls, IsCalledInLeg, Before}
use Rattle.pssm_model.specs.Items.Before.{outer_enter}
use Rattle.pssm_model.specs.Order.{HasGone, course_by}
use Rattle.pssm_model.specs.Order.HasGone.{begun as gone_begun, more as gone_more}
use Rattle.pssm_model.specs.Routes.{IsStateRoute}
use Rattle.pssm_model.specs.RouteWords.{IsStepRoute}
use Rattle.pssm_model_laws.specs.inner.RouteWords.{GoesAs, IsAreaOf, EndsOn}
use Rattle.pssm_plan.specs.Steadiness.{BeginsWell}
use Rattle.pssm_plan.specs.inner.OverRoutes.{LiesInArea, GoesBy, OpensAfterEntry, IsOpenedOver, IsOpenedFor, IsCalledOver}
use Rattle.pssm_model.proofs.ElementLaws.{leaves_one, nothing_in_nil}
use Rattle.pssm_model.proofs.RouteLaws.{is_one}
use Rattle.pssm_model.proofs.OwnerChains.{top_lies_nowhere}
use Rattle.pssm_model.proofs.Nesting.{under_cases, lies_within}
use Rattle.pssm_model_laws.proofs.RegionChains.{on_one_chain}
use Rattle.pssm_model_laws.proofs.InnerPaths.{late_is_kind}
use Rattle.pssm_model_laws.proofs.Branches.{Along as LeadsAlong, along_ends}
use Rattle.pssm_model_laws.proofs.EndsApart.{step_is_route, one_way_in}
use Rattle.pssm_model_laws.proofs.LateStays.{meets_stays}
use Rattle.pssm_model_laws.proofs.LegRoots.{leg_ends, along_leg}
use Rattle.pssm_model_laws.proofs.UpAndDown.{source_of, target_of, some_end}
use Rattle.pssm_model_laws.proofs.RouteKinds.{state_start, inner_source, internal_alone}
use Rattle.pssm_model_laws.proofs.RouteAreas.{has_area}
use Rattle.pssm_plan.proofs.OnceCalled.{once}
use Rattle.pssm_plan.proofs.RouteItems.{exit_is, enter_is, called_of}
use Rattle.pssm_plan.proofs.RouteMore.{goes_kept}
use Rattle.pssm_plan.proofs.RouteSteps.{gone_by_routes}
use Rattle.pssm_plan.proofs.MoreRan.{gone_on, nothing_ran, begins_by, ran_kept, run_more}
use Rattle.pssm_plan.proofs.SteadyPlaces.{IsPlaceIn, go_on_is_no, same_state, home_of_state, home_above, under_state, in_or_around}
use Rattle.pssm_plan.proofs.RoutePlaces.{IsLateIn, late_is_area, late_ends, target_in_area, late_end_in_area}
use Rattle.pssm_plan.proofs.Arrivals.{Arrival, Arrives, EntersBy, FillsBy, IsPlace, IsProper, IsComingIn, along_same, enterer_of, entered_is_state, entered_in_place, entered_fill, enters_around, comes_area}
use Rattle.pssm_plan.proofs.Arrivals.Arrival.{Along, Back}
use Rattle.pssm_plan.proofs.SteadyApart.{IsFired, IsFiredAround, known_route, one_around, one_from, place_stays}
use Rattle.pssm_plan.proofs.SteadyStems.{IsUpTo, ComesWithin, HasComeTo, IsNextBy, IsNewIn, come_entered, arrives_more, called_ready, fires_or_comes, newly, proper, step_route}
use Rattle.pssm_plan.proofs.SteadyChains.{Continues, IsOver, first_step, chain_comes, alone_here, enters_once}
use Rattle.pssm_plan.proofs.SteadyItems.{IsFiredOver, StartsOr, starts_at, not_starting, around_of, is_fired, beside_fires, late_fired, inside_fired}
use Rattle.pssm_plan.proofs.SteadyFilling.{one_fills}

-- what an arrival enters is called as entered
entry_called : (m : DraftMachine) (course : Course) (x : Arrival) (s : VertexId) → Arrives course x → EntersBy m x s → IsCalledOver m course (items.Enter s)
entry_called m course (Along p) s came enters = inl (p, (came, enters))
entry_called m course (Back r mode q) s came enters =
    inr (mode, (r, subst (λ v. Contains course.ran (items.Opened r mode, Restore v)) enters came))

-- what has come stays
arrives_kept : (course : Course) (item : Item) (how : How) (x : Arrival) → Arrives course x → Arrives (gone_on course item how) x
arrives_kept course item how (Along p) came = goes_kept course item how p came
arrives_kept course item how (Back r mode s) came = ran_kept course item how (items.Opened r mode, Restore s) came

-- An arrival enters the State, and what else it enters around that has been entered.
abbrev EnteredFirst : DraftMachine → Course → VertexId → Type 0
EnteredFirst m course o =
    (x : Arrival) × Arrives course x × EntersBy m x o
    × ((s : VertexId) → LiesInState m o s → EntersBy m x s → HasRun course (items.Enter s))

module _ {m : DraftMachine} (shape : HasShape m) (rules : KeepsModelRules m) (head : Head) (now : Configuration)
    (begins : BeginsWell m head now) where
  -- where the entry of a State has run
  entered_first : (ran : List (Item × How)) → HasGone m head now ran → (o : VertexId) → HasRun (course_by head now ran) (items.Enter o)
      → EnteredFirst m (course_by head now ran) o
  entered_first _ (gone_begun all) o h = absurd (nothing_ran head now (items.Enter o) h)
  entered_first _ (gone_more {ran = ran} item how before ready truth way) o h =
      let course = course_by head now ran in
      let g = gone_by_routes rules shape head now ran before in
      ⊎_elim
      (λ was. (
      let at = entered_first ran before o was in
      (at.0, arrives_kept course item how at.0 at.1, at.2, λ s inside enters. (run_more course item how (items.Enter s)).1 (inl (at.3 s inside enters)))
      ))
      (λ same. (
      let over = enterer_of m course o (subst (λ x. IsCalledOver m course x) (sym same) (called_ready shape rules head now ran before item ready)) in (
        over.0,
        arrives_kept course item how over.0 over.1,
        over.2,
        λ s inside enters. (run_more course item how (items.Enter s)).1 (inl (
            ready.cleared (items.Enter s) (called_of rules shape course g (items.Enter s) (entry_called m course over.0 s over.1 enters))
            (subst (λ x. Before m course (items.Enter s) x) same (outer_enter inside)))),
      )
      ))
      ((run_more course item how (items.Enter o)).0 h)

  -- A State lies where something fires, or the step is a start; while its entry has not run, nothing exits and enters in it alone.
  module _ (s : VertexId) (around : StartsOr head ((z : Route) × IsFiredAround m head s z)) where
    fired_not_inside : (p : Route) (area : Scope) → IsFired m head p → IsAreaOf m p area → IsPlaceIn m area s → ⊥
    fired_not_inside p area fires is inside =
        let z = not_starting head p fires.0 around in
        place_stays shape rules head now begins p z.0 s area fires is inside z.1

    inside_of : (o : VertexId) (h : RegionId) → owner_of m (State o) ≡ Some (Region h) → LiesUnder m (State o) (State s) → LiesInState m o s
    inside_of o h e under =
        let further_up : LiesUnder m (Region h) (State s) =
        ⊎_elim (λ clash. absurd (cc)) (λ more. more) (under_cases m (State o) (Region h) (State s) e under) in
        let up = under_state shape h s further_up in
        (up.0, up.1, lies_within m o h up.0 (owned e) up.2)

    abbrev NoneInside : List (Item × How) → Type 0
    NoneInside ran = (y : Arrival) → Arrives (course_by head now ran) y → (area : Scope) → IsPlace m y area → IsPlaceIn m area s → ⊥

    module _ (ran : List (Item × How)) (gone : HasGone m head now ran) (not : HasRun (course_by head now ran) (items.Enter s) → ⊥)
        (none : NoneInside ran) where
      -- an arrival that enters something in it enters it too, or exits and enters in it alone
      none_by : (x : Arrival) (o : VertexId) → Arrives (course_by head now ran) x → EntersBy m x o → LiesInState m o s
          → (EntersBy m x s → HasRun (course_by head now ran) (items.Enter s)) → ⊥
      none_by x o came enters inside run =
          let is = proper shape rules head now begins ran gone x came in
          let place = entered_in_place shape rules x o is enters in
          ⊎_elim
          (λ inner. none x came place.0 place.1 inner)
          (λ outer. not (run (enters_around shape rules x o s is enters inside (place.0, place.1, outer))))
          (in_or_around m o s place.0 place.2 inside)

      not_after_entry : (o : VertexId) (k : RegionId) (mode : Mode) → OpensAfterEntry m (course_by head now ran) o k mode
          → LiesUnder m (Region k) (State s) → ⊥
      not_after_entry o k mode at under =
          ⊎_elim
          (λ same. not (subst (λ x. HasRun (course_by head now ran) (items.Enter x)) (same_state o s same) at.0))
          (λ more. (
          let home = home_of_state shape o (inl (shape.regions k (State o) at.1).0) in
          let inside = inside_of o home.0 home.1 more in
          let first = entered_first ran gone o at.0 in
          none_by first.0 o first.1 first.2 inside (λ enters. first.3 s inside enters)
          ))
          (under_cases m (Region k) (State o) (State s) at.1 under)

      not_beside : (p : Route) (k : RegionId) (mode : Mode) → IsOpenedOver m (course_by head now ran) p k mode → LiesUnder m (Region k) (State s) → ⊥
      not_beside p k mode beside under =
          let fires = beside_fires shape rules head now ran gone p k mode beside in
          let owner = beside.1.1 in
          let home = home_of_state shape owner.0 (inl (shape.regions k (State owner.0) owner.2).0) in
          fired_not_inside p (Inside owner.0) (is_fired shape rules head now ran gone p fires) (beside.1.0, owner.1)
          (⊎_elim
          (λ same. inl (same_state owner.0 s same))
          (λ more. inr (inside_of owner.0 home.0 home.1 more))
          (under_cases m (Region k) (State owner.0) (State s) owner.2 under))

      not_opened_inside : (k : RegionId) (mode : Mode) → IsOpenedFor m (course_by head now ran) k mode → LiesUnder m (Region k) (State s) → ⊥
      not_opened_inside k mode opened under =
          ⊎_elim
          (λ starts. ⊎_elim
          (λ clash. cc)
          (λ more. top_lies_nowhere (State s) more)
          (under_cases m (Region k) Top (State s) (starts_at m head k mode starts).1 under))
          (⊎_elim
          (λ at. not_after_entry at.0 k mode at.1 under)
          (λ beside. not_beside beside.0 k mode beside.1 under))
          opened

      not_ended_inside : (w : Route) (c : VertexId) (k : RegionId) → HasComeTo m (course_by head now ran) w c k → LiesUnder m (Region k) (State s) → ⊥
      not_ended_inside w c k come under =
          let up = under_state shape k s under in
          let inside : LiesInState m c s = (up.0, up.1, lies_within m c k up.0 (owned come.home) up.2) in
          let step = step_route shape rules head now ran gone w come.goes in
          let area = late_end_in_area shape rules w step c come.ends in
          ⊎_elim
          (λ inner. none (Along w) come.goes area.0 area.1 inner)
          (λ outer. not (come_entered shape rules (course_by head now ran) w c k s step come inside (area.0, area.1, outer)))
          (in_or_around m c s area.0 area.2 inside)

      none_new : (y : Arrival) (area : Scope) → IsNewIn m (course_by head now ran) y → IsPlace m y area → IsPlaceIn m area s → ⊥
      none_new y area new is inside =
          ⊎_elim
          (λ opened. not_opened_inside opened.0 opened.1 opened.2
          (subst (λ a. IsPlaceIn m a s) (comes_area shape rules y opened.0 area opened.3 is) inside))
          (λ ended. not_ended_inside ended.0 ended.1 ended.2 ended.3
          (subst (λ a. IsPlaceIn m a s) (comes_area shape rules y ended.2 area ended.4 is) inside))
          new

    none_at_first : (all : (p : Route) → FiresBy head p → IsStateRoute m p) → NoneInside []
    none_at_first all (Along p) came area is inside = (let fires = begins_by head now p came in fired_not_inside p area (fires, all p fires) is inside)
    none_at_first all (Back r mode q) came area is inside = nothing_in_nil (items.Opened r mode, Restore q) came

    none_inside : (ran : List (Item × How)) → HasGone m head now ran → (HasRun (course_by head now ran) (items.Enter s) → ⊥) → NoneInside ran
    none_inside _ (gone_begun all) not y came area is inside = none_at_first all y came area is inside
    none_inside _ (gone_more {ran = ran} item how before ready truth way) not y came area is inside =
        let course = course_by head now ran in
        let not_yet = λ (h : HasRun course (items.Enter s)). not ((run_more course item how (items.Enter s)).1 (inl h)) in
        ⊎_elim
        (λ was. none_inside ran before not_yet y was area is inside)
        (λ now_is. none_new ran before not_yet (none_inside ran before not_yet) y area
        (newly shape rules head now begins ran item how before ready truth way y now_is.0 now_is.1) is inside)
        (arrives_more m course item how y came)

  module _ (ran : List (Item × How)) (gone : HasGone m head now ran) where
    taken : (x : Arrival) → Arrives (course_by head now ran) x → IsProper m x
    taken x came = proper shape rules head now begins ran gone x came

    taken_route : (p : Route) → GoesBy (course_by head now ran) p → IsStepRoute m p
    taken_route p goes = step_route shape rules head now ran gone p goes

    -- one arrival enters a State
    pub one_enterer : (x u : Arrival) (s : VertexId) → Arrives (course_by head now ran) x → Arrives (course_by head now ran) u → EntersBy m x s
        → EntersBy m u s → x ≡ u
    one_enterer x u s first second enters too =
        let home = home_of_state shape s (entered_is_state shape rules x s (taken x first) enters) in
        let above = home_above shape s home.0 home.1 in
        ⊎_elim
        (λ ahead. enters_once shape rules head now begins ran gone x u s first ahead enters too)
        (λ behind. sym (enters_once shape rules head now begins ran gone u x s second behind too enters))
        (one_fills shape rules head now begins ran gone home.0 above.0 above.1 x u first second
        (entered_fill shape rules x s home.0 (taken x first) home.1 enters)
        (entered_fill shape rules u s home.0 (taken u second) home.1 too))

    -- while its entry waits, what enters something in it enters it
    pub one_nest : (x y : Arrival) (s q : VertexId) → Arrives (course_by head now ran) x → Arrives (course_by head now ran) y → EntersBy m x s
        → (HasRun (course_by head now ran) (items.Enter s) → ⊥) → EntersBy m y q → LiesInState m q s → x ≡ y
    one_nest x y s q first second enters not inner inside =
        let is = taken y second in
        let place = entered_in_place shape rules y q is inner in
        ⊎_elim
        (λ alone. absurd (none_inside s (inside_fired shape rules head now begins ran gone x s first enters) ran gone not y second place.0 place.1 alone))
        (λ outer. one_enterer x y s first second enters (enters_around shape rules y q s is inner inside (place.0, place.1, outer)))
        (in_or_around m q s place.0 place.2 inside)

    -- an exit is called by one route
    pub one_exiter : (a b : Leg) (s : VertexId) → IsLeg (course_by head now ran) a → IsLeg (course_by head now ran) b
        → IsCalledInLeg m (course_by head now ran) a (items.Exit s) → IsCalledInLeg m (course_by head now ran) b (items.Exit s) → a.route ≡ b.route
    one_exiter a b s first second h k =
        let g = gone_by_routes rules shape head now ran gone in
        let mine = exit_is rules shape (course_by head now ran) g a first s h in
        let yours = exit_is rules shape (course_by head now ran) g b second s k in
        one_around shape rules head now begins s a.route b.route
        (is_fired shape rules head now ran gone a.route mine.0, mine.2)
        (is_fired shape rules head now ran gone b.route yours.0, yours.2)

    -- From the transition the route comes to an end.
    abbrev EndsAfter : Route → TransId → Type 0
    EndsAfter p t = (e : VertexId) × (ends : EndsOn m p e) × LeadsAlong m p t ends.0

    end_after : (p : Route) (t : TransId) → GoesBy (course_by head now ran) p → On p t → EndsAfter p t
    end_after p t goes on =
        let h = some_end shape rules p (taken_route p goes) t on in
        (h.at, (h.last, along_ends m p h.along, h.enters, h.ends), h.along)

    -- An effect has not run; of two routes that have it, neither goes on from an end of the other.
    module _ (t : TransId) (not : HasRun (course_by head now ran) (items.Effect t) → ⊥) where
      -- the route that begins in a region and has the transition as well: from there on the other stays in the region
      other_end_inside : (p q : Route) (v : VertexId) (k : RegionId) → GoesBy (course_by head now ran) p → GoesBy (course_by head now ran) q
          → IsLateIn m p k v → On p t → (e : EndsAfter q t) → LiesInRegion m e.0 k
      other_end_inside p q v k p_goes q_goes late p_on e =
          let x = target_of shape rules p (taken_route p p_goes) t p_on in
          let from = late.0 in
          meets_stays shape rules v from.1 k late.1 from.0 from.4 p from.2 from.3 q (step_is_route (taken_route q q_goes)) t t e.1.0 x.0 e.0
          p_on x.1 x.1 e.2 e.1.2

      chain_effect : (a b : Route) → GoesBy (course_by head now ran) a → GoesBy (course_by head now ran) b → On a t → On b t
          → Continues m (course_by head now ran) (Along a) (Along b) → a ≡ b
      chain_effect a b a_goes b_goes a_on b_on chain =
          ⊎_elim
          (λ same. along_same a b same)
          (λ next. (
          let at = chain_comes shape rules head now begins ran gone next.1 (Along b) next.3 next.5.comes next.6 in
          let step = taken_route a a_goes in
          let end = end_after a t a_goes a_on in
          let inside = lies_within m end.0 at.0 next.3 (other_end_inside b a at.1.0 at.0 b_goes a_goes at.1.1 b_on end) at.2 in
          let same = alone_here shape rules head now begins ran gone (Along a) (Along b) end.0 next end.1 inside in
          let by = subst (λ z. IsNextBy m (course_by head now ran) z next.1 next.2 next.3) (sym (along_same a next.0 next.4)) next.5 in
          let ends = by.come.ends in
          let no_join = λ (k : HasKind m next.2 kinds.Join). (
          let wrong : ⊥ = go_on_is_no m next.2 kinds.Join (λ clash. cc) (λ clash. cc) (λ clash. cc) ends.1 k in wrong) in
          let last = one_way_in shape rules a step next.2 end.1.0 ends.0.0 no_join end.1.1 ends.0.1
          (subst (λ v. Enters m end.1.0 v) (sym same) end.1.2) ends.0.2 in
          let up = subst (λ y. IsUpTo m a t y) last (along_leg shape rules a step end.2) in
          absurd (not (by.come.effects t up))
          ))
          (first_step (Along a) (Along b) chain)

      -- one that begins in a region, and another that exits and enters around that
      late_effect : (p q : Route) (k : RegionId) → GoesBy (course_by head now ran) p → GoesBy (course_by head now ran) q → IsComingIn m (Along p) k
          → On p t → On q t → IsOver m (Along q) k → p ≡ q
      late_effect p q k p_goes q_goes comes p_on q_on over =
          let v = comes.0 in
          let late = comes.1 in
          let mine = end_after p t p_goes p_on in
          let yours = end_after q t q_goes q_on in
          let p_fills : FillsBy m (Along p) k = (
            (mine.0, mine.1, late_ends shape rules p k v late mine.0 (mine.1.0, mine.1.1, inr mine.1.2)),
            (Within k, late_is_area shape rules p k v late, inl refl),
          ) in
          let q_fills : FillsBy m (Along q) k = ((yours.0, yours.1, other_end_inside p q v k p_goes q_goes late p_on yours), over) in
          let above = home_above shape v k late.1 in
          ⊎_elim
          (λ ahead. chain_effect p q p_goes q_goes p_on q_on ahead)
          (λ behind. sym (chain_effect q p q_goes p_goes q_on p_on behind))
          (one_fills shape rules head now begins ran gone k above.0 above.1 (Along p) (Along q) p_goes q_goes p_fills q_fills)

      two_late : (p q : Route) (k l : RegionId) → GoesBy (course_by head now ran) p → GoesBy (course_by head now ran) q → IsComingIn m (Along p) k
          → IsComingIn m (Along q) l → On p t → On q t → p ≡ q
      two_late p q k l p_goes q_goes comes other p_on q_on =
          let x = target_of shape rules p (taken_route p p_goes) t p_on in
          let x_in = late_ends shape rules p k comes.0 comes.1 x.0 (t, p_on, inr x.1) in
          let x_too = late_ends shape rules q l other.0 other.1 x.0 (t, q_on, inr x.1) in
          ⊎_elim
          (λ within. late_effect p q k p_goes q_goes comes p_on q_on (Within l, late_is_area shape rules q l other.0 other.1, within))
          (λ within. sym (late_effect q p l q_goes p_goes other q_on p_on (Within k, late_is_area shape rules p k comes.0 comes.1, within)))
          (on_one_chain m (State x.0) k l x_in x_too)

      -- what starts within a step leaves no State
      leaves_no_state : (p : Route) (k : RegionId) (s : VertexId) → GoesBy (course_by head now ran) p → IsComingIn m (Along p) k → On p t → Leaves m t s
          → HasKind m s kinds.State → ⊥
      leaves_no_state p k s goes comes on l state =
          let from = comes.1.0 in
          let start = state_start shape rules p (taken_route p goes) t s on l state in
          let same = is_one from.0 t (subst (λ ts. Contains ts t) from.3 start) in
          let here = leaves_one m from.0 s comes.0 (subst (λ u. Leaves m u s) same l) from.4 in
          late_is_kind m comes.0 kinds.State from.1 (subst (λ x. HasKind m x kinds.State) here state)

      late_and_fired : (p q : Route) (k : RegionId) → GoesBy (course_by head now ran) p → FiresBy head q → ComesWithin m (course_by head now ran) (Along p) k
          → On p t → On q t → p ≡ q
      late_and_fired p q k p_goes fires comes p_on q_on =
          let q_goes : GoesBy (course_by head now ran) q = inl fires in
          let step = taken_route q q_goes in
          let x = target_of shape rules q step t q_on in
          let x_in = late_ends shape rules p k comes.0.0 comes.0.1 x.0 (t, p_on, inr x.1) in
          let over = not_starting head q fires (late_fired shape rules head now begins ran gone (Along p) k comes) in
          let outward = λ (goes : GoesAs m q Internal). (
          let only = internal_alone shape rules q step goes.0 t goes.1 goes.2 q_on in
          let s = source_of shape rules q step t q_on in
          let state = inner_source shape rules q step goes.0 s.0 Internal goes.1 goes.2 (λ clash. cc) (subst (λ u. Leaves m u s.0) only s.1) in
          let wrong : ⊥ = leaves_no_state p k s.0 p_goes comes.0 p_on s.1 state in wrong) in
          let area = has_area shape rules q step in
          let here : IsFiredAround m head x.0 q =
          (is_fired shape rules head now ran gone q fires, (area.0, area.1, target_in_area shape rules q step x.0 area.0 t q_on x.1 outward area.1)) in
          let same = one_around shape rules head now begins x.0 over.0 q (around_of shape head x.0 k over.0 x_in over.1) here in
          let wide = subst (λ z. IsFiredOver m head k z) same over.1 in
          late_effect p q k p_goes q_goes comes.0 p_on q_on wide.1

      -- two that fire
      rest_in_area : (p : Route) (x : VertexId) → GoesBy (course_by head now ran) p → Contains p.rest t → On p t → Enters m t x → LiesInArea m p x
      rest_in_area p x goes inside on e =
          let step = taken_route p goes in
          let outward = λ (kind : GoesAs m p Internal). (
          let only = internal_alone shape rules p step kind.0 t kind.1 kind.2 on in
          let wrong : ⊥ = (step_is_route step).apart t (subst (λ u. Contains p.starts u) (sym only) kind.1) inside in wrong) in
          let area = has_area shape rules p step in
          (area.0, area.1, target_in_area shape rules p step x area.0 t on e outward area.1)

      start_of_both : (p q : Route) → IsFired m head p → IsFired m head q → Contains p.starts t → On p t → On q t → p ≡ q
      start_of_both p q first second start p_on q_on =
          let s = source_of shape rules p (inl first.1) t p_on in
          let state = first.1.1 s.0 (t, start, s.1) in
          let other = state_start shape rules q (inl second.1) t s.0 q_on s.1 state in
          ⊎_elim
          (λ same. same)
          (λ apart. absurd (one_from shape rules head now begins p q s.0 apart first second (t, start, s.1) (t, other, s.1)))
          (known_route p q)

      two_fired : (p q : Route) → FiresBy head p → FiresBy head q → On p t → On q t → p ≡ q
      two_fired p q p_fires q_fires p_on q_on =
          let first = is_fired shape rules head now ran gone p p_fires in
          let second = is_fired shape rules head now ran gone q q_fires in
          ⊎_elim
          (λ start. start_of_both p q first second start p_on q_on)
          (λ inside. ⊎_elim
          (λ start. sym (start_of_both q p second first start q_on p_on))
          (λ other. (
          let x = target_of shape rules p (inl first.1) t p_on in
          one_around shape rules head now begins x.0 p q
          (first, rest_in_area p x.0 (inl p_fires) inside p_on x.1)
          (second, rest_in_area q x.0 (inl q_fires) other q_on x.1)
          ))
          (Contains-append_cases q.starts q.rest t q_on))
          (Contains-append_cases p.starts p.rest t p_on)

      -- so one route by which the step goes has it
      pub one_effect : (p q : Route) → GoesBy (course_by head now ran) p → GoesBy (course_by head now ran) q → On p t → On q t → p ≡ q
      one_effect p q p_goes q_goes p_on q_on =
          ⊎_elim
          (λ p_fires. ⊎_elim
          (λ q_fires. two_fired p q p_fires q_fires p_on q_on)
          (λ comes. sym (late_and_fired q p comes.0 q_goes p_fires comes.1 q_on p_on))
          (fires_or_comes shape rules head now begins ran gone (Along q) q_goes))
          (λ comes. ⊎_elim
          (λ q_fires. late_and_fired p q comes.0 p_goes q_fires comes.1 p_on q_on)
          (λ other. two_late p q comes.0 other.0 p_goes q_goes comes.1.0 other.1.0 p_on q_on)
          (fires_or_comes shape rules head now begins ran gone (Along q) q_goes))
          (fires_or_comes shape rules head now begins ran gone (Along p) p_goes)

    -- one leg calls an exit, effect or entry that has not run
    one_route : (y : Item) (a b : Leg) → (HasRun (course_by head now ran) y → ⊥) → IsLeg (course_by head now ran) a → IsLeg (course_by head now ran) b
        → IsCalledInLeg m (course_by head now ran) a y → IsCalledInLeg m (course_by head now ran) b y → a.route ≡ b.route
    one_route (items.Exit s) a b not first second h k = one_exiter a b s first second h k
    one_route (items.Effect t) a b not first second h k =
        one_effect t not a.route b.route first.0 second.0 (leg_ends m a.route h) (leg_ends m b.route k)
    one_route (items.Enter s) a b not first second h k =
        let g = gone_by_routes rules shape head now ran gone in
        let mine = enter_is rules shape (course_by head now ran) g a first s h in
        let yours = enter_is rules shape (course_by head now ran) g b second s k in
        along_same a.route b.route (one_enterer (Along a.route) (Along b.route) s first.0 second.0 mine yours)
    one_route (items.Opened r mode) a b not first second h k = absurd h
    one_route (items.Pick c) a b not first second h k = absurd h

    pub one_leg : (y : Item) (a b : Leg) → (HasRun (course_by head now ran) y → ⊥) → IsLeg (course_by head now ran) a → IsLeg (course_by head now ran) b
        → IsCalledInLeg m (course_by head now ran) a y → IsCalledInLeg m (course_by head now ran) b y
        → (a.route ≡ b.route) × SameLeg m a.route a.named_by b.named_by
    one_leg y a b not first second h k =
        let same = one_route y a b not first second h k in
        let Here : Route → Type 0 = λ p. LegCalls m (CanExit (course_by head now ran) p) p b.named_by y in
        let there = subst Here (sym same) k in
        (same, once shape rules a.route (taken_route a.route first.0) (CanExit (course_by head now ran) a.route) a.named_by b.named_by y (inl h) (inl there))
