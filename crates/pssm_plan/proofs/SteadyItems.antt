-- What has run before an entry, and where a step enters States: all that is entered lies where something fires, and
-- every called exit of that place has run.
use Rattle.std.proofs.Common.{List, Some, ◌≡◌, ◌⊎◌, refl, sym, subst, inl, inr, ⊎_elim}
use Rattle.pssm_model.specs.declared.ids.VertexId.{VertexId}
use Rattle.pssm_model.specs.declared.ids.RegionId.{RegionId}
use Rattle.pssm_model.specs.declared.ids.TransId.{TransId}
use Rattle.pssm_model.specs.declared.elements.DraftMachine.{DraftMachine}
use Rattle.pssm_model.specs.declared.elements.Owner.TheVariants.{Top, Region, State}
use Rattle.pssm_model.specs.declared.steps.Route.{Route}
use Rattle.pssm_model.specs.declared.steps.Mode.{Mode}
use Rattle.pssm_model.specs.declared.steps.Mode.TheVariants.{Plain, Shallow, Deep}
use Rattle.pssm_model.specs.declared.steps.How.{How}
use Rattle.pssm_model.specs.declared.steps.Item.{Item}
use Rattle.pssm_model.specs.declared.steps.Item.TheVariants as items
use Rattle.pssm_model.specs.Forest.{owner_of, LiesInRegion}
use Rattle.pssm_model.specs.Shapes.{HasShape}
use Rattle.pssm_model.specs.WellFormed.{KeepsModelRules}
use Rattle.pssm_model.specs.Configuration.{Configuration}
use Rattle.pssm_model.specs.Course.{Head, FiresBy, HasRun}
use Rattle.pssm_model.specs.Course.Head.{Starts, Fires}
use Rattle.pssm_model.specs.Items.{StartOpens, LegOpens, Before}
use Rattle.pssm_model.specs.Items.Before.{exit_effect, effect_enter, effect_end, later}
use Rattle.pssm_model.specs.Order.{HasGone, IsReady, course_by}
use Rattle.pssm_model.specs.Order.HasGone.{begun as gone_begun, more as gone_more}
use Rattle.pssm_model.specs.RouteWords.{IsStepRoute}
use Rattle.pssm_plan.specs.Steadiness.{BeginsWell}
use Rattle.pssm_model.specs.Legs.{On, LegExits, Scope, LiesInScope}
use Rattle.pssm_model.specs.Legs.SameLeg.{itself as itself_leg}
use Rattle.pssm_model_laws.specs.inner.RouteWords.{IsAreaOf}
use Rattle.pssm_plan.specs.inner.OverRoutes.{LiesInArea, GoesByRoutes, GoesBy, IsExitedOver, IsOpenedOver, IsOpenedFor, IsCalledOver}
use Rattle.pssm_model.proofs.ElementLaws.{nothing_in_nil}
use Rattle.pssm_model_laws.proofs.LegRoots.{leg_ends}
use Rattle.pssm_model_laws.proofs.RouteAreas.{has_area}
use Rattle.pssm_legs.proofs.LegEntries.{not_up}
use Rattle.pssm_plan.proofs.RouteLegs.{leg_opening_of}
use Rattle.pssm_plan.proofs.RouteItems.{leg_at, exit_of, enter_of, called_of, called_in}
use Rattle.pssm_plan.proofs.RouteSteps.{gone_by_routes, fires_states}
use Rattle.pssm_plan.proofs.MoreRan.{nothing_ran, run_more}
use Rattle.pssm_plan.proofs.SteadyPlaces.{IsRegionIn, under_is_in, home_in_scope, region_in_scope, around_in_scope, owned_under}
use Rattle.pssm_plan.proofs.RoutePlaces.{EndsLate, late_end_in_area, beside_at_edge, end_not_up, exits_before, exits_before_local}
use Rattle.pssm_plan.proofs.Arrivals.{Arrival, Arrives, IsFiring, EntersBy, LiesInPlace, IsComingIn, how_of, enterer_of, entered_in_place, comes_area, one_coming, opener_of}
use Rattle.pssm_plan.proofs.Arrivals.Arrival.{Along, Back}
use Rattle.pssm_plan.proofs.SteadyStems.{IsUpTo, ComesWithin, IsNextBy, IsNewIn, Stems, brought_was, called_ready, newly, stems, fires_or_comes, proper, step_route, fires_from_state}
use Rattle.pssm_plan.proofs.SteadyStems.Stems.{fires as stem_fires, opens as stem_opens, goes_on as stem_goes_on}
use Rattle.pssm_plan.proofs.SteadyApart.{IsFired, IsFiredAround, one_around}

-- what starts does not fire
pub starts_alone : (m : DraftMachine) (head : Head) (r : RegionId) (mode : Mode) (route : Route)
    → StartOpens m head (items.Opened r mode) → FiresBy head route → ⊥
starts_alone m Starts r mode route starts fires = fires
starts_alone m (Fires routes) r mode route starts fires = starts

pub starts_at : (m : DraftMachine) (head : Head) (r : RegionId) (mode : Mode) → StartOpens m head (items.Opened r mode)
    → (head ≡ Starts) × (owner_of m (Region r) ≡ Some Top) × (mode ≡ Plain)
starts_at m Starts r Plain starts = (refl, starts, refl)
starts_at m Starts r Shallow starts = absurd starts
starts_at m Starts r Deep starts = absurd starts
starts_at m (Fires routes) r mode starts = absurd starts

-- The region lies where the route fires.
abbrev pub IsFiredOver : DraftMachine → Head → RegionId → Route → Type 0
IsFiredOver m head r p = IsFired m head p × ((area : Scope) × IsAreaOf m p area × IsRegionIn m r area)

-- The step is a start, or this is so.
abbrev pub StartsOr : Head → Type 0 → Type 0
StartsOr head P = (head ≡ Starts) ⊎ P

pub not_starting : {P : Type 0} (head : Head) (route : Route) → FiresBy head route → StartsOr head P → P
not_starting head route fires h = ⊎_elim (λ starts. absurd (subst (λ x. FiresBy x route) starts fires)) (λ is. is) h

-- what lies in such a region lies there
pub around_of : {m : DraftMachine} → HasShape m → (head : Head) (s : VertexId) (r : RegionId) (p : Route) → LiesInRegion m s r → IsFiredOver m head r p
    → IsFiredAround m head s p
around_of {m = m} shape head s r p lies over =
    (over.0, (over.1.0, over.1.1, region_in_scope shape s r over.1.0 lies over.1.2))

-- The leg of the transition is that of all that the route exits, or comes later.
abbrev pub IsPast : DraftMachine → Head → Configuration → Route → TransId → Type 0
IsPast m head now p t = (e : TransId) (q : VertexId) → LegExits m (λ s. FiresBy head p × now.Active s) p e q → IsUpTo m p e t

module _ {m : DraftMachine} (shape : HasShape m) (rules : KeepsModelRules m) (head : Head) (now : Configuration) where
  pub is_fired : (ran : List (Item × How)) → HasGone m head now ran → (p : Route) → FiresBy head p → IsFired m head p
  is_fired ran gone p fires = (fires, fires_states rules shape head now ran gone p fires)

  -- what is exited where something fires that exits it, is exited over that
  pub exits_over : (ran : List (Item × How)) (p : Route) (q : VertexId) → IsFiredAround m head q p
      → IsCalledOver m (course_by head now ran) (items.Exit q) → IsExitedOver m (course_by head now ran) p q
  exits_over ran p q around called = (around.0.0, called.1.1, around.1)

  -- what is called as exited lies where something fires
  pub exited_around : (ran : List (Item × How)) → HasGone m head now ran → (q : VertexId)
      → IsCalledOver m (course_by head now ran) (items.Exit q) → (p : Route) × IsFiredAround m head q p
  exited_around ran gone q called = (called.0, (is_fired ran gone called.0 called.1.0, called.1.2))

  -- what a route exits comes before the effect of such a transition
  exit_before_effect : (ran : List (Item × How)) → GoesByRoutes m (course_by head now ran) → (p : Route) (t : TransId) (q : VertexId) → On p t
      → IsPast m head now p t → IsExitedOver m (course_by head now ran) p q → Before m (course_by head now ran) (items.Exit q) (items.Effect t)
  exit_before_effect ran g p t q on past over =
      let leg = exit_of rules shape (course_by head now ran) g p q over in
      ⊎_elim
      (λ here. exit_effect (leg_at p leg.0) leg.1 tt tt leg.2 here)
      (λ more. later (leg_at p leg.0) t leg.1 more leg.2 (inl (itself_leg on)))
      (past leg.0 q leg.2)

  -- once an effect of what fires has run that is past its exits, every called exit where it fires has
  effect_after_exits : (ran : List (Item × How)) → HasGone m head now ran → (p : Route) (t : TransId) → On p t → IsPast m head now p t
      → HasRun (course_by head now ran) (items.Effect t) → (q : VertexId) → IsFiredAround m head q p
      → IsCalledOver m (course_by head now ran) (items.Exit q)
      → HasRun (course_by head now ran) (items.Exit q)
  effect_after_exits _ (gone_begun all) p t on past h q around called = absurd (nothing_ran head now (items.Effect t) h)
  effect_after_exits _ (gone_more {ran = ran} item how before ready truth way) p t on past h q around called =
      let course = course_by head now ran in
      let g = gone_by_routes rules shape head now ran before in
      let over = exits_over ran p q around called in
      (run_more course item how (items.Exit q)).1 (inl (⊎_elim
      (λ was. effect_after_exits ran before p t on past was q around called)
      (λ same. ready.cleared (items.Exit q) (called_of rules shape course g (items.Exit q) (p, over))
      (subst (λ x. Before m course (items.Exit q) x) same (exit_before_effect ran g p t q on past over)))
      ((run_more course item how (items.Effect t)).0 h)))

  -- what opens a region beside what it enters fires
  pub beside_fires : (ran : List (Item × How)) → HasGone m head now ran → (p : Route) (r : RegionId) (mode : Mode)
      → IsOpenedOver m (course_by head now ran) p r mode → FiresBy head p
  beside_fires ran gone p r mode h =
      let owner = h.1.1 in
      fires_from_state shape rules head now ran gone p owner.0 h.0 owner.1 (shape.regions r (State owner.0) owner.2).0

  -- once such a region is open, the effect of the leg that opens it has run
  opened_after_effect : (ran : List (Item × How)) → HasGone m head now ran → (p : Route) (a : TransId) (r : RegionId) (mode : Mode)
      → FiresBy head p → On p a → LegOpens m p a (items.Opened r mode) → HasRun (course_by head now ran) (items.Opened r mode)
      → HasRun (course_by head now ran) (items.Effect a)
  opened_after_effect _ (gone_begun all) p a r mode is on opening h = absurd (nothing_ran head now (items.Opened r mode) h)
  opened_after_effect _ (gone_more {ran = ran} item how before ready truth way) p a r mode is on opening h =
      let course = course_by head now ran in
      let g = gone_by_routes rules shape head now ran before in
      (run_more course item how (items.Effect a)).1 (inl (⊎_elim
      (λ was. opened_after_effect ran before p a r mode is on opening was)
      (λ same. ready.cleared (items.Effect a) (called_in rules shape course g (leg_at p a) (inl is, on) (items.Effect a) (itself_leg on))
      (subst (λ x. Before m course (items.Effect a) x) same
      (effect_end (leg_at p a) (inl is, on) tt (itself_leg on) (inr opening))))
      ((run_more course item how (items.Opened r mode)).0 h)))

  -- each route by which the step goes exits and enters in a place
  pub over_area : (ran : List (Item × How)) → HasGone m head now ran → (p : Route)
      → GoesBy (course_by head now ran) p
      → (area : Scope) × IsAreaOf m p area
  over_area ran gone p over = has_area shape rules p (step_route shape rules head now ran gone p over)

  -- a region that is opened beside what is entered lies where what opens it fires
  pub beside_within : (ran : List (Item × How)) → HasGone m head now ran → (p : Route) (r : RegionId) (mode : Mode)
      → IsOpenedOver m (course_by head now ran) p r mode → IsFiredOver m head r p
  beside_within ran gone p r mode h =
      let fires = beside_fires ran gone p r mode h in
      let step = step_route shape rules head now ran gone p (inl fires) in
      let area = has_area shape rules p step in
      (is_fired ran gone p fires, (area.0, area.1, under_is_in m r area.0 (beside_at_edge shape rules p step r area.0 h.1 area.1).1))

  module _ (begins : BeginsWell m head now) where
    -- All places where what the step comes by exits and enters lie where something fires, or the step is a start.
    abbrev AllFired : List (Item × How) → Type 0
    AllFired ran =
        (x : Arrival) → Arrives (course_by head now ran) x
        → StartsOr head ((p : Route) × ((v : VertexId) → LiesInPlace m x v → IsFiredAround m head v p))

    -- And so do all regions in which it begins within the step.
    abbrev AllLateFired : List (Item × How) → Type 0
    AllLateFired ran =
        (x : Arrival) (r : RegionId) → ComesWithin m (course_by head now ran) x r → StartsOr head ((p : Route) × IsFiredOver m head r p)

    firing_all : (ran : List (Item × How)) → HasGone m head now ran → (x : Arrival) → IsFiring head x
        → StartsOr head ((p : Route) × ((v : VertexId) → LiesInPlace m x v → IsFiredAround m head v p))
    firing_all ran gone (Along u) fires = inr (u, λ v lies. (is_fired ran gone u fires, lies))
    firing_all ran gone (Back r mode s) fires = absurd fires

    all_from_late : (ran : List (Item × How)) → HasGone m head now ran → AllLateFired ran → AllFired ran
    all_from_late ran gone all x came =
        ⊎_elim
        (λ fires. firing_all ran gone x fires)
        (λ comes. ⊎_elim
        (λ starts. inl starts)
        (λ over. inr (
          over.0,
          λ v lies. around_of shape head v comes.0 over.0
              (subst (λ a. LiesInScope m v a) (comes_area shape rules x comes.0 lies.0 comes.1.0 lies.1) lies.2) over.1,
        ))
        (all x comes.0 comes.1))
        (fires_or_comes shape rules head now begins ran gone x came)

    -- what is entered then does
    entered_where : (ran : List (Item × How)) → HasGone m head now ran → AllFired ran
        → (x : Arrival) (s : VertexId) → Arrives (course_by head now ran) x → EntersBy m x s
        → StartsOr head ((p : Route) × IsFiredAround m head s p)
    entered_where ran gone all x s came enters =
        let lies = entered_in_place shape rules x s (proper shape rules head now begins ran gone x came) enters in
        ⊎_elim (λ starts. inl starts) (λ over. inr (over.0, over.1 s lies)) (all x came)

    -- and what is opened
    opened_where : (ran : List (Item × How)) → HasGone m head now ran → AllFired ran
        → (r : RegionId) (mode : Mode) → IsOpenedFor m (course_by head now ran) r mode → StartsOr head ((p : Route) × IsFiredOver m head r p)
    opened_where ran gone all r mode called =
        ⊎_elim
        (λ starts. inl (starts_at m head r mode starts).0)
        (⊎_elim
        (λ at. (
        let opener = opener_of shape (course_by head now ran) at.0 r mode at.1.1 at.1.2 in
        ⊎_elim
        (λ starts. inl starts)
        (λ around. (
        let area = around.1.1 in
        inr (around.0, (around.1.0, (area.0, area.1, under_is_in m r area.0 (owned_under m r at.0 area.0 at.1.1 area.2))))
        ))
        (entered_where ran gone all opener.0 at.0 opener.1.arrives opener.1.enters)
        ))
        (λ beside. inr (beside.0, beside_within ran gone beside.0 r mode beside.1)))
        called

    -- and the region of a choice or history on which a route ends
    ended_where : (ran : List (Item × How)) → HasGone m head now ran → AllFired ran → (w : Route) (c : VertexId) (r : RegionId)
        → GoesBy (course_by head now ran) w → EndsLate m w c → owner_of m (State c) ≡ Some (Region r)
        → StartsOr head ((p : Route) × IsFiredOver m head r p)
    ended_where ran gone all w c r goes ends e =
        let lies = late_end_in_area shape rules w (step_route shape rules head now ran gone w goes) c ends in
        ⊎_elim
        (λ starts. inl starts)
        (λ over. (
        let around = over.1 c lies in
        inr (over.0, (around.0, (around.1.0, around.1.1, home_in_scope m c r around.1.0 e around.1.2)))
        ))
        (all (Along w) goes)

    -- and so the region in which something new begins
    new_where : (ran : List (Item × How)) → HasGone m head now ran → AllFired ran → (x : Arrival) (r : RegionId) → IsComingIn m x r
        → IsNewIn m (course_by head now ran) x → StartsOr head ((p : Route) × IsFiredOver m head r p)
    new_where ran gone all x r comes new =
        ⊎_elim
        (λ opened. (
        let same = one_coming shape rules x opened.0 r opened.3 comes in
        subst (λ q. StartsOr head ((p : Route) × IsFiredOver m head q p)) same (opened_where ran gone all opened.0 opened.1 opened.2)
        ))
        (λ ended. (
        let same = one_coming shape rules x ended.2 r ended.4 comes in
        let come = ended.3 in
        subst (λ q. StartsOr head ((p : Route) × IsFiredOver m head q p)) same (ended_where ran gone all ended.0 ended.1 ended.2 come.goes come.ends come.home)
        ))
        new

    -- so all of them do
    pub late_fired : (ran : List (Item × How)) → HasGone m head now ran → AllLateFired ran
    late_fired _ (gone_begun all) x r h = absurd (nothing_in_nil (h.1.0, how_of x) h.1.1.0)
    late_fired _ (gone_more {ran = ran} item how before ready truth way) x r h =
        let course = course_by head now ran in
        ⊎_elim
        (λ was. late_fired ran before x r (h.0, (h.1.0, was)))
        (λ is. new_where ran before (all_from_late ran before (late_fired ran before)) x r h.0
        (newly shape rules head now begins ran item how before ready truth way x is.0 is.1))
        (brought_was m course item how x h.1.0 h.1.1)

    pub inside_fired : (ran : List (Item × How)) → HasGone m head now ran
        → (x : Arrival) (s : VertexId) → Arrives (course_by head now ran) x → EntersBy m x s → StartsOr head ((p : Route) × IsFiredAround m head s p)
    inside_fired ran gone x s came enters = entered_where ran gone (all_from_late ran gone (late_fired ran gone)) x s came enters

    same_place : (s : VertexId) (p u : Route) → IsFiredAround m head s p → IsFiredAround m head s u → p ≡ u
    same_place s p u first second = one_around shape rules head now begins s p u first second

    -- what has run of the entries of one place has found every called exit of it run
    abbrev IsEntryAfterExits : List (Item × How) → Type 0
    IsEntryAfterExits ran =
        (p : Route) (s q : VertexId) → IsFiredAround m head s p → IsFiredAround m head q p → HasRun (course_by head now ran) (items.Enter s)
        → IsCalledOver m (course_by head now ran) (items.Exit q) → HasRun (course_by head now ran) (items.Exit q)

    -- an entry by what fires
    fired_after : (ran : List (Item × How)) → HasGone m head now ran → (p u : Route) (t : TransId) (s q : VertexId)
        → IsFiredAround m head s p → IsFiredAround m head q p → IsFiredAround m head s u → On u t → IsPast m head now u t
        → HasRun (course_by head now ran) (items.Effect t)
        → IsCalledOver m (course_by head now ran) (items.Exit q) → HasRun (course_by head now ran) (items.Exit q)
    fired_after ran gone p u t s q at place around on past effect called =
        let same = same_place s p u at around in
        effect_after_exits ran gone u t on past effect q (subst (λ x. IsFiredAround m head q x) same place) called

    -- What fires has run an effect that is past its exits.
    abbrev HasActed : List (Item × How) → Route → Type 0
    HasActed ran u = FiresBy head u → (t : TransId) × On u t × IsPast m head now u t × HasRun (course_by head now ran) (items.Effect t)

    abbrev HasActedBy : List (Item × How) → Arrival → Type 0
    HasActedBy ran (Along u) = HasActed ran u
    HasActedBy ran (Back r mode s) = Unit {0}

    -- by what the step goes, once it is under way, every called exit of its place has run: by what fires
    fired_acted : (ran : List (Item × How)) → HasGone m head now ran → (p u : Route) (s q : VertexId) → IsFiredAround m head s p
        → IsFiredAround m head q p → LiesInArea m u s → FiresBy head u → HasActed ran u
        → IsCalledOver m (course_by head now ran) (items.Exit q) → HasRun (course_by head now ran) (items.Exit q)
    fired_acted ran gone p u s q here place lies is acted called =
        let fires = is_fired ran gone u is in
        let first = acted is in
        fired_after ran gone p u first.0 s q here place (fires, lies) first.1 first.2 first.3 called

    -- by what opens a region beside what it enters
    beside_after : (ran : List (Item × How)) → HasGone m head now ran
        → (p u : Route) (s q : VertexId) (r : RegionId) (mode : Mode) → IsFiredAround m head s p → IsFiredAround m head q p → LiesInRegion m s r
        → IsOpenedOver m (course_by head now ran) u r mode → HasRun (course_by head now ran) (items.Opened r mode)
        → IsCalledOver m (course_by head now ran) (items.Exit q) → HasRun (course_by head now ran) (items.Exit q)
    beside_after ran gone p u s q r mode here place lies beside has called =
        let over = beside_within ran gone u r mode beside in
        let step : IsStepRoute m u = inl over.0.1 in
        let leg = leg_opening_of rules shape u step r beside.1 in
        let a = leg.0 in
        let past : IsPast m head now u a =
        (λ e x exits. exits_before_local shape rules u step (λ v. FiresBy head u × now.Active v) e a x leg.2.0 exits leg.2.1) in
        let opening = subst (λ x. LegOpens m u a (items.Opened r x)) (sym beside.2) leg.2 in
        let effect = opened_after_effect ran gone u a r mode over.0.0 leg.1 opening has in
        fired_after ran gone p u a s q here place (around_of shape head s r u lies over) leg.1 past effect called

    -- by an arrival in a region that the step has opened
    opened_after : (ran : List (Item × How)) → HasGone m head now ran → IsEntryAfterExits ran
        → (p : Route) (s q : VertexId) (r : RegionId) (mode : Mode) → IsFiredAround m head s p → IsFiredAround m head q p → LiesInRegion m s r
        → IsOpenedFor m (course_by head now ran) r mode → HasRun (course_by head now ran) (items.Opened r mode)
        → IsCalledOver m (course_by head now ran) (items.Exit q) → HasRun (course_by head now ran) (items.Exit q)
    opened_after ran gone earlier p s q r mode here place lies opened has called =
        ⊎_elim
        (λ starts. absurd (starts_alone m head r mode p starts here.0.0))
        (⊎_elim
        (λ at. (
        let opener = opener_of shape (course_by head now ran) at.0 r mode at.1.1 at.1.2 in
        let around = not_starting head p here.0.0 (inside_fired ran gone opener.0 at.0 opener.1.arrives opener.1.enters) in
        let area = around.1.1 in
        let inner : IsFiredAround m head s around.0 =
        (around.1.0, (area.0, area.1, around_in_scope m s at.0 r area.0 lies at.1.1 area.2)) in
        let same = same_place s around.0 p inner here in
        earlier p at.0 q (subst (λ x. IsFiredAround m head at.0 x) same around.1) place at.1.0 called
        ))
        (λ beside. beside_after ran gone p beside.0 s q r mode here place lies beside.1 has called))
        opened

    -- what has come to an end has acted
    acted_at_end : (ran : List (Item × How)) → HasGone m head now ran → (w : Route) (x : Arrival) (c : VertexId) (r : RegionId)
        → IsNextBy m (course_by head now ran) w x c r → HasActed ran w
    acted_at_end ran gone w x c r by is =
        let ends = by.come.ends in
        let t = ends.0.0 in
        let step = step_route shape rules head now ran gone w by.come.goes in
        let past : IsPast m head now w t =
        (λ e v exits. exits_before shape rules w step (λ y. FiresBy head w × now.Active y) e t v c exits ends.0.1 ends.0.2
        (end_not_up shape rules w step c ends.0)) in
        (t, ends.0.1, past, by.come.effects t (inl (itself_leg ends.0.1)))

    -- by one that goes on from a choice or history: by what has ended on that
    stems_after : (ran : List (Item × How)) → HasGone m head now ran → IsEntryAfterExits ran
        → (p : Route) (x : Arrival) (s q : VertexId) → IsFiredAround m head s p → IsFiredAround m head q p → LiesInPlace m x s
        → Stems m (course_by head now ran) x → HasActedBy ran x
        → IsCalledOver m (course_by head now ran) (items.Exit q) → HasRun (course_by head now ran) (items.Exit q)
    stems_after ran gone earlier p _ s q here place lies (stem_fires {p = u} is) acted called = fired_acted ran gone p u s q here place lies is acted called
    stems_after ran gone earlier p x s q here place lies (stem_opens {r = r} {mode = mode} by) acted called =
        let inside = subst (λ a. LiesInScope m s a) (comes_area shape rules x r lies.0 by.1 lies.1) lies.2 in
        opened_after ran gone earlier p s q r mode here place inside by.0 (how_of x, by.2.0) called
    stems_after ran gone earlier p x s q here place lies (stem_goes_on {w = w} {c = c} {r = r} before by) acted called =
        let inside = subst (λ a. LiesInScope m s a) (comes_area shape rules x r lies.0 by.comes lies.1) lies.2 in
        let area = late_end_in_area shape rules w (step_route shape rules head now ran gone w by.come.goes) c by.come.ends in
        let around : LiesInArea m w s = (area.0, area.1, region_in_scope shape s r area.0 inside (home_in_scope m c r area.0 by.come.home area.2)) in
        stems_after ran gone earlier p (Along w) s q here place around before (acted_at_end ran gone w x c r by) called

    -- a ready entry finds every called exit of its place run
    acted_by : (ran : List (Item × How)) → HasGone m head now ran → (x : Arrival) (s : VertexId) → IsReady m (course_by head now ran) (items.Enter s)
        → Arrives (course_by head now ran) x → EntersBy m x s → HasActedBy ran x
    acted_by ran gone (Along u) s ready came enters = λ is. (
        let course = course_by head now ran in
        let g = gone_by_routes rules shape head now ran gone in
        let step = step_route shape rules head now ran gone u came in
        let leg = enter_of rules shape course g u came s enters in
        let last = leg.2.1 in
        let t = last.0 in
        let on : On u t = leg_ends m u last.1 in
        let past : IsPast m head now u t =
        (λ e v exits. exits_before shape rules u step (λ y. FiresBy head u × now.Active y) e t v leg.2.0 exits on last.2
        (not_up shape rules u step leg.2.0 last.3 leg.2.2)) in
        let effect = ready.cleared (items.Effect t) (called_in rules shape course g (leg_at u t) (came, on) (items.Effect t) (itself_leg on))
        (effect_enter (leg_at u leg.0) leg.1 tt tt last.1 leg.2) in
        (t, on, past, effect))
    acted_by ran gone (Back r mode q) s ready came enters = tt

    ready_after : (ran : List (Item × How)) → HasGone m head now ran → IsEntryAfterExits ran
        → (p : Route) (s q : VertexId) → IsFiredAround m head s p → IsFiredAround m head q p → IsReady m (course_by head now ran) (items.Enter s)
        → IsCalledOver m (course_by head now ran) (items.Exit q)
        → HasRun (course_by head now ran) (items.Exit q)
    ready_after ran gone earlier p s q here place ready called =
        let course = course_by head now ran in
        let over = enterer_of m course s (called_ready shape rules head now ran gone (items.Enter s) ready) in
        let lies = entered_in_place shape rules over.0 s (proper shape rules head now begins ran gone over.0 over.1) over.2 in
        stems_after ran gone earlier p over.0 s q here place lies (stems shape rules head now begins ran gone over.0 over.1)
        (acted_by ran gone over.0 s ready over.1 over.2) called

    -- once an entry has run, every called exit of its place has
    pub entry_after_exits : (ran : List (Item × How)) → HasGone m head now ran
        → (p : Route) (s q : VertexId) → IsFiredAround m head s p → IsFiredAround m head q p → HasRun (course_by head now ran) (items.Enter s)
        → IsCalledOver m (course_by head now ran) (items.Exit q)
        → HasRun (course_by head now ran) (items.Exit q)
    entry_after_exits _ (gone_begun all) p s q here place h called = absurd (nothing_ran head now (items.Enter s) h)
    entry_after_exits _ (gone_more {ran = ran} item how before ready truth way) p s q here place h called =
        let course = course_by head now ran in
        (run_more course item how (items.Exit q)).1 (inl (⊎_elim
        (λ was. entry_after_exits ran before p s q here place was called)
        (λ same. ready_after ran before (entry_after_exits ran before) p s q here place (subst (λ x. IsReady m course x) (sym same) ready) called)
        ((run_more course item how (items.Enter s)).0 h)))

    pub ready_after_exits : (ran : List (Item × How)) → HasGone m head now ran
        → (p : Route) (s q : VertexId) → IsFiredAround m head s p → IsFiredAround m head q p → IsReady m (course_by head now ran) (items.Enter s)
        → IsCalledOver m (course_by head now ran) (items.Exit q)
        → HasRun (course_by head now ran) (items.Exit q)
    ready_after_exits ran gone p s q here place ready called = ready_after ran gone (entry_after_exits ran gone) p s q here place ready called
