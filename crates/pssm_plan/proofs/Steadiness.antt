-- A step keeps a configuration consistent: what it enters may become active, and what it exits is.
use Rattle.std.proofs.Common.{List, Some, ◌≡◌, ◌⊎◌, sym, subst, inl, inr, ⊎_elim, ◌∙◌}
use Rattle.pssm_model.specs.declared.ids.VertexId.{VertexId}
use Rattle.pssm_model.specs.declared.ids.RegionId.{RegionId}
use Rattle.pssm_model.specs.declared.elements.DraftMachine.{DraftMachine}
use Rattle.pssm_model.specs.declared.elements.Owner.{Owner}
use Rattle.pssm_model.specs.declared.elements.Owner.TheVariants.{Top, Region, State}
use Rattle.pssm_model.specs.declared.steps.Route.{Route}
use Rattle.pssm_model.specs.declared.steps.How.{How}
use Rattle.pssm_model.specs.declared.steps.How.TheVariants.{By, Restore, Nothing}
use Rattle.pssm_model.specs.declared.steps.Item.{Item}
use Rattle.pssm_model.specs.declared.steps.Item.TheVariants as items
use Rattle.pssm_model.specs.Forest.{IsStateOrFinal, owner_of, LiesUnder, LiesInRegion, IsWithin}
use Rattle.pssm_model.specs.Forest.LiesUnder.{owned, further}
use Rattle.pssm_model.specs.Shapes.{HasShape}
use Rattle.pssm_model.specs.declared.steps.Mode.{Mode}
use Rattle.pssm_model.specs.Configuration.{Configuration, IsDirect}
use Rattle.pssm_model.specs.Changes.{entered, exited}
use Rattle.pssm_model.specs.Course.{Head, FiresBy, HasRun}
use Rattle.pssm_model.specs.Order.{HasGone, IsReady, course_by}
use Rattle.pssm_model.specs.Items.Before.{inner_exit, outer_enter}
use Rattle.pssm_model.specs.Order.HasGone.{begun as gone_begun, more as gone_more}
use Rattle.pssm_model.specs.WellFormed.{KeepsModelRules}
use Rattle.pssm_model.specs.Routes.{IsSource}
use Rattle.pssm_config.specs.Tables.{CanEnter}
use Rattle.pssm_plan.specs.Steadiness.{IsConsistent, BeginsWell, changed_by_item, changed_along}
use Rattle.pssm_plan.specs.inner.OverRoutes.{IsEnteredOver, IsOpenedFor, IsCalledOver}
use Rattle.pssm_model.specs.Legs.{Scope}
use Rattle.pssm_model.specs.Legs.Scope.{Nowhere, Inside, Within}
use Rattle.pssm_model_laws.specs.inner.RouteWords.{IsAreaOf}
use Rattle.pssm_model.proofs.OwnerChains.{one_owner, owner_above, under_further}
use Rattle.pssm_model.proofs.Nesting.{region_cases, lies_within}
use Rattle.pssm_plan.proofs.RouteItems.{called_is, called_of}
use Rattle.pssm_plan.proofs.RouteSteps.{gone_by_routes}
use Rattle.pssm_plan.proofs.SteadyPlaces.{IsRegionIn, IsEdge, same_state, same_region_place, no_circle, home_of_state, home_above, edge_or_outer, home_in_scope, region_in_scope, around_in_scope}
use Rattle.pssm_plan.proofs.RoutePlaces.{source_is_end, beside_at_edge, late_end_in_area, entered_around}
use Rattle.pssm_plan.proofs.Arrivals.{Arrival, Arrives, EntersBy, IsPlace, IsProper, enterer_of, entered_is_state, entered_fill, one_entered_by, comes_area}
use Rattle.pssm_plan.proofs.Arrivals.Arrival.{Along, Back}
use Rattle.pssm_plan.proofs.SteadyApart.{IsFired, IsFiredAround, some_source, edge_owner_stays}
use Rattle.pssm_plan.proofs.SteadyStems.{IsNextBy, Stems, come_entered, ran_was_called, stems, proper, step_route}
use Rattle.pssm_plan.proofs.SteadyStems.Stems.{fires as stem_fires, opens as stem_opens, goes_on as stem_goes_on}
use Rattle.pssm_plan.proofs.SteadyChains.{Continues, first_step, after_enters, enters_not_after}
use Rattle.pssm_plan.proofs.SteadyItems.{starts_at, is_fired, exited_around, ready_after_exits, over_area, beside_fires, inside_fired}
use Rattle.pssm_plan.proofs.SteadyFilling.{one_fills}
use Rattle.pssm_plan.proofs.SteadyChanges.{changed_along-push, no_entry_yet, active_is}

-- what is active on an owner chain: a State that is, or a region with such a direct vertex
abbrev IsHeld : DraftMachine → Configuration → Owner → Type 0
IsHeld m now Top = Unit {0}
IsHeld m now (Region r) = (v : VertexId) × IsDirect m v r × now.Active v
IsHeld m now (State s) = now.Active s

module _ {m : DraftMachine} (shape : HasShape m) (now : Configuration) (consistent : IsConsistent m now) where
  -- in a consistent configuration an owner chain is active on from where it is
  held_up : (p q : Owner) → owner_of m p ≡ Some q → IsHeld m now p → IsHeld m now q
  held_up Top q e held = absurd (cc)
  held_up (Region r) q e held =
      ⊎_elim
      (λ top. subst (IsHeld m now) (one_owner m (Region r) Top q top e) tt)
      (λ at. subst (IsHeld m now) (one_owner m (Region r) (State at.0) q at.1 e) at.2)
      (consistent.owners r held.0 held.1 held.2)
  held_up (State s) q e held =
      let is = consistent.states s held in
      let home = home_of_state shape s is in
      subst (IsHeld m now) (one_owner m (State s) (Region home.0) q home.1 e) (s, (home.1, is), held)

  held_along : (p q : Owner) → LiesUnder m p q → IsHeld m now p → IsHeld m now q
  held_along p q (owned e) held = held_up p q e held
  held_along p q (further {q = k} e rest) held = held_along k q rest (held_up p k e held)

  -- the State that owns a region in which something active lies
  pub around_active : (v s : VertexId) (r : RegionId) → now.Active v → LiesInRegion m v r
      → owner_of m (Region r) ≡ Some (State s) → now.Active s
  around_active v s r active lies e = held_up (Region r) (State s) e (held_along (State v) (Region r) lies active)

module _ {m : DraftMachine} (shape : HasShape m) (rules : KeepsModelRules m)
    (head : Head) (now : Configuration) (begins : BeginsWell m head now) where
  -- what the step comes by
  came_by : (ran : List (Item × How)) → HasGone m head now ran → (x : Arrival) → Arrives (course_by head now ran) x → IsProper m x
  came_by ran gone x came = proper shape rules head now begins ran gone x came

  -- two States of one region that arrivals on one chain enter are the same
  entered_on_chain : (ran : List (Item × How)) → HasGone m head now ran → (r : RegionId) (s v : VertexId) (x u : Arrival)
      → owner_of m (State s) ≡ Some (Region r) → owner_of m (State v) ≡ Some (Region r)
      → Arrives (course_by head now ran) x → Arrives (course_by head now ran) u → EntersBy m x s → EntersBy m u v
      → Continues m (course_by head now ran) x u → s ≡ v
  entered_on_chain ran gone r s v x u e f came too first second chain =
      ⊎_elim
      (λ same. one_entered_by shape rules u s v r (came_by ran gone u too) e f (subst (λ y. EntersBy m y s) same first) second)
      (λ next. (
      let v_in = after_enters shape rules head now begins ran gone x u v next second in
      let s_in = lies_within m s r next.3 (owned e) (region_cases m (State v) r next.3 f v_in) in
      absurd (enters_not_after shape rules head now begins ran gone x u s next came first s_in)
      ))
      (first_step x u chain)

  -- and so are any two of one region that are entered
  entered_once : (ran : List (Item × How)) → HasGone m head now ran → (r : RegionId) (s v : VertexId)
      → owner_of m (State s) ≡ Some (Region r) → owner_of m (State v) ≡ Some (Region r)
      → IsCalledOver m (course_by head now ran) (items.Enter s)
      → IsCalledOver m (course_by head now ran) (items.Enter v) → s ≡ v
  entered_once ran gone r s v e f called also =
      let first = enterer_of m (course_by head now ran) s called in
      let second = enterer_of m (course_by head now ran) v also in
      let above = home_above shape s r e in
      ⊎_elim
      (λ ahead. entered_on_chain ran gone r s v first.0 second.0 e f first.1 second.1 first.2 second.2 ahead)
      (λ behind. sym (entered_on_chain ran gone r v s second.0 first.0 f e second.1 first.1 second.2 first.2 behind))
      (one_fills shape rules head now begins ran gone r above.0 above.1 first.0 second.0 first.1 second.1
      (entered_fill shape rules first.0 s r (came_by ran gone first.0 first.1) e first.2)
      (entered_fill shape rules second.0 v r (came_by ran gone second.0 second.1) f second.2))

  -- the region of a State whose entry is ready has no active direct vertex
  vacant : (ran : List (Item × How)) → HasGone m head now ran → (r : RegionId) (s v : VertexId)
      → IsReady m (course_by head now ran) (items.Enter s) → IsDirect m s r → IsDirect m v r
      → (changed_along m now ran).Active v → ⊥
  vacant ran gone r s v ready e f active =
      let course = course_by head now ran in
      let called = called_is rules shape course (gone_by_routes rules shape head now ran gone) (items.Enter s) ready.waiting.called in
      let over = enterer_of m course s called in
      ⊎_elim
      (λ entry. (
      let same = entered_once ran gone r s v e.0 f.0 called (ran_was_called shape rules head now ran gone (items.Enter v) entry) in
      ready.waiting.not_run (subst (λ x. HasRun course (items.Enter x)) (sym same) entry)
      ))
      (λ left. ⊎_elim
      (λ starts. begins.start starts v left.0)
      (λ fires. (
      let inside = fires.1.1 in
      let lies = region_in_scope shape v r inside.0 (owned f.0) (home_in_scope m s r inside.0 e.0 inside.2) in
      let around : IsFiredAround m head v fires.0 = (fires.1.0, (inside.0, inside.1, lies)) in
      left.1 (ready_after_exits shape rules head now begins ran gone fires.0 s v fires.1 around ready
      (fires.0, (fires.1.0.0, left.0, around.1)))
      ))
      (inside_fired shape rules head now begins ran gone over.0 s over.1 over.2))
      ((active_is shape rules head now begins ran gone v).0 active)

  -- a State whose entry is ready may become active
  pub may_enter : (ran : List (Item × How)) → HasGone m head now ran → (s : VertexId)
      → IsReady m (course_by head now ran) (items.Enter s)
      → CanEnter m (changed_along m now ran) s
  may_enter ran gone s ready =
      let course = course_by head now ran in
      let over = enterer_of m course s (called_is rules shape course (gone_by_routes rules shape head now ran gone) (items.Enter s) ready.waiting.called) in
      record {
        state = entered_is_state shape rules over.0 s (came_by ran gone over.0 over.1) over.2;
        vacant = λ r v e f active. vacant ran gone r s v ready e f active;
      }

  -- once a State is exited
  after_exit : (ran : List (Item × How)) → HasGone m head now ran → (q : VertexId)
      → IsReady m (course_by head now ran) (items.Exit q)
      → IsConsistent m (changed_along m now ran) → IsConsistent m (exited m (changed_along m now ran) q)
  after_exit ran gone q ready was = record {
    states = λ s h. was.states s h.1;
    one_each = λ r s v d e h k. was.one_each r s v d e h.1 k.1;
    owners = λ r s d h. ⊎_elim
        (λ top. inl top)
        (λ at. inr (
          at.0,
          at.1,
          (λ same. nothing_inside r s d (subst (λ x. owner_of m (Region r) ≡ Some (State x)) same at.1) h.1, at.2),
        ))
        (was.owners r s d h.1);
  }
    where
      nothing_inside : (r : RegionId) (s : VertexId) → IsDirect m s r → owner_of m (Region r) ≡ Some (State q)
          → (changed_along m now ran).Active s → ⊥
      nothing_inside r s d e active =
          let course = course_by head now ran in
          let g = gone_by_routes rules shape head now ran gone in
          let called = called_is rules shape course g (items.Exit q) ready.waiting.called in
          let at = exited_around shape rules head now ran gone q called in
          let area = at.1.1 in
          let around : IsFiredAround m head s at.0 = (at.1.0, (area.0, area.1, around_in_scope m s q r area.0 (owned d.0) e area.2)) in
          ⊎_elim
          (λ entry. no_entry_yet shape rules head now begins ran gone at.0 q s at.1 around ready.waiting entry)
          (λ left. (
          let exits : IsCalledOver m course (items.Exit s) = (at.0, (around.0.0, left.0, around.1)) in
          left.1 (ready.cleared (items.Exit s) (called_of rules shape course g (items.Exit s) exits) (inner_exit (r, e, owned d.0)))
          ))
          ((active_is shape rules head now begins ran gone s).0 active)

  -- the owner of a region in which a State is entered is the machine, or active
  abbrev IsOwnerActive : List (Item × How) → RegionId → Type 0
  IsOwnerActive ran r =
      (owner_of m (Region r) ≡ Some Top)
      ⊎ ((q : VertexId) × (owner_of m (Region r) ≡ Some (State q)) × (changed_along m now ran).Active q)

  -- a region at the edge of where what fires exits and enters lies around its source, or that owns it
  edge_active : (p : Route) (v o : VertexId) (r : RegionId) (area : Scope) → IsFired m head p → IsSource m p v → IsAreaOf m p area
      → IsEdge m r area → owner_of m (Region r) ≡ Some (State o) → now.Active o
  edge_active p v o r Nowhere fired source is edge e = absurd edge
  edge_active p v o r (Inside w) fired source is edge e =
      let same : w ≡ o = same_state w o (one_owner m (Region r) (State w) (State o) edge e) in
      subst (λ x. now.Active x) same (begins.from_active p w fired.0 is.1)
  edge_active p v o r (Within q) fired source is edge e =
      let active = begins.from_active p v fired.0 source in
      around_active shape now begins.consistent v o r active
      (subst (λ x. LiesInRegion m v x) (sym edge) (is.1.common v (source_is_end shape rules p (inl fired.1) v source))) e

  fired_owner : (ran : List (Item × How)) → HasGone m head now ran → (p : Route) (r : RegionId) (o : VertexId) (area : Scope)
      → FiresBy head p → IsAreaOf m p area → IsEdge m r area → owner_of m (Region r) ≡ Some (State o) → IsOwnerActive ran r
  fired_owner ran gone p r o area fires is edge e =
      let fired : IsFired m head p = is_fired shape rules head now ran gone p fires in
      let from = some_source shape rules head now begins p fired in
      inr (
        o,
        e,
        (active_is shape rules head now begins ran gone o).1 (inr (
          edge_active p from.0 o r area fired from.1 is edge e,
          λ exit. (
              let called = ran_was_called shape rules head now ran gone (items.Exit o) exit in
              let at = exited_around shape rules head now ran gone o called in
              edge_owner_stays shape rules head now begins p at.0 r o area fired is edge e at.1
              ),
        )),
      )

  -- so where a region is opened by the start, for an entry or beside what is entered
  opened_owner : (ran : List (Item × How)) → HasGone m head now ran → (r : RegionId) (mode : Mode) → IsOpenedFor m (course_by head now ran) r mode
      → IsOwnerActive ran r
  opened_owner ran gone r mode called =
      ⊎_elim
      (λ starts. inl (starts_at m head r mode starts).1)
      (⊎_elim
      (λ at. inr (at.0, at.1.1, (active_is shape rules head now begins ran gone at.0).1 (inl at.1.0)))
      (λ beside. (
      let fires = beside_fires shape rules head now ran gone beside.0 r mode beside.1 in
      let wide = over_area shape rules head now ran gone beside.0 (inl fires) in
      let at = (beside_at_edge shape rules beside.0 (step_route shape rules head now ran gone beside.0 beside.1.0) r wide.0 beside.1.1 wide.1).0 in
      fired_owner ran gone beside.0 r beside.1.1.1.0 wide.0 fires wide.1 at beside.1.1.1.2
      )))
      called

  -- a State around a choice or history from which the step has gone on is entered, where what has ended there enters it
  around_end : (ran : List (Item × How)) → HasGone m head now ran → (w : Route) (u : Arrival) (c o : VertexId) (r h : RegionId) (area : Scope)
      → IsNextBy m (course_by head now ran) w u c r → IsAreaOf m w area → IsRegionIn m h area → owner_of m (Region r) ≡ Some (State o)
      → owner_of m (State o) ≡ Some (Region h) → IsOwnerActive ran r
  around_end ran gone w u c o r h area by is inside e f =
      let lies = region_in_scope shape o h area (owned f) inside in
      let step = step_route shape rules head now ran gone w by.come.goes in
      let entry = come_entered shape rules (course_by head now ran) w c r o step by.come (r, e, owned by.come.home) (area, is, lies) in
      inr (o, e, (active_is shape rules head now begins ran gone o).1 (inl entry))

  -- so it is where a region is all of the place of an arrival
  stem_owner : (ran : List (Item × How)) → HasGone m head now ran → (x : Arrival) (r : RegionId) (o : VertexId) (area : Scope)
      → Stems m (course_by head now ran) x → IsPlace m x area → IsEdge m r area → owner_of m (Region r) ≡ Some (State o) → IsOwnerActive ran r
  stem_owner ran gone _ r o area (stem_fires {p = p} fires) is edge e = fired_owner ran gone p r o area fires is edge e
  stem_owner ran gone x r o area (stem_opens {r = k} {mode = mode} by) is edge e =
      let same : r ≡ k = subst (λ a. IsEdge m r a) (comes_area shape rules x k area by.1 is) edge in
      opened_owner ran gone r mode (subst (λ q. IsOpenedFor m (course_by head now ran) q mode) (sym same) by.0)
  stem_owner ran gone x r o area (stem_goes_on {w = w} {c = c} {r = k} before by) is edge e =
      let same : r ≡ k = subst (λ a. IsEdge m r a) (comes_area shape rules x k area by.comes is) edge in
      let next = subst (λ q. IsNextBy m (course_by head now ran) w x c q) (sym same) by in
      let wide = late_end_in_area shape rules w (step_route shape rules head now ran gone w by.come.goes) c by.come.ends in
      let outer = home_of_state shape o (inl (shape.regions r (State o) e).0) in
      ⊎_elim
      (λ edges. stem_owner ran gone (Along w) r o wide.0 before wide.1 edges e)
      (λ out. around_end ran gone w x c o r outer.0 wide.0 next wide.1 out e outer.1)
      (edge_or_outer shape r outer.0 o wide.0 e outer.1 (home_in_scope m c r wide.0 next.come.home wide.2))

  inner_owner : (ran : List (Item × How)) → HasGone m head now ran → (p : Route) (q o : VertexId) (r h : RegionId) (area : Scope)
      → IsReady m (course_by head now ran) (items.Enter q) → owner_of m (State q) ≡ Some (Region r)
      → owner_of m (Region r) ≡ Some (State o) → owner_of m (State o) ≡ Some (Region h) → IsEnteredOver m (course_by head now ran) p q
      → IsAreaOf m p area → IsRegionIn m h area → IsOwnerActive ran r
  inner_owner ran gone p q o r h area ready f e home over is inside =
      let course = course_by head now ran in
      let g = gone_by_routes rules shape head now ran gone in
      let step = step_route shape rules head now ran gone p over.0 in
      let lies = region_in_scope shape o h area (owned home) inside in
      let called : IsCalledOver m course (items.Enter o) =
      inl (p, (over.0, entered_around shape rules p step q o over.1 (r, e, owned f) (area, is, lies))) in
      let entry = ready.cleared (items.Enter o) (called_of rules shape course g (items.Enter o) called) (outer_enter (r, e, owned f)) in
      inr (o, e, (active_is shape rules head now begins ran gone o).1 (inl entry))

  inner_owner_by : (ran : List (Item × How)) → HasGone m head now ran → (x : Arrival) (q o : VertexId) (r h : RegionId) (area : Scope)
      → IsReady m (course_by head now ran) (items.Enter q) → owner_of m (State q) ≡ Some (Region r)
      → owner_of m (Region r) ≡ Some (State o) → owner_of m (State o) ≡ Some (Region h) → Arrives (course_by head now ran) x → EntersBy m x q
      → IsPlace m x area → IsRegionIn m h area → IsOwnerActive ran r
  inner_owner_by ran gone (Along p) q o r h area ready f e home came enters is inside =
      inner_owner ran gone p q o r h area ready f e home (came, enters) is inside
  inner_owner_by ran gone (Back k mode s) q o r h area ready f e home came enters is inside =
      let direct : IsDirect m s k = came_by ran gone (Back k mode s) came in
      let own = subst (λ v. owner_of m (State v) ≡ Some (Region k)) enters direct.0 in
      let same = same_region_place r k (one_owner m (State q) (Region r) (Region k) f own) in
      let within : IsWithin m h k = subst (λ a. IsRegionIn m h a) is inside in
      let around : LiesUnder m (Region r) (Region h) = further e (owned home) in
      absurd (no_circle shape r (⊎_elim
      (λ all. subst (λ z. LiesUnder m (Region r) (Region z)) (all ∙ sym same) around)
      (λ under. under_further around (subst (λ z. LiesUnder m (Region h) (Region z)) (sym same) under))
      within))

  owner_of_entered : (ran : List (Item × How)) → HasGone m head now ran → (r : RegionId) (q : VertexId) (p : Owner)
      → IsReady m (course_by head now ran) (items.Enter q) → owner_of m (State q) ≡ Some (Region r) → owner_of m (Region r) ≡ Some p
      → IsOwnerActive ran r
  owner_of_entered ran gone r q Top ready f e = inl e
  owner_of_entered ran gone r q (Region k) ready f e = absurd (shape.regions r (Region k) e).0
  owner_of_entered ran gone r q (State o) ready f e =
      let course = course_by head now ran in
      let called = called_is rules shape course (gone_by_routes rules shape head now ran gone) (items.Enter q) ready.waiting.called in
      let over = enterer_of m course q called in
      let x = over.0 in
      let fills = entered_fill shape rules x q r (came_by ran gone x over.1) f over.2 in
      let area = fills.1 in
      let home = home_of_state shape o (inl (shape.regions r (State o) e).0) in
      ⊎_elim
      (λ edge. stem_owner ran gone x r o area.0 (stems shape rules head now begins ran gone x over.1) area.1 edge e)
      (λ outer. inner_owner_by ran gone x q o r home.0 area.0 ready f e home.1 over.1 over.2 area.1 outer)
      (edge_or_outer shape r home.0 o area.0 e home.1 area.2)

  owner_active : (ran : List (Item × How)) → HasGone m head now ran → (r : RegionId) (q : VertexId)
      → IsReady m (course_by head now ran) (items.Enter q) → owner_of m (State q) ≡ Some (Region r)
      → IsOwnerActive ran r
  owner_active ran gone r q ready e =
      let above = home_above shape q r e in
      let owner = owner_above m (Region r) above.0 above.1 in
      owner_of_entered ran gone r q owner.0 ready e owner.1

  -- once a State is entered
  after_enter : (ran : List (Item × How)) → HasGone m head now ran → (q : VertexId)
      → IsReady m (course_by head now ran) (items.Enter q)
      → IsConsistent m (changed_along m now ran) → IsConsistent m (entered m (changed_along m now ran) q)
  after_enter ran gone q ready was = record {
    states = λ s h. ⊎_elim (λ same. subst (λ x. IsStateOrFinal m x) (sym same) (may_enter ran gone q ready).state) (was.states s) h;
    one_each = λ r s v d e h k. ⊎_elim
        (λ same. ⊎_elim
        (λ too. same ∙ sym too)
        (λ active. absurd (vacant ran gone r q v ready (subst (λ x. IsDirect m x r) same d) e active))
        k)
        (λ active. ⊎_elim
        (λ too. absurd (vacant ran gone r q s ready (subst (λ x. IsDirect m x r) too e) d active))
        (λ other. was.one_each r s v d e active other)
        k)
        h;
    owners = λ r s d h. ⊎_elim
        (λ top. inl top)
        (λ at. inr (at.0, at.1, inr at.2))
        (⊎_elim {C = IsOwnerActive ran r}
        (λ same. owner_active ran gone r q ready (subst (λ x. owner_of m (State x) ≡ Some (Region r)) same d.0))
        (λ active. was.owners r s d active)
        h);
  }

  -- once any item has run
  after_item : (ran : List (Item × How)) → HasGone m head now ran → (item : Item) (how : How)
      → IsReady m (course_by head now ran) item
      → IsConsistent m (changed_along m now ran) → IsConsistent m (changed_by_item m (changed_along m now ran) item how)
  after_item ran gone (items.Exit q) how ready was = after_exit ran gone q ready was
  after_item ran gone (items.Enter q) how ready was = after_enter ran gone q ready was
  after_item ran gone (items.Effect t) how ready was = was
  after_item ran gone (items.Opened r mode) (By route) ready was =
      record { states = was.states; one_each = was.one_each; owners = was.owners }
  after_item ran gone (items.Opened r mode) (Restore s) ready was =
      record { states = was.states; one_each = was.one_each; owners = was.owners }
  after_item ran gone (items.Opened r mode) Nothing ready was =
      record { states = was.states; one_each = was.one_each; owners = was.owners }
  after_item ran gone (items.Pick c) how ready was = was

  -- so the configuration stays consistent
  pub stays_consistent : (ran : List (Item × How)) → HasGone m head now ran → IsConsistent m (changed_along m now ran)
  stays_consistent _ (gone_begun fires) = begins.consistent
  stays_consistent _ (gone_more {ran = ran} item how before ready truth way) =
      subst (λ (c : Configuration). IsConsistent m c) (sym (changed_along-push m now ran item how))
      (after_item ran before item how ready (stays_consistent ran before))
