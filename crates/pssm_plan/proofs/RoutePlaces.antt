-- Where a route by which steps go exits, enters and ends; and the regions that a route fills.
use Rattle.std.proofs.Common.{◌≡◌, ◌⊎◌, [], ◌∷◌, Some, sym, subst, inl, inr, ⊎_elim}
use Rattle.pssm_model.specs.declared.ids.VertexId.{VertexId}
use Rattle.pssm_model.specs.declared.ids.RegionId.{RegionId}
use Rattle.pssm_model.specs.declared.ids.TransId.{TransId}
use Rattle.pssm_model.specs.declared.elements.DraftMachine.{DraftMachine}
use Rattle.pssm_model.specs.declared.elements.VertexKind.TheVariants as kinds
use Rattle.pssm_model.specs.declared.elements.Owner.{Owner}
use Rattle.pssm_model.specs.declared.elements.Owner.TheVariants.{Region, State}
use Rattle.pssm_model.specs.declared.elements.FaultPlace.TheVariants as places
use Rattle.pssm_model.specs.declared.elements.Element.TheVariants as elements
use Rattle.pssm_model.specs.declared.elements.TransKind.TheVariants.{Local, Internal}
use Rattle.pssm_model.specs.declared.steps.Route.{Route}
use Rattle.pssm_model.specs.Forest.{owner_of, HasKind, IsStateOrFinal, LiesUnder, LiesInRegion, LiesInState, IsWithin}
use Rattle.pssm_model.specs.Forest.LiesUnder.{owned, further}
use Rattle.pssm_model.specs.Legs.{Leaves, Enters, On, SameLeg, LaterLeg, IsLocalFrom, IsEndState, Scope, LiesInScope, WouldExit, LegExits}
use Rattle.pssm_model.specs.Legs.SameLeg.{itself as itself_leg}
use Rattle.pssm_model.specs.Legs.LegScope.{local as local_scope}
use Rattle.pssm_model.specs.Legs.Scope.{Nowhere, Inside, Within}
use Rattle.pssm_model.specs.FiringSets.{IsLateOrigin}
use Rattle.pssm_model.specs.Routes.{IsRoute, IsSource}
use Rattle.pssm_model.specs.RouteWords.{IsStepRoute}
use Rattle.pssm_model.specs.Shapes.{HasShape}
use Rattle.pssm_model.specs.WellFormed.{KeepsModelRules}
use Rattle.pssm_model.specs.WellFormed.Breaks.{E05, E13, E15, E16}
use Rattle.pssm_model_laws.specs.inner.RouteWords.{IsThrough, GoesAs, IsEndOf, IsAreaOf, EndsOn, EndsIn, IsStation, IsEnteredBy}
use Rattle.pssm_plan.specs.inner.OverRoutes.{LiesInArea, OpensBeside}
use Rattle.pssm_model.proofs.ElementLaws.{leaves_one, enters_one}
use Rattle.pssm_model.proofs.OwnerChains.{one_owner, under_further}
use Rattle.pssm_model.proofs.Nesting.{under_cases, lies_within}
use Rattle.pssm_model_laws.proofs.RegionChains.{on_one_chain, under_state as state_under}
use Rattle.pssm_model_laws.proofs.Known.{sure, known_vertex}
use Rattle.pssm_model_laws.proofs.KnownPlaces.{known_lies}
use Rattle.pssm_model_laws.proofs.InnerPaths.{point_owner, entry_after, regions_apart}
use Rattle.pssm_model_laws.proofs.Branches.{GoesNext, of_rest, of_starts, along_ends, along_cases, through_not_ends, goes_through, route_comes, stand}
use Rattle.pssm_model_laws.proofs.EndsApart.{step_is_route, ends_apart}
use Rattle.pssm_model_laws.proofs.LateStays.{late_stays, late_area as area_of_late}
use Rattle.pssm_model_laws.proofs.LegRoots.{leg_ends, leg_turned, legs_meet, later_to, later_from, begin_leg, along_leg, through_in_rest}
use Rattle.pssm_model_laws.proofs.UpAndDown.{GoesUp, GoesDown, up_or_down_kind, up_through, IsUp, up_before, up_along, up_no_down, height, along_in_rest, source_of, target_of, some_end}
use Rattle.pssm_model_laws.proofs.RouteKinds.{state_start, one_start, inner_source, internal_alone}
use Rattle.pssm_model_laws.proofs.DownLegs.{down_target, local_target}
use Rattle.pssm_model_laws.proofs.UpScopes.{scope_in_area}
use Rattle.pssm_model_laws.proofs.RouteAreas.{has_area, scope_on, below_exits_nothing}
use Rattle.pssm_legs.proofs.LegEntries.{not_up}
use Rattle.pssm_model_laws.proofs.OneLegScope.{one_area}
use Rattle.pssm_plan.proofs.SteadyPlaces.{IsRegionIn, IsRegionUnder, IsEdge, IsAtOrUnder, IsGoOn, go_on_is_no, same_state, same_region_place, no_circle, one_reached, home_in_scope, at_end_in_scope, under_or_at, in_region_at}

-- The route ends in the region, which lies where the route exits and enters.
abbrev pub Fills : DraftMachine → Route → RegionId → Type 0
Fills m p r = EndsIn m p r × ((area : Scope) × IsAreaOf m p area × IsRegionIn m r area)

-- The route starts with one transition, which leaves the vertex, an initial vertex, a history or a choice.
abbrev pub IsLateFrom : DraftMachine → Route → VertexId → Type 0
IsLateFrom m p v = (t : TransId) × IsLateOrigin m v × IsRoute m p × (p.starts ≡ t ∷ []) × Leaves m t v

-- The region owns that vertex.
abbrev pub IsLateIn : DraftMachine → Route → RegionId → VertexId → Type 0
IsLateIn m p r v = IsLateFrom m p v × (owner_of m (State v) ≡ Some (Region r))

-- The route ends on the vertex, from which the step goes on.
abbrev pub EndsLate : DraftMachine → Route → VertexId → Type 0
EndsLate m p c = EndsOn m p c × IsGoOn m c

pub late_is_within : (m : DraftMachine) (p : Route) (v : VertexId) → IsLateFrom m p v → IsStepRoute m p
late_is_within m p v late = inr (v, late.0, late.1, late.2, late.3, late.4)

-- two States on one owner chain
states_on_chain : (m : DraftMachine) (p : Owner) (s z : VertexId) → LiesUnder m p (State s) → LiesUnder m p (State z)
    → (s ≡ z) ⊎ LiesUnder m (State s) (State z) ⊎ LiesUnder m (State z) (State s)
states_on_chain m p s z (owned up) second =
    ⊎_elim (λ same. inl (same_state s z same)) (λ under. inr (inl under)) (under_cases m p (State s) (State z) up second)
states_on_chain m p s z (further {q = k} up rest) second =
    ⊎_elim
    (λ same. inr (inr (subst (λ x. LiesUnder m x (State s)) same rest)))
    (λ more. states_on_chain m k s z rest more)
    (under_cases m p k (State z) up second)

-- a station is, or lies under, what is entered for it
station_under : (m : DraftMachine) (v s : VertexId) → IsEndState m v s → IsAtOrUnder m v s
station_under m v s at = ⊎_elim (λ same. inl (sym same.1)) (λ entry. inr (owned entry.1)) at

module _ {m : DraftMachine} (shape : HasShape m) (rules : KeepsModelRules m) (p : Route) (step : IsStepRoute m p) where
  the_route : IsRoute m p
  the_route = step_is_route step

  -- what it leaves is one of its vertices
  pub source_is_end : (s : VertexId) → IsSource m p s → IsEndOf m p s
  source_is_end s source = (source.0, of_starts m p source.0 source.1, inl source.2)

  -- what a transition of it ends on lies in its area, where it is not internal
  pub target_in_area : (v : VertexId) (area : Scope) (t : TransId) → On p t → Enters m t v → (GoesAs m p Internal → ⊥) → IsAreaOf m p area
      → LiesInScope m v area
  target_in_area v Nowhere t on e out is = absurd (out is)
  target_in_area v (Inside s) t on e out is =
      let goes = is.0 in
      let same = one_start shape rules p step goes.0 is.1.0 Local goes.1 goes.2 (λ clash. cc) is.1.1 in
      local_target shape rules p step goes.0 s goes.1 goes.2 (subst (λ u. Leaves m u s) same is.1.2) t v on e
  target_in_area v (Within r) t on e out is = is.1.common v (t, on, inr e)

  -- and so does what it enters
  pub entered_in_area : (s : VertexId) → IsEnteredBy m p s → LiesInArea m p s
  entered_in_area s h =
      let v = h.1.0 in
      let station = h.1.1 in
      ⊎_elim
      (λ at. (
      let area = has_area shape rules p step in
      let lies = target_in_area v area.0 station.2.0 station.2.1 station.2.2 h.0 area.1 in
      (area.0, area.1, at_end_in_scope m v s area.0 at lies)
      ))
      (λ around. (around.0, around.1, around.2))
      h.1.2

  -- which is a State or final state
  pub entered_is_state : (s : VertexId) → IsEnteredBy m p s → IsStateOrFinal m s
  entered_is_state s h =
      let v = h.1.0 in
      ⊎_elim
      (⊎_elim
      (λ same. subst (λ x. IsStateOrFinal m x) (sym same.1) same.0)
      (λ entry. (
      let owner = point_owner shape v (inl entry.0) in
      let same = same_state owner.0 s (one_owner m (State v) (State owner.0) (State s) owner.1 entry.1) in
      inl (subst (λ x. HasKind m x kinds.State) same owner.2)
      )))
      (λ around. (let inside = around.3 in inl (shape.regions inside.0 (State s) inside.1).0))
      h.1.2

  -- it ends on what it enters, or in it
  end_here : (v s at : VertexId) → IsEndState m v s ⊎ LiesInState m v s → v ≡ at → IsAtOrUnder m at s
  end_here v s at by same =
      subst (λ x. IsAtOrUnder m x s) same (⊎_elim (station_under m v s) (λ inside. under_or_at m v s (inr inside)) by)

  end_below : (v s at : VertexId) (t last : TransId) → IsStation m p v → IsEndState m v s ⊎ LiesInState m v s → On p t → Enters m t v
      → Enters m last at → GoesNext m p t last → IsAtOrUnder m at s
  end_below v s at t last station by on e f n =
      let here = enters_one m t n.at v n.enters e in
      let l = subst (λ x. Leaves m n.next x) here n.leaves in
      let through = subst (IsThrough m) here (goes_through shape p the_route t n.next n.at on n.enters n.leaves n.in_rest) in
      let down : GoesDown m v =
      ⊎_elim (λ up. absurd (not_up shape rules p step v station.1 station.0 up)) (λ d. d) (up_or_down_kind m v through) in
      ⊎_elim
      (⊎_elim
      (λ same. absurd (through_not_ends m v through same.0))
      (λ entry. inr (sure (known_lies shape (State at) (State s)) (λ none. rules (places.At (elements.Vertex v)) 15 (E15 (
        entry.0,
        λ z owner apart. (
            let y = target_of shape rules p step n.next (of_rest m p n.next n.in_rest) in
            let into = apart.inside n.next y.0 (l, y.1) in
            let inside = entry_after shape rules v z y.0 at n.next into.0 entry.0 owner into.1 l y.1 into.2
            (route_comes shape p the_route rules v (inr (inr entry.0)) l n.along f) in
            let same = one_owner m (State v) (State z) (State s) owner entry.1 in
            none (subst (λ x. LiesUnder m (State at) x) same (under_further inside (owned into.1)))),
      ))))))
      (λ inside. inr (under_further (down_target shape rules p step v at inside.0 down inside.2 l n.along f) (owned inside.1)))
      by

  station_by : (v s : VertexId) → IsEndState m v s ⊎ ((area : Scope) × IsAreaOf m p area × LiesInScope m s area × LiesInState m v s)
      → IsEndState m v s ⊎ LiesInState m v s
  station_by v s by = ⊎_elim (λ at. inl at) (λ around. inr around.3) by

  pub entered_end : (s : VertexId) → IsEnteredBy m p s → (w : VertexId) × EndsOn m p w × IsAtOrUnder m w s
  entered_end s h =
      let v = h.1.0 in
      let station = h.1.1 in
      let t = station.2.0 in
      let end = some_end shape rules p step t station.2.1 in
      let by = station_by v s h.1.2 in (
        end.at,
        (end.last, along_ends m p end.along, end.enters, end.ends),
        ⊎_elim
            (λ same. end_here v s end.at by (enters_one m end.last v end.at (subst (λ x. Enters m x v) same station.2.2) end.enters))
            (λ n. end_below v s end.at t end.last station by station.2.1 station.2.2 end.enters n)
            (along_cases m p end.along),
      )

  -- so it fills the region that owns what it enters
  pub entered_fills : (s : VertexId) (r : RegionId) → owner_of m (State s) ≡ Some (Region r) → IsEnteredBy m p s → Fills m p r
  entered_fills s r e h =
      let inside = entered_in_area s h in
      let end = entered_end s h in (
        (end.0, end.1, in_region_at m end.0 s r end.2 (owned e)),
        (inside.0, inside.1, home_in_scope m s r inside.0 e inside.2),
      )

  -- what it enters around what it enters, where that lies in its area
  pub entered_around : (q s : VertexId) → IsEnteredBy m p q → LiesInState m q s → LiesInArea m p s → IsEnteredBy m p s
  entered_around q s h inside area =
      let v = h.1.0 in
      let lies : LiesInRegion m v inside.0 =
      ⊎_elim
      (⊎_elim
      (λ same. subst (λ x. LiesInRegion m x inside.0) same.1 inside.2)
      (λ entry. further entry.1 inside.2))
      (λ around. under_further around.3.2 (further around.3.1 inside.2))
      h.1.2 in
      (h.0, (v, h.1.1, inr (area.0, area.1, area.2, (inside.0, inside.1, lies))))

  -- two ends in a region lie in one State of it
  apart_in_state : (v w s z : VertexId) (r : RegionId) → owner_of m (State s) ≡ Some (Region r) → LiesInRegion m z r → IsAtOrUnder m v s
      → LiesUnder m (State v) (State z) → LiesUnder m (State w) (State z) → LiesUnder m (State w) (State s)
  apart_in_state v w s z r e z_in at v_under w_under =
      ⊎_elim
      (λ same. absurd (not_under (subst (λ x. LiesUnder m (State x) (State z)) same v_under)))
      (λ under. ⊎_elim
      (λ same. subst (λ x. LiesUnder m (State w) (State x)) (sym same) w_under)
      (⊎_elim (λ wrong. absurd (not_under wrong)) (λ inner. under_further w_under inner))
      (states_on_chain m (State v) s z under v_under))
      at
    where
      not_under : LiesUnder m (State s) (State z) → ⊥
      not_under under =
          ⊎_elim (λ clash. cc) (λ more. no_circle shape r (under_further more z_in)) (under_cases m (State s) (Region r) (State z) e under)

  pub ends_together : (v w s : VertexId) (r : RegionId) → EndsOn m p v → EndsOn m p w → LiesInRegion m w r → owner_of m (State s) ≡ Some (Region r)
      → IsAtOrUnder m v s → IsAtOrUnder m w s
  ends_together v w s r first second lies e at =
      ⊎_elim
      (λ same. subst (λ x. IsAtOrUnder m x s) same at)
      (λ other. (
      let h = ends_apart shape rules p step v w first second other in
      let v_in = in_region_at m v s r at (owned e) in
      let outer = λ (within : IsWithin m r h.second). (
      let wrong : ⊥ = h.apart (regions_apart shape v h.state h.first h.second h.owns_first h.owns_second h.lies_first
      (lies_within m v r h.second v_in within)) in
      wrong) in
      ⊎_elim
      (λ within. absurd (outer within))
      (λ within. ⊎_elim
      (λ same. absurd (outer (inl (sym same))))
      (λ under. inr (apart_in_state v w s h.state r e (state_under m (Region h.second) h.state r h.owns_second under) at
      (under_further h.lies_first (owned h.owns_first)) (under_further h.lies_second (owned h.owns_second))))
      within)
      (on_one_chain m (State w) r h.second lies h.lies_second)
      ))
      (known_vertex v w)

  -- so it enters one State of a region
  pub one_entered : (s q : VertexId) (r : RegionId) → owner_of m (State s) ≡ Some (Region r) → owner_of m (State q) ≡ Some (Region r) → IsEnteredBy m p s
      → IsEnteredBy m p q → s ≡ q
  one_entered s q r e f first second =
      let v = entered_end s first in
      let w = entered_end q second in
      let w_in = in_region_at m w.0 q r w.2 (owned f) in
      one_reached shape w.0 s q r e f (ends_together v.0 w.0 s r v.1 w.1 w_in e v.2) w.2

  -- where it ends it goes no further up
  pub end_not_up : (v : VertexId) → EndsOn m p v → GoesUp m v → ⊥
  end_not_up v h goes_up =
      let onward = λ (u : TransId) (u_on : On p u) (l : Leaves m u v). (
      let wrong : ⊥ = h.3 u (through_in_rest shape rules p step u v u_on l (up_through m v goes_up)) l in wrong) in
      ⊎_elim
      (λ junction. (let one = the_route.goes_on h.0 v kinds.Junction h.1 h.2 junction in onward one.0 one.1 one.2))
      (⊎_elim
      (λ join. rules (places.At (elements.Vertex v)) 5 (E05 (
        join,
        inr (inl (λ out. onward out.0 (the_route.goes_on h.0 v kinds.Join h.1 h.2 join out.0 out.1) out.1)),
      )))
      (λ exit. rules (places.At (elements.Vertex v)) 16 (E16 (
        exit,
        inl (inl (λ out. onward out.0 (the_route.goes_on h.0 v kinds.ExitPoint h.1 h.2 exit out.0 out.1) out.1)),
      ))))
      goes_up

  -- a choice or history on which it ends lies in its area, and it fills the region that owns that
  pub late_not_internal : (c : VertexId) → EndsLate m p c → GoesAs m p Internal → ⊥
  late_not_internal c ends goes =
      let from = source_of shape rules p step goes.0 (of_starts m p goes.0 goes.1) in
      let state = inner_source shape rules p step goes.0 from.0 Internal goes.1 goes.2 (λ clash. cc) from.1 in
      let same = internal_alone shape rules p step goes.0 ends.0.0 goes.1 goes.2 ends.0.1 in
      let enters = subst (λ u. Enters m u c) same ends.0.2 in
      rules (places.At (elements.Transition goes.0)) 13 (E13 (
        goes.2,
        (
          from.0,
          from.1,
          inr (λ back. go_on_is_no m c kinds.State (λ clash. cc) (λ clash. cc) (λ clash. cc) ends.1
              (subst (λ x. HasKind m x kinds.State) (enters_one m goes.0 from.0 c back enters) state)),
        ),
      ))

  pub late_end_in_area : (c : VertexId) → EndsLate m p c → LiesInArea m p c
  late_end_in_area c ends =
      let area = has_area shape rules p step in
      (area.0, area.1, target_in_area c area.0 ends.0.0 ends.0.1 ends.0.2 (late_not_internal c ends) area.1)

  pub late_end_fills : (c : VertexId) (r : RegionId) → owner_of m (State c) ≡ Some (Region r) → EndsLate m p c → Fills m p r
  late_end_fills c r e ends =
      let inside = late_end_in_area c ends in
      ((c, ends.0, owned e), (inside.0, inside.1, home_in_scope m c r inside.0 e inside.2))

  -- it enters the States around that which lie there
  late_station : (c : VertexId) → EndsLate m p c → IsStation m p c
  late_station c ends = (
    (
      λ k. go_on_is_no m c kinds.Terminate (λ clash. cc) (λ clash. cc) (λ clash. cc) ends.1 k,
      λ k. go_on_is_no m c kinds.ExitPoint (λ clash. cc) (λ clash. cc) (λ clash. cc) ends.1 k,
      λ k. go_on_is_no m c kinds.Join (λ clash. cc) (λ clash. cc) (λ clash. cc) ends.1 k,
    ),
    λ k. go_on_is_no m c kinds.Junction (λ clash. cc) (λ clash. cc) (λ clash. cc) ends.1 k,
    (ends.0.0, ends.0.1, ends.0.2),
  )

  pub late_end_enters : (c o : VertexId) → EndsLate m p c → LiesInArea m p o → LiesInState m c o → IsEnteredBy m p o
  late_end_enters c o ends inside lies = (late_not_internal c ends, (c, late_station c ends, inr (inside.0, inside.1, inside.2, lies)))

  -- a local route opens regions at the edge of its area
  pub beside_at_edge : (r : RegionId) (area : Scope) → OpensBeside m p r → IsAreaOf m p area → IsEdge m r area × IsRegionUnder m r area
  beside_at_edge r area beside is =
      let here = one_area shape rules p step (Inside beside.1.0) area (beside.0, beside.1.1) is in
      subst (λ x. IsEdge m r x × IsRegionUnder m r x) here (beside.1.2, owned beside.1.2)

  -- a leg that exits something is that of a transition that does not lead further up, or an earlier one
  pub exits_before : (Active : VertexId → Type 0) (e t : TransId) (q v : VertexId) → LegExits m Active p e q → On p t → Enters m t v → (GoesUp m v → ⊥)
      → SameLeg m p e t ⊎ LaterLeg m p e t
  exits_before Active e t q v exits on enters turns =
      let e_on = scope_on shape rules p step exits.0.1.1 in
      let e_up : IsUp m p e =
      ⊎_elim
      (λ up. up)
      (λ below. absurd (below_exits_nothing shape rules p step Active e q e_on below exits))
      (height shape rules p step e e_on) in
      ⊎_elim
      (λ a. along_leg shape rules p step a)
      (⊎_elim
      (λ a. ⊎_elim
      (λ same. inl (subst (λ x. SameLeg m p x t) same (itself_leg on)))
      (λ n. (
      let before = up_before shape rules p step t n.at (up_along shape rules p step n.along e_up) on n.enters n.leaves n.in_rest in
      absurd (turns (subst (GoesUp m) {x = n.at} (enters_one m t n.at v n.enters enters) before.1))
      ))
      (along_cases m p a))
      (⊎_elim
      (λ beside. absurd (turns (inr (inl (subst (λ x. HasKind m x kinds.Join) (enters_one m t beside.0 v beside.3 enters) beside.1)))))
      (λ b. absurd (up_no_down shape rules p step b.at (up_along shape rules p step b.to_first e_up) b.leaves_first b.kind))))
      (stand shape p the_route rules e t e_on on)

  -- and where the route is local, it is that of its first leg
  pub exits_before_local : (Active : VertexId → Type 0) (e a : TransId) (q s : VertexId) → LegExits m Active p e q → IsLocalFrom m p a s
      → SameLeg m p e a ⊎ LaterLeg m p e a
  exits_before_local Active e a q s exits local =
      let e_on = scope_on shape rules p step exits.0.1.1 in
      let u = local.0 in
      let u_on = leg_ends m p local.1 in
      let u_start = state_start shape rules p step u s u_on local.2 local.3 in
      let area : IsAreaOf m p (Inside s) = ((u, u_start, local.4), (u, u_start, local.2)) in
      let lies = scope_in_area shape rules p step e exits.0.1.0 (Inside s) q area exits.0.1.1 exits.0.1.2 in
      let would : WouldExit m Active p a q = (exits.0.0, (Inside s, local_scope local, lies)) in
      let back = leg_turned m p local.1 in
      ⊎_elim
      (λ way. ⊎_elim (λ leg. inl (legs_meet m p leg back)) (λ later. inr (later_to m p later back)) (along_leg shape rules p step way))
      (⊎_elim
      (λ way. ⊎_elim
      (λ leg. inl (legs_meet m p (leg_turned m p leg) back))
      (λ later. absurd (exits.1 a (later_from m p local.1 later) would))
      (along_leg shape rules p step way))
      (⊎_elim
      (λ beside. inl (legs_meet m p (begin_leg shape rules p step e u e_on u_on (inr (inl beside))) back))
      (λ b. absurd (the_route.apart u u_start (along_in_rest b.to_second b.second_rest)))))
      (stand shape p the_route rules e u e_on u_on)

-- where a route that starts within a step exits and enters
module _ {m : DraftMachine} (shape : HasShape m) (rules : KeepsModelRules m) (p : Route) (r : RegionId) (v : VertexId) (late : IsLateIn m p r v) where
  pub late_step : IsStepRoute m p
  late_step = late_is_within m p v late.0

  -- each of its vertices lies in the region
  pub late_ends : (w : VertexId) → IsEndOf m p w → LiesInRegion m w r
  late_ends w h = late_stays shape rules v late.0.1 r late.1 late.0.0 late.0.4 p late.0.2 late.0.3 w h

  -- where it so exits and enters
  pub late_is_area : IsAreaOf m p (Within r)
  late_is_area = area_of_late shape rules v late.0.1 r late.1 late.0.0 late.0.4 p late.0.2 late.0.3

  pub late_area : (area : Scope) → IsAreaOf m p area → area ≡ Within r
  late_area area is = one_area shape rules p late_step area (Within r) is late_is_area

  -- so it starts in one region
  pub one_late_region : (q : RegionId) (w : VertexId) → IsLateIn m p q w → r ≡ q
  one_late_region q w other =
      let starts : other.0.0 ≡ late.0.0 = (let first = other.0.3 in let second = late.0.3 in cc) in
      let same : w ≡ v = leaves_one m late.0.0 w v (subst (λ t. Leaves m t w) starts other.0.4) late.0.4 in
      let owner = subst (λ x. owner_of m (State x) ≡ Some (Region q)) same other.1 in
      same_region_place r q (one_owner m (State v) (Region r) (Region q) late.1 owner)

  -- what it enters lies in the region
  pub late_lies : (s : VertexId) → IsEnteredBy m p s → LiesInRegion m s r
  late_lies s h =
      let inside = entered_in_area shape rules p late_step s h in
      subst (λ x. LiesInScope m s x) (late_area inside.0 inside.1) inside.2
