-- Whether a route can join what was chosen is known.
use Rattle.std.proofs.Common.{◌≡◌, ◌⊎◌, ◌<◌, ◌∙◌, ℕ, List, length, Option, Some, None, sym, subst, inl, inr, ⊎_elim}
use Rattle.pssm_model.specs.declared.ids.VertexId.{VertexId}
use Rattle.pssm_model.specs.declared.ids.RegionId.{RegionId}
use Rattle.pssm_model.specs.declared.ids.TransId.{TransId}
use Rattle.pssm_model.specs.declared.elements.DraftMachine.{DraftMachine}
use Rattle.pssm_model.specs.declared.elements.Vertex.{Vertex}
use Rattle.pssm_model.specs.declared.elements.VertexKind.TheVariants as kinds
use Rattle.pssm_model.specs.declared.elements.TransKind.TheVariants.{External}
use Rattle.pssm_model.specs.declared.elements.Owner.{Owner}
use Rattle.pssm_model.specs.declared.elements.Owner.TheVariants.{Region, State}
use Rattle.pssm_model.specs.declared.steps.Route.{Route}
use Rattle.pssm_model.specs.declared.steps.Event.{Event}
use Rattle.pssm_model.specs.Forest.{vertex_at, HasKind, owner_of, LiesUnder, LiesInRegion, LiesInState, IsOrLiesIn, IsWithin, HasRegionsAbove}
use Rattle.pssm_model.specs.Forest.LiesUnder.{owned, further}
use Rattle.pssm_model.specs.Forest.HasRegionsAbove.{region, state, machine}
use Rattle.pssm_model.specs.Shapes.{HasShape}
use Rattle.pssm_model.specs.Legs.{Leaves, Enters, Goes, Scope, LiesInScope}
use Rattle.pssm_model.specs.Legs.Scope.{Nowhere, Inside, Within}
use Rattle.pssm_model.specs.Configuration.{Configuration, IsComplete}
use Rattle.pssm_model.specs.Routes.{Truth, IsStateRoute}
use Rattle.pssm_model.specs.WellFormed.{KeepsModelRules}
use Rattle.pssm_model.proofs.ElementLaws.{some_at, mapped_some, leaves_one, external_split}
use Rattle.pssm_model_laws.proofs.InnerPaths.{home_owner}
use Rattle.pssm_model.proofs.OwnerChains.{top_lies_nowhere}
use Rattle.pssm_model.proofs.Nesting.{under_cases, home_of_vertex}
use Rattle.pssm_model_laws.proofs.StateRoutes.{leaves_some}
use Rattle.pssm_model_laws.proofs.Through.{kinds_clash, target_there}
use Rattle.pssm_routes.specs.declared.areas.Footprint.{Footprint}
use Rattle.pssm_legs.specs.Areas.{scope_of}
use Rattle.pssm_enabled.specs.Behind.{IsRouteBehind}
use Rattle.pssm_routes.specs.inner.Footprints.{IsAnchorBy}
use Rattle.pssm_enabled.specs.Ways.{IsWayOut}
use Rattle.pssm_routes.specs.inner.Rooms.{EndsWithin, IsOpenRoom}
use Rattle.pssm_routes.specs.inner.Starts.{GoesOnBy, IsStartedWith}
use Rattle.pssm_routes.specs.inner.Sets.{HasJoiner, HasFreeRoute, IsTouched, HoldsSource, IsCeiling}
use Rattle.pssm_routes.proofs.Bounds.{all_within}
use Rattle.pssm_routes.proofs.Conflicts.{some_footprint}
use Rattle.pssm_routes.proofs.Enabled.{started_state}
use Rattle.pssm_routes.proofs.JoiningSteps.{state_outside, none_joins_shut, none_joins, step_route, step_true}
use Rattle.pssm_routes.proofs.Rooms.{goes_at, touched_is_shut, open_unless_external, shut_without_ceiling, open_below_ceiling}
use Rattle.pssm_routes.proofs.RoutesOver.{some_route_behind, joiner_is_free, joiner_started, joiner_among, free_joins}
use Rattle.pssm_routes.proofs.Spans.{some_beside}
use Rattle.pssm_enabled.proofs.StartLaws.{is_among_starts, some_starts, starts_alone}
use Rattle.pssm_routes.proofs.Onward.{some_onward}
use Rattle.pssm_enabled.proofs.Trees.{target_some}
use Rattle.pssm_routes.proofs.WayEnds.{out_leads_further, out_no_join}
use Rattle.pssm_model_laws.proofs.Known.{Known, known_as, known_both, known_either, known_among, known_vertex}
use Rattle.pssm_model_laws.proofs.KnownPlaces.{known_vertex_kind, known_in_region, known_in_state}
use Rattle.pssm_object.proofs.MachineLaws.{leaving_there}
use Rattle.pssm_object.proofs.KnownWays.{onward_target, known_leads, some_way}
use Rattle.pssm_object.proofs.KnownStarts.{known_sources_among, known_started}

module _ {m : DraftMachine} (shape : HasShape m) (footprints : List Footprint) where
  known_in_scope : (v : VertexId) (scope : Scope) → Known (LiesInScope m v scope)
  known_in_scope v Nowhere = inr (λ h. h)
  known_in_scope v (Inside s) = known_in_state shape v s
  known_in_scope v (Within r) = known_in_region shape v r

  known_or_in : (v s : VertexId) → Known (IsOrLiesIn m v s)
  known_or_in v s = known_either (known_vertex v s) (known_in_state shape v s)

  -- whether an anchor is at the State, or an area covers it
  known_touched : (s : VertexId) → Known (IsTouched m footprints s)
  known_touched s =
      known_among
      (λ a. LiesInScope m s (scope_of a.area) ⊎ IsOrLiesIn m a.source s ⊎ IsOrLiesIn m s a.source)
      footprints
      (λ a inside. known_either (known_in_scope s (scope_of a.area)) (known_either (known_or_in a.source s) (known_or_in s a.source)))

  known_held : (r : RegionId) → Known (HoldsSource m footprints r)
  known_held r = known_among (λ a. LiesInRegion m a.source r) footprints (λ a inside. known_in_region shape a.source r)

  -- the largest region above a place in which no anchor lies
  record IsLargest (p : Owner) (r : RegionId) : Type 0 where
    pub around : LiesUnder m p (Region r)
    pub free : HoldsSource m footprints r → ⊥
    pub largest : (q : RegionId) → LiesUnder m p (Region q) → (HoldsSource m footprints q → ⊥) → IsWithin m q r

  abbrev NoneIsFree : Owner → Type 0
  NoneIsFree p = (r : RegionId) → LiesUnder m p (Region r) → (HoldsSource m footprints r → ⊥) → ⊥

  abbrev LargestOrNone : Owner → Type 0
  LargestOrNone p = ((r : RegionId) × IsLargest p r) ⊎ NoneIsFree p

  -- one place further in
  below_region : (p : Owner) (r : RegionId) → owner_of m p ≡ Some (Region r) → LargestOrNone (Region r) → LargestOrNone p
  below_region p r e above =
      ⊎_elim
      (λ (top, is). inl (
        top,
        record {
          around = further e is.around;
          free = is.free;
          largest = λ q under free. ⊎_elim
              (λ (same : Region r ≡ Region q). subst (λ x. IsWithin m x top) (let one : r ≡ q = cc in one) (inr is.around))
              (λ more. is.largest q more free)
              (under_cases m p (Region r) (Region q) e under);
        },
      ))
      (λ none. ⊎_elim
      (λ held. inr (λ q under free. ⊎_elim
      (λ (same : Region r ≡ Region q). free (subst (HoldsSource m footprints) (let one : r ≡ q = cc in one) held))
      (λ more. none q more free)
      (under_cases m p (Region r) (Region q) e under)))
      (λ empty. inl (
        r,
        record {
          around = owned e;
          free = empty;
          largest = λ q under free. ⊎_elim
              (λ (same : Region r ≡ Region q). inl (let one : q ≡ r = cc in one))
              (λ more. absurd (none q more free))
              (under_cases m p (Region r) (Region q) e under);
        },
      ))
      (known_held r))
      above

  below_state : (p : Owner) (s : VertexId) → owner_of m p ≡ Some (State s) → LargestOrNone (State s) → LargestOrNone p
  below_state p s e above =
      ⊎_elim
      (λ (top, is). inl (
        top,
        record { around = further e is.around; free = is.free; largest = λ q under free. is.largest q (up q under) free },
      ))
      (λ none. inr (λ q under free. none q (up q under) free))
      above
    where
      up : (q : RegionId) → LiesUnder m p (Region q) → LiesUnder m (State s) (Region q)
      up q under = ⊎_elim (λ same. absurd (cc)) (λ more. more) (under_cases m p (State s) (Region q) e under)

  largest_above : {p : Owner} {n : ℕ} → HasRegionsAbove m p n → LargestOrNone p
  largest_above {p = p} (region {r = r} e above) = below_region p r e (largest_above above)
  largest_above {p = p} (state {s = s} e above) = below_state p s e (largest_above above)
  largest_above {p = p} (machine e) =
      inr (λ q under free. ⊎_elim (λ same. absurd (cc)) (λ more. top_lies_nowhere {m = m} (Region q) more) (under_cases m p _ (Region q) e under))

  -- around a State there is a largest region without an anchor, or each region holds one
  ceiling_or_none : (s : VertexId) → HasKind m s kinds.State → ((r : RegionId) × IsCeiling m footprints s r) ⊎ NoneIsFree (State s)
  ceiling_or_none s kind =
      let x = mapped_some (λ (y : Vertex). y.kind) (vertex_at m s) kinds.State kind in
      ⊎_elim
      (λ (top, is). inl (top, record { around = is.around; free = is.free; largest = is.largest }))
      (λ none. inr none)
      (largest_above (shape.vertices s x.0 x.1).1.2)

module _ {m : DraftMachine} (rules : KeepsModelRules m) (shape : HasShape m) where
  -- a State from which routes with a start start that leaves a State
  record HasAnchor (t : TransId) : Type 0 where
    pub anchor : VertexId
    pub kind : HasKind m anchor kinds.State
    pub by : IsAnchorBy m t anchor

  join_home : (t : TransId) (j : VertexId) → Enters m t j → HasKind m j kinds.Join → (h : RegionId) × (owner_of m (State j) ≡ Some (Region h))
  join_home t j enters join =
      home_owner shape j (target_there shape t j enters) (λ point. ⊎_elim
      (λ k. kinds_clash m j kinds.Join kinds.EntryPoint (λ e. cc) join k)
      (λ k. kinds_clash m j kinds.Join kinds.ExitPoint (λ e. cc) join k)
      point)

  join_anchor : (t : TransId) (s j : VertexId) → Leaves m t s → Enters m t j → HasKind m j kinds.Join → HasAnchor t
  join_anchor t s j leaves enters join =
      let home = join_home t j enters join in
      let beside = some_beside shape rules t s j home.0 leaves enters join (home_of_vertex m j home.0 home.1) in
      record {
        anchor = beside.0;
        kind = beside.1.0;
        by = inr (
          j,
          enters,
          join,
          beside.1.0,
          beside.1.1 ∙ sym home.1,
          λ q left. subst (λ x. LiesInState m x beside.0) (leaves_one m t s q leaves left) beside.1.2,
        );
      }

  some_anchor_by : (t : TransId) (s v : VertexId) → Leaves m t s → HasKind m s kinds.State → Enters m t v → HasAnchor t
  some_anchor_by t s v leaves kind enters =
      ⊎_elim
      (λ join. join_anchor t s v leaves enters join)
      (λ none. record { anchor = s; kind = kind; by = inl (leaves, starts_alone m t v enters none) })
      (known_vertex_kind m v kinds.Join)

-- a start out of a State, and the transition by which a route goes on from it
module _ {m : DraftMachine} (rules : KeepsModelRules m) (shape : HasShape m) (truth : Truth) (footprints : List Footprint) (t : TransId) (s v : VertexId)
    (leaves : Leaves m t s) (kind : HasKind m s kinds.State) (enters : Enters m t v) (u : TransId) (onward : GoesOnBy m t u) where
  -- a route over a way out in the room ends in it
  ends_within : (within : Option RegionId) → IsOpenRoom m footprints t within → (last : TransId) (path : List TransId)
      → IsWayOut m truth within u last path → (q : Route) → IsRouteBehind m truth t last path q → IsStateRoute m q → EndsWithin m within q
  ends_within None room last path way q over states = λ x w is into. tt
  ends_within (Some r) room last path way q over states =
      all_within shape rules truth r t u last path way.passed way.way onward (state_outside m t s leaves kind) over.end over.enters over.behind
      over.goes_on q over.over (inl states) (way.ends over.end over.enters) (out_no_join rules truth (Some r) t u last path way onward over.end over.enters)
      room.joins

  module _ (within : Option RegionId) (room : IsOpenRoom m footprints t within) where
    -- so with each way out there is a route that clashes with none of the footprints
    way_joins : (last : TransId) (path : List TransId) → IsWayOut m truth within u last path → HasFreeRoute m truth footprints t
    way_joins last path way =
        let starts = some_starts m t v enters in
        let made = some_route_behind rules shape truth t last path starts.0 starts.1 (out_leads_further rules truth within t u last path way onward) in
        let q = made.0 in
        let over = made.1 in
        let states = step_route rules shape truth footprints t within room u onward s leaves kind last path way q over in
        let start = is_among_starts m t q.starts over.over.starts in
        let footprint = some_footprint shape rules q states in
        let ends = ends_within within room last path way q over states in (
          q,
          footprint.0,
          states,
          start,
          step_true rules shape truth footprints t within room u onward s leaves kind last path way q over,
          footprint.1,
          room.clear q footprint.0 states start footprint.1 ends,
        )

    known_in_room : Known (HasFreeRoute m truth footprints t)
    known_in_room =
        let w = onward_target m t u v enters onward in
        ⊎_elim
        (λ out. let way = some_way shape rules truth within u out in inl (way_joins way.0 way.1 way.2))
        (λ none. inr (none_joins rules shape truth footprints t within room u onward None none))
        (known_leads shape rules truth within u w.0 w.1)

-- whether a start out of a State has such a route
module _ {m : DraftMachine} (rules : KeepsModelRules m) (shape : HasShape m) (truth : Truth) (footprints : List Footprint) (t : TransId) (s v : VertexId)
    (leaves : Leaves m t s) (kind : HasKind m s kinds.State) (enters : Enters m t v) where
  known_within : (within : Option RegionId) → IsOpenRoom m footprints t within → Known (HasFreeRoute m truth footprints t)
  known_within within room =
      let u = some_onward rules t v enters in
      known_in_room rules shape truth footprints t s v leaves kind enters u.0 u.1 within room

  known_untouched : (a : VertexId) → HasKind m a kinds.State → IsAnchorBy m t a → (IsTouched m footprints a → ⊥)
      → Known (HasFreeRoute m truth footprints t)
  known_untouched a around by untouched =
      let at = some_at m.transitions t.0 (leaving_there m t s leaves) in
      let goes = goes_at m t at.0 at.1 in
      ⊎_elim
      (λ (external : at.0.kind ≡ External).
      let outward : Goes m t External = subst (Goes m t) external goes in
      ⊎_elim
      (λ top. known_within (Some top.0) (open_below_ceiling rules shape footprints t a by untouched outward top.0 top.1))
      (λ none. inr (none_joins_shut rules shape truth footprints t
      (shut_without_ceiling rules shape footprints t a by untouched outward none)))
      (ceiling_or_none shape footprints a around))
      (λ other. known_within None (open_unless_external rules shape footprints t a by untouched at.0.kind goes other))
      (external_split at.0.kind)

  pub known_free : Known (HasFreeRoute m truth footprints t)
  known_free =
      let anchor = some_anchor_by rules shape t s v leaves kind enters in
      ⊎_elim
      (λ touched. inr (none_joins_shut rules shape truth footprints t (touched_is_shut rules shape footprints t anchor.anchor anchor.by touched)))
      (λ untouched. known_untouched anchor.anchor anchor.kind anchor.by untouched)
      (known_touched shape footprints anchor.anchor)

module _ {m : DraftMachine} (rules : KeepsModelRules m) (shape : HasShape m) (now : Configuration) (known : (s : VertexId) → Known (now.Active s))
    (complete : (s : VertexId) → Known (IsComplete m now s)) (truth : Truth) (event : Event) where
  known_started_joiner : (states : List VertexId) (footprints : List Footprint) (t : TransId) (s v : VertexId) → Leaves m t s → Enters m t v
      → IsStartedWith m now event t → Known (HasJoiner m now truth event states footprints t)
  known_started_joiner states footprints t s v leaves enters started =
      known_as
      (λ h. free_joins rules shape truth footprints t now event states started h.0 h.1)
      (λ h. (joiner_among rules shape truth footprints t now event states h, joiner_is_free rules shape truth footprints t now event states h))
      (known_both
      (known_sources_among m states t v enters)
      (known_free rules shape truth footprints t s v leaves (started_state now event t s started leaves) enters))

  -- whether a route with the start can join whose sources are among some States
  pub known_joiner : (states : List VertexId) (footprints : List Footprint) (t : TransId) → t.0 < length m.transitions
      → Known (HasJoiner m now truth event states footprints t)
  known_joiner states footprints t there =
      let s = leaves_some m t there in
      let v = target_some m t s.0 s.1 in
      ⊎_elim
      (λ started. known_started_joiner states footprints t s.0 v.0 s.1 v.1 started)
      (λ not. inr (λ h. not (joiner_started rules shape truth footprints t now event states h)))
      (known_started m now known complete event t v.0 v.1)
