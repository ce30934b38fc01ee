-- A way, and what a route goes on with behind its end, make a route: their transitions, in ascending number.
use Rattle.std.proofs.Common.{◌≡◌, ◌≢◌, ◌⊎◌, ◌<◌, List, ◌++◌, length, Option, Contains, sym, subst, ◌∙◌, inl, inr, ⊎_elim, get_or}
use Rattle.std.proofs.lemmas.List.Elements.{Contains-append_left, Contains-append_right, Contains-append_cases, All-contains_itself}
use Rattle.std.proofs.lemmas.Option.{slice_get_within}
use Rattle.pssm_model.specs.declared.ids.VertexId.{VertexId}
use Rattle.pssm_model.specs.declared.ids.RegionId.{RegionId}
use Rattle.pssm_model.specs.declared.ids.TransId.{TransId}
use Rattle.pssm_model.specs.declared.elements.DraftMachine.{DraftMachine}
use Rattle.pssm_model.specs.declared.elements.VertexKind.TheVariants as kinds
use Rattle.pssm_model.specs.declared.steps.Route.{Route}
use Rattle.pssm_model.specs.Forest.{HasKind}
use Rattle.pssm_model.specs.Shapes.{HasShape}
use Rattle.pssm_model.specs.Legs.{Leaves, Enters, On, IsCut, transitions_of}
use Rattle.pssm_model.specs.Paths.LeadsOn.{after}
use Rattle.pssm_model.specs.Routes.{Truth, IsRoute, IsStateRoute, IsTrueAt, HasStarts, IsAscending}
use Rattle.pssm_model.specs.WellFormed.{KeepsModelRules}
use Rattle.pssm_model_laws.specs.inner.RouteWords.{IsThrough}
use Rattle.pssm_model.proofs.ElementLaws.{leaves_one, enters_one}
use Rattle.pssm_model.proofs.RouteLaws.{is_one, one_in_order}
use Rattle.pssm_model_laws.proofs.Known.{known_transition}
use Rattle.pssm_model_laws.proofs.Through.{kinds_clash, not_through, no_cycle, join_from_state, join_one_out, exit_one_out}
use Rattle.pssm_model_laws.proofs.LegShapes.{cut_no_junction}
use Rattle.pssm_model_laws.proofs.RouteOrder.{of_start, of_rest, start_or_rest}
use Rattle.pssm_enabled.specs.Fitting.{PassesBy, StartsOutside}
use Rattle.pssm_enabled.specs.inner.Fitting.{FitsTogether}
use Rattle.pssm_enabled.specs.Starts.{AreStartsWith}
use Rattle.pssm_routes.specs.inner.Starts.{GoesOnBy}
use Rattle.pssm_enabled.specs.Ways.{IsPassedOver, IsWay}
use Rattle.pssm_enabled.specs.Behind.{GoesOnFrom, IsRouteOver}
use Rattle.pssm_enabled.proofs.Fitting.{fits_is_route}
use Rattle.pssm_enabled.proofs.LeadingOn.{passed_through}
use Rattle.pssm_enabled.proofs.StartLaws.{is_among_starts}
use Rattle.pssm_enabled.proofs.Unguarded.{join_true}
use Rattle.pssm_enabled.proofs.WayPaths.{true_is_there, GoesOver, way_has_start, way_has_last, way_is_open, way_leaves, way_goes_on, way_entered, way_led, way_leaves_once}

module _ {m : DraftMachine} (shape : HasShape m) (rules : KeepsModelRules m) (truth : Truth) (within : Option RegionId) (t first last : TransId)
    (path : List TransId) (passed : List VertexId) (way : IsWay m truth within first last passed path) (onward : GoesOnBy m t first)
    (outside : (v : VertexId) → Leaves m t v → IsThrough m v → ⊥) (end : VertexId) (ends : Enters m last end) (behind : List TransId)
    (goes : GoesOnFrom m truth end behind) (q : Route) (over : IsRouteOver m t (path ++ behind) q) where
  -- the start is one of the route's, and leaves no vertex through which routes go on; neither do the others
  begins_with : Contains q.starts t
  begins_with = is_among_starts m t q.starts over.starts

  pub starts_outside : StartsOutside m q.starts
  starts_outside u v inside leaves through =
      ⊎_elim
      (λ single. outside v (subst (λ x. Leaves m x v) (is_one t u (subst (λ ts. Contains ts u) single.0 inside)) leaves) through)
      (λ join. not_through m v kinds.State (λ none. none) (join_from_state rules u join.0 v join.2 ((join.3 u).0 inside) leaves) through)
      over.starts

  -- what leaves a vertex over which ways pass is not the way's first, nor what leaves a junction
  first_outside : (v : VertexId) → Leaves m first v → IsPassedOver m v → ⊥
  first_outside v leaves kind =
      ⊎_elim
      (λ single. outside v (subst (λ x. Leaves m x v) single.0 leaves) (passed_through m v kind))
      (λ join.
      let here : join.0 ≡ v = leaves_one m first join.0 v join.3 leaves in
      ⊎_elim
      (λ junction. kinds_clash m v kinds.Join kinds.Junction (λ e. cc) (subst (λ x. HasKind m x kinds.Join) here join.2) junction)
      (λ exit. kinds_clash m v kinds.Join kinds.ExitPoint (λ e. cc) (subst (λ x. HasKind m x kinds.Join) here join.2) exit)
      kind)
      onward

  -- all transitions of the way and behind it are of the route
  any_on : (u : TransId) → Contains (path ++ behind) u → On q u
  any_on u inside =
      ⊎_elim
      (λ same. subst (On q) (sym same) (of_start m q t begins_with))
      (λ apart. of_rest m q u ((over.rest u).1 (inside, apart)))
      (known_transition u t)

  path_on : (u : TransId) → Contains path u → On q u
  path_on u inside = any_on u (Contains-append_left path behind u inside)

  behind_on : (u : TransId) → Contains behind u → On q u
  behind_on u inside = any_on u (Contains-append_right path behind u inside)

  -- and the route has no others but its starts
  on_cases : (u : TransId) → On q u → Contains q.starts u ⊎ Contains path u ⊎ Contains behind u
  on_cases u is =
      ⊎_elim
      (λ start. inl start)
      (λ further. inr (Contains-append_cases path behind u ((over.rest u).0 further).0))
      (start_or_rest m q u is)

  last_on : On q last
  last_on = path_on last (way_has_last way)

  -- what comes behind the end of the way is not what the way has passed
  pub passed_apart : (v : VertexId) → Contains passed v → IsPassedOver m v → Contains goes.come v → ⊥
  passed_apart v inside kind come =
      let through = passed_through m v kind in
      ⊎_elim
      (λ same.
      let here = subst (λ x. Enters m last x) same ends in
      no_cycle rules v (way_led way v v inside here through))
      (λ led. no_cycle rules v (after (way_led way v end inside ends led.0) led.1))
      (goes.led v come through)

  -- a transition behind the end begins where one of the route ends
  pub behind_leaves : (u : TransId) (v : VertexId) → Contains behind u → Leaves m u v → Contains goes.come v × IsThrough m v
  behind_leaves u v inside leaves =
      let at = goes.leave u inside in
      let here = leaves_one m u at.0 v at.2 leaves in
      (subst (Contains goes.come) here at.1, subst (IsThrough m) here at.3)

  come_entered : (v : VertexId) → Contains goes.come v → (u : TransId) × On q u × Enters m u v
  come_entered v come =
      ⊎_elim
      (λ same. (last, last_on, subst (Enters m last) (sym same) ends))
      (λ by. (by.0, behind_on by.0 by.1, by.2))
      (goes.entered v come)

  -- Where a later transition begins.
  abbrev BeginsThere : VertexId → Type 0
  BeginsThere v = IsThrough m v × ((u : TransId) × On q u × Enters m u v)

  first_leaves : (v : VertexId) → Leaves m first v → first ≢ t → BeginsThere v
  first_leaves v leaves apart =
      ⊎_elim
      (λ single. absurd (apart single.0))
      (λ join.
      let here : join.0 ≡ v = leaves_one m first join.0 v join.3 leaves in
      subst BeginsThere here (inr (inr (inl join.2)), (t, of_start m q t begins_with, join.1)))
      onward

  path_leaves : (u : TransId) (v : VertexId) → Contains path u → u ≢ t → Leaves m u v → BeginsThere v
  path_leaves u v inside apart leaves =
      ⊎_elim
      (λ same. first_leaves v (subst (λ x. Leaves m x v) same leaves) (λ is. apart (same ∙ is)))
      (λ left.
      let by = way_entered way left.0 left.1 in
      subst BeginsThere (leaves_one m u left.0 v left.3 leaves) (passed_through m left.0 left.2, (by.0, path_on by.0 by.1, by.2)))
      (way_leaves way u inside)

  rest_leaves : (u : TransId) (v : VertexId) → Contains q.rest u → Leaves m u v → BeginsThere v
  rest_leaves u v inside leaves =
      let there = (over.rest u).0 inside in
      ⊎_elim
      (λ here. path_leaves u v here there.1 leaves)
      (λ later. (let at = behind_leaves u v later leaves in (at.1, come_entered v at.0)))
      (Contains-append_cases path behind u there.0)

  -- no transition of the way leaves a vertex behind its end
  path_not_behind : (u : TransId) (v : VertexId) → Contains path u → Leaves m u v → HasKind m v kinds.Junction → Contains goes.come v → ⊥
  path_not_behind u v inside leaves junction come =
      ⊎_elim
      (λ same. first_outside v (subst (λ x. Leaves m x v) same leaves) (inl junction))
      (λ left.
      let here = leaves_one m u left.0 v left.3 leaves in
      passed_apart v (subst (Contains passed) here left.1) (inl junction) come)
      (way_leaves way u inside)

  -- the route goes on from each vertex behind the end
  come_passes : (v : VertexId) → Contains goes.come v → PassesBy m (On q) v
  come_passes v come =
      let by = goes.passes v come in
      record {
        one = λ junction.
            let one = by.one junction in (
              one.0,
              behind_on one.0 one.1,
              one.2,
              λ u is leaves. ⊎_elim
                  (λ start. absurd (starts_outside u v start leaves (inl junction)))
                  (⊎_elim
                  (λ here. absurd (path_not_behind u v here leaves junction come))
                  (λ later. one.3 u later leaves))
                  (on_cases u is),
            );
        every = λ cut u leaves. behind_on u (by.every cut u leaves);
      }

  -- and from each that the way has passed
  exit_of : (v : VertexId) → IsPassedOver m v → IsCut m v → HasKind m v kinds.ExitPoint
  exit_of v kind cut = ⊎_elim (λ junction. absurd (cut_no_junction m v cut junction)) (λ exit. exit) kind

  over_passes : (v : VertexId) → GoesOver m passed path v → PassesBy m (On q) v
  over_passes v h = record {
    one = λ junction. (
      h.next,
      path_on h.next h.among,
      h.leaves,
      λ u is leaves. ⊎_elim
          (λ start. absurd (starts_outside u v start leaves (inl junction)))
          (⊎_elim
          (λ here. way_leaves_once first_outside way u h.next v here h.among leaves h.leaves h.over)
          (λ later. absurd (passed_apart v h.inside h.over (behind_leaves u v later leaves).0)))
          (on_cases u is),
    );
    every = λ cut u leaves. subst (On q) (exit_one_out rules v h.next u (exit_of v h.over cut) h.leaves leaves) (path_on h.next h.among);
  }

  path_passes : (u : TransId) (v : VertexId) → Contains path u → Enters m u v → PassesBy m (On q) v
  path_passes u v inside enters =
      ⊎_elim
      (λ same.
      let here : end ≡ v = enters_one m last end v ends (subst (λ x. Enters m x v) same enters) in
      subst (PassesBy m (On q)) here (come_passes end goes.begins))
      (λ left. over_passes v left)
      (way_goes_on way u v inside enters)

  -- from the join of its starts the route goes on by the first transition of the way
  join_passes : (v : VertexId) → Enters m t v → HasKind m v kinds.Join → PassesBy m (On q) v
  join_passes v enters join =
      ⊎_elim
      (λ single. absurd (single.1 v enters join))
      (λ other.
      let here : other.0 ≡ v = enters_one m t other.0 v other.1 enters in
      let out : Leaves m first v = subst (Leaves m first) here other.3 in
      record {
        one = λ junction. absurd (kinds_clash m v kinds.Junction kinds.Join (λ e. cc) junction join);
        every = λ cut u leaves. subst (On q) (join_one_out rules v first u join out leaves) (path_on first (way_has_start way));
      })
      onward

  -- a route with one start goes on as its way does
  pub alone_in_path : ((v : VertexId) → Enters m t v → HasKind m v kinds.Join → ⊥) → Contains path t
  alone_in_path none =
      ⊎_elim
      (λ single. subst (Contains path) single.0 (way_has_start way))
      (λ join. absurd (none join.0 join.1 join.2))
      onward

  start_passes : (u : TransId) (v : VertexId) → Contains q.starts u → Enters m u v → PassesBy m (On q) v
  start_passes u v inside enters =
      ⊎_elim
      (λ single.
      let same = is_one t u (subst (λ ts. Contains ts u) single.0 inside) in
      path_passes t v (alone_in_path single.1) (subst (λ x. Enters m x v) same enters))
      (λ join.
      let here : join.0 ≡ v = enters_one m u join.0 v ((join.3 u).0 inside) enters in
      join_passes v (subst (Enters m t) here join.1) (subst (λ x. HasKind m x kinds.Join) here join.2))
      over.starts

  over_fits : FitsTogether m q
  over_fits = record {
    leave = rest_leaves;
    passes = λ u v is enters. ⊎_elim
        (λ start. start_passes u v start enters)
        (⊎_elim
        (λ here. path_passes u v here enters)
        (λ later. come_passes v (goes.ends u v later enters)))
        (on_cases u is);
  }

  -- the guards are true
  start_true : (u : TransId) → Contains q.starts u → IsTrueAt m truth u
  start_true u inside =
      ⊎_elim
      (λ single.
      let same = is_one t u (subst (λ ts. Contains ts u) single.0 inside) in
      subst (IsTrueAt m truth) (sym same) (way_is_open way t (alone_in_path single.1)).guard)
      (λ join. join_true rules truth u join.0 ((join.3 u).0 inside) join.2)
      over.starts

  pub over_true : (u : TransId) → On q u → IsTrueAt m truth u
  over_true u is =
      ⊎_elim (start_true u) (⊎_elim (λ here. (way_is_open way u here).guard) (λ later. goes.guards u later)) (on_cases u is)

  there_on : (u : TransId) → On q u → u.0 < length m.transitions
  there_on u is = let at = true_is_there m truth u (over_true u is) in slice_get_within m.transitions u.0 at.0 at.1

  has_starts : HasStarts m q
  has_starts =
      ⊎_elim
      (λ single. inl (t, single.0, single.1))
      (λ join. inr (join.0, join.2, λ u inside. (join.3 u).0 inside, λ u into. (join.3 u).1 into))
      over.starts

  starts_ascend : IsAscending q.starts
  starts_ascend =
      ⊎_elim
      (λ single. subst IsAscending (sym single.0) (one_in_order (λ (a b : TransId). a.0 < b.0) t))
      (λ join. join.4)
      over.starts

  pub over_routed : IsRoute m q
  over_routed =
      fits_is_route shape rules q
      (λ k d lt. there_on (get_or (transitions_of q) k d) (All-contains_itself (transitions_of q) k d lt))
      over_fits has_starts starts_ascend over.ascending starts_outside

  -- a transition of the route is of the way, or comes behind it, or is one of the starts
  pub over_cases : (u : TransId) → On q u → Contains q.starts u ⊎ Contains path u ⊎ Contains behind u
  over_cases = on_cases

-- a route is one of States where its start leaves one
pub states_over : {m : DraftMachine} → KeepsModelRules m → (t : TransId) (q : Route) (s : VertexId) → Leaves m t s → HasKind m s kinds.State → IsRoute m q
    → AreStartsWith m t q.starts → IsStateRoute m q
states_over {m} rules t q s leaves state route starts = (
  route,
  λ v source. ⊎_elim
      (λ single.
      let same = is_one t source.0 (subst (λ ts. Contains ts source.0) single.0 source.1) in
      subst (λ x. HasKind m x kinds.State) (leaves_one m t s v leaves (subst (λ x. Leaves m x v) same source.2)) state)
      (λ join. join_from_state rules source.0 join.0 v join.2 ((join.3 source.0).0 source.1) source.2)
      starts,
)
