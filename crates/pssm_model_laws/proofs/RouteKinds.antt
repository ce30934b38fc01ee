-- What the kinds of its starts say of a route: internal, local and external ones.
use Rattle.std.proofs.Common.{◌≡◌, ◌≢◌, List, [], ◌∷◌, ◌++◌, Contains, sym, subst, ◌∙◌, inl, inr, ⊎_elim}
use Rattle.std.proofs.lemmas.List.Elements.{Contains-append_right, Contains-append_cases}
use Rattle.pssm_model.specs.declared.ids.VertexId.{VertexId}
use Rattle.pssm_model.specs.declared.ids.TransId.{TransId}
use Rattle.pssm_model.specs.declared.elements.DraftMachine.{DraftMachine}
use Rattle.pssm_model.specs.declared.elements.Transition.{Transition}
use Rattle.pssm_model.specs.declared.elements.VertexKind.TheVariants as kinds
use Rattle.pssm_model.specs.declared.elements.TransKind.{TransKind}
use Rattle.pssm_model.specs.declared.elements.TransKind.TheVariants.{External, Local, Internal}
use Rattle.pssm_model.specs.declared.elements.Owner.TheVariants.{State}
use Rattle.pssm_model.specs.declared.elements.Element.TheVariants as elements
use Rattle.pssm_model.specs.declared.elements.FaultPlace.TheVariants as places
use Rattle.pssm_model.specs.declared.steps.Route.{Route}
use Rattle.pssm_model.specs.Forest.{transition_at, HasKind, LiesInRegion, LiesInState}
use Rattle.pssm_model.specs.Forest.LiesUnder.{owned, further}
use Rattle.pssm_model.specs.Legs.{Leaves, Enters, Goes, On}
use Rattle.pssm_model.specs.Routes.{IsRoute, IsReached}
use Rattle.pssm_model.specs.Routes.IsReached.{start, on}
use Rattle.pssm_model.specs.Paths.{IsJunctionPath}
use Rattle.pssm_model.specs.Paths.IsJunctionPath.{one}
use Rattle.pssm_model.specs.Shapes.{HasShape}
use Rattle.pssm_model.specs.WellFormed.{KeepsModelRules}
use Rattle.pssm_model.specs.WellFormed.Breaks.{E05, E07, E13, E14, E16}
use Rattle.pssm_model.specs.RouteWords.{IsStepRoute}
use Rattle.pssm_model_laws.specs.inner.RouteWords.{IsThrough}
use Rattle.pssm_model.proofs.ElementLaws.{mapped_at, kind_unique, leaves_one, enters_one, nothing_in_nil}
use Rattle.pssm_model.proofs.RouteLaws.{in_one, is_one, reached_is_on}
use Rattle.pssm_model.proofs.OwnerChains.{under_further}
use Rattle.pssm_model.proofs.Nesting.{region_cases, lies_within}
use Rattle.pssm_model_laws.proofs.RegionChains.{under_state}
use Rattle.pssm_model_laws.proofs.InnerPaths.{path_more, in_head, source_there, no_circle, point_owner, home_owner, late_is_kind, late_is_no_point, join_from_state}
use Rattle.pssm_model_laws.proofs.Branches.{of_rest, of_starts, through_not_ends, goes_through}
use Rattle.pssm_model_laws.proofs.EndsApart.{step_is_route}
use Rattle.pssm_model_laws.proofs.LateStays.{late_external}
use Rattle.pssm_model_laws.proofs.LegRoots.{Over, start_source, start_not_through, join_start, comes_from}
use Rattle.pssm_model_laws.proofs.LegRoots.Over.{same, over}
use Rattle.pssm_model_laws.proofs.UpAndDown.{IsUp, there, source_of}
use Rattle.pssm_model_laws.proofs.UpAndDown.IsUp.{begins, rises}

pub goes_one : (m : DraftMachine) (t : TransId) (k l : TransKind) → Goes m t k → Goes m t l → k ≡ l
goes_one m t k l h g = cc

-- a path over junctions of the route, with its last transition in it
pub record HasPath (m : DraftMachine) (w t : TransId) (v : VertexId) : Type 0 where
  pub rest : List TransId
  pub path : IsJunctionPath m (w ∷ rest) v
  pub last_in : Contains (w ∷ rest) t

pub over_path : {m : DraftMachine} {p : Route} {w t : TransId} (v : VertexId) → Over m p w t → Enters m t v → HasPath m w t v
over_path {w = w} v (same is) e = record { rest = []; path = one e; last_in = in_one w }
over_path {w = w} v (over {t = t} {u = u} {v = x} o k f l h) e =
    let before = over_path x o f in
    record {
      rest = before.rest ++ u ∷ [];
      path = path_more u v before.path k l e;
      last_in = Contains-append_right (w ∷ before.rest) (u ∷ []) u (in_one u);
    }

module _ {m : DraftMachine} (shape : HasShape m) (rules : KeepsModelRules m) (p : Route) (step : IsStepRoute m p) where
  the_route : IsRoute m p
  the_route = step_is_route step

  pub kind_of_step : (t : TransId) → On p t → (kind : TransKind) × Goes m t kind
  kind_of_step t is =
      let x = there shape rules p step t is in
      (x.0.kind, mapped_at (λ (y : Transition). y.kind) (transition_at m t) x.0 x.1)

  -- what leaves a State is a start
  pub state_start : (t : TransId) (s : VertexId) → On p t → Leaves m t s → HasKind m s kinds.State → Contains p.starts t
  state_start t s is l k =
      ⊎_elim
      (λ h. h)
      (λ h.
      let from = comes_from shape rules p step t h in
      absurd (through_not_ends m s (subst (IsThrough m) (leaves_one m t from.at s from.leaves l) from.through) (inl k)))
      (Contains-append_cases p.starts p.rest t is)

  -- and so is an internal one
  pub internal_start : (t : TransId) → On p t → Goes m t Internal → Contains p.starts t
  internal_start t is goes =
      ⊎_elim
      (λ h. h)
      (λ h.
      let from = comes_from shape rules p step t h in
      absurd (rules (places.At (elements.Transition t)) 13 (E13 (
        goes,
        (
          from.at,
          from.leaves,
          inl (λ k. through_not_ends m from.at from.through
              (inl k)),
        ),
      ))))
      (Contains-append_cases p.starts p.rest t is)

  -- the source of a transition into a join
  pub join_source : (t : TransId) (s j : VertexId) → On p t → Leaves m t s → Enters m t j → HasKind m j kinds.Join → HasKind m s kinds.State
  join_source t s j is l e k =
      ⊎_elim
      (λ state. state)
      (λ late. absurd (join_from_state shape rules t s j l e k (λ state. late_is_kind m s kinds.State late state)))
      (start_source shape rules p step t s (join_start shape rules p step t j is e k) l)

  -- a join does not lie in a source of it
  join_not_inside : (t : TransId) (s j : VertexId) → Leaves m t s → Enters m t j → HasKind m j kinds.Join → LiesInState m j s → ⊥
  join_not_inside t s j l e k inside =
      rules (places.At (elements.Vertex j)) 7 (E07 (
        k,
        inr (λ beside. (
            let into = beside.5.inside t s (e, l) in
            let up : LiesInRegion m s beside.1 = under_further into.2 (further into.1 (owned beside.3)) in
            no_circle shape (State s)
            (under_further (lies_within m s beside.1 inside.0 up (region_cases m (State j) beside.1 inside.0 beside.4 inside.2)) (owned inside.1)))),
      ))

  join_kind : (t : TransId) (j : VertexId) (kind : TransKind) → On p t → Enters m t j → HasKind m j kinds.Join → Goes m t kind → Goes m t External
  join_kind t j External is e k goes = goes
  join_kind t j Internal is e k goes =
      let s = source_of shape rules p step t is in
      let state = join_source t s.0 j is s.1 e k in
      absurd (rules (places.At (elements.Transition t)) 13 (E13 (
        goes,
        (
          s.0,
          s.1,
          inr (λ back.
              let here = enters_one m t s.0 j back e in
              let clash = kind_unique m j kinds.Join kinds.State k (subst (λ x. HasKind m x kinds.State) here state) in cc),
        ),
      )))
  join_kind t j Local is e k goes =
      let s = source_of shape rules p step t is in
      let state = join_source t s.0 j is s.1 e k in
      absurd (rules (places.At (elements.Transition t)) 14 (E14 (
        goes,
        inr (
          s.0,
          j,
          [],
          inl (s.1, state),
          one e,
          λ inside.
              join_not_inside t s.0 j s.1 e k inside,
        ),
      )))

  -- what ends on a join is external
  pub join_external : (t : TransId) (j : VertexId) → On p t → Enters m t j → HasKind m j kinds.Join → Goes m t External
  join_external t j is e k = let kind = kind_of_step t is in join_kind t j kind.0 is e k kind.1

  -- all starts are of one kind
  pub kinds_agree : (t u : TransId) (k l : TransKind) → Contains p.starts t → Contains p.starts u → Goes m t k → Goes m u l → k ≡ l
  kinds_agree t u k l h g first second =
      ⊎_elim
      (λ single.
      let here : t ≡ u = is_one single.0 t (subst (λ ts. Contains ts t) single.1 h) ∙ sym (is_one single.0 u (subst (λ ts. Contains ts u) single.1 g)) in
      goes_one m u k l (subst (λ x. Goes m x k) here first) second)
      (λ join.
      let one_way = join_external t join.0 (of_starts m p t h) (join.2 t h) join.1 in
      let other_way = join_external u join.0 (of_starts m p u g) (join.2 u g) join.1 in
      goes_one m t k External first one_way ∙ goes_one m u External l other_way second)
      the_route.starts

  -- another start of a route that starts with a transition that is not external is the same
  pub one_start : (t u : TransId) (k : TransKind) → Contains p.starts t → Goes m t k → k ≢ External → Contains p.starts u → u ≡ t
  one_start t u k h goes apart g =
      ⊎_elim
      (λ single. is_one single.0 u (subst (λ ts. Contains ts u) single.1 g) ∙ sym (is_one single.0 t (subst (λ ts. Contains ts t) single.1 h)))
      (λ join. absurd (apart (goes_one m t k External goes (join_external t join.0 (of_starts m p t h) (join.2 t h) join.1))))
      the_route.starts

  -- there is a start
  pub some_start : (t : TransId) × Contains p.starts t
  some_start =
      ⊎_elim
      (λ single. (single.0, subst (λ ts. Contains ts single.0) (sym single.1) (in_one single.0)))
      (λ join. by p.starts join.0 join.1 join.3)
      the_route.starts
    where
      by : (ts : List TransId) (j : VertexId) → HasKind m j kinds.Join → ((t : TransId) → Enters m t j → Contains ts t) → (t : TransId) × Contains ts t
      by [] j k all = absurd (rules (places.At (elements.Vertex j)) 5 (E05 (k, inl (λ two. nothing_in_nil two.0 (all two.0 two.3)))))
      by (t ∷ ts) j k all = (t, in_head t ts)

  -- an internal transition is the whole route
  alone_reached : (t u : TransId) → Contains p.starts t → Goes m t Internal → IsReached m p u → u ≡ t
  alone_reached t u h goes (start g) = one_start t u Internal h goes (λ e. cc) g
  alone_reached t u h goes (on {u = k} {v = v} r e l g) =
      let s = source_of shape rules p step t (of_starts m p t h) in
      let before = alone_reached t k h goes r in
      let through = goes_through shape p the_route k u v (reached_is_on m p k r) e l g in
      absurd (rules (places.At (elements.Transition t)) 13 (E13 (
        goes,
        (
          s.0,
          s.1,
          inr (λ back.
              let here : s.0 ≡ v = enters_one m t s.0 v back (subst (λ x. Enters m x v) before e) in
              start_not_through shape rules p step t s.0 h s.1 (subst (IsThrough m) (sym here) through)),
        ),
      )))

  pub internal_alone : (t u : TransId) → Contains p.starts t → Goes m t Internal → On p u → u ≡ t
  internal_alone t u h goes is = alone_reached t u h goes (the_route.reached u is)

  -- a start that is not external leaves a State
  pub inner_source : (t : TransId) (s : VertexId) (k : TransKind) → Contains p.starts t → Goes m t k → k ≢ External → Leaves m t s → HasKind m s kinds.State
  inner_source t s k h goes apart l =
      ⊎_elim
      (λ state. state)
      (λ late.
      let home = home_owner shape s (source_there shape t s l) (late_is_no_point m s late) in
      absurd (apart (goes_one m t k External goes (late_external shape rules s late home.0 home.1 t l))))
      (start_source shape rules p step t s h l)

  -- the first leg of a route that starts locally goes no further up
  module _ (t : TransId) (s : VertexId) (h : Contains p.starts t) (goes : Goes m t Local) (l : Leaves m t s) where
    pub local_state : HasKind m s kinds.State
    local_state = inner_source t s Local h goes (λ e. cc) l

    -- what it comes to over junctions lies in the State
    pub local_inside : (u : TransId) (v : VertexId) → Over m p t u → Enters m u v → (LiesInState m v s → ⊥) → ⊥
    local_inside u v o e out =
        let path = over_path v o e in
        rules (places.At (elements.Transition t)) 14 (E14 (goes, inr (s, v, path.rest, inl (l, local_state), path.path, out)))

    pub local_no_exit : (u : TransId) (x : VertexId) → Over m p t u → Enters m u x → HasKind m x kinds.ExitPoint → ⊥
    local_no_exit u x o e k =
        let path = over_path x o e in
        let owner = point_owner shape x (inr k) in
        let state = local_state in
        local_inside u x o e (λ inside.
        rules (places.At (elements.Vertex x)) 16 (E16 (
          k,
          inr (inr (
            owner.0,
            t ∷ path.rest,
            owner.1,
            path.path,
            λ keeps. (
                let around = keeps.2 s (t, in_head t path.rest, inl l)
                (λ here. let clash = kind_unique m x kinds.ExitPoint kinds.State k (subst (λ y. HasKind m y kinds.State) here state) in cc) in
                no_circle shape (State s)
                (under_further around (further keeps.1 (under_further (under_state m (State x) owner.0 inside.0 owner.1 inside.2) (owned inside.1))))),
          )),
        )))

    pub local_over : {u : TransId} → IsUp m p u → Over m p t u
    local_over {u = u} (begins g) = subst (Over m p t) (sym (one_start t u Local h goes (λ e. cc) g)) (same (of_starts m p t h))
    local_over {u = u} (rises {t = k} {v = v} up e goes_up k_leaves g) =
        let before = local_over up in
        ⊎_elim
        (λ junction. over {v = v} before junction e k_leaves g)
        (⊎_elim
        (λ join.
        let k_on = over_on before in
        let k_start = join_start shape rules p step k v k_on e join in
        let clash = kinds_agree t k Local External h k_start goes (join_external k v k_on e join) in absurd (cc))
        (λ exit. absurd (local_no_exit k v before e exit)))
        goes_up
      where
        over_on : {k : TransId} → Over m p t k → On p k
        over_on (same is) = is
        over_on (over {u = w} o j f n i) = of_rest m p w i
