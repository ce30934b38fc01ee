-- All vertices of a route have an innermost region in common.
use Rattle.std.proofs.Common.{◌≡◌, ◌⊎◌, ◌≤◌, ◌+◌, ℕ, zero, suc, length, Some, Contains, sym, subst, ◌∙◌, inl, inr, ⊎_elim, arith}
use Rattle.std.proofs.lemmas.Option.{slice_get_within}
use Rattle.pssm_model.specs.declared.ids.VertexId.{VertexId}
use Rattle.pssm_model.specs.declared.ids.RegionId.{RegionId}
use Rattle.pssm_model.specs.declared.ids.TransId.{TransId}
use Rattle.pssm_model.specs.declared.elements.DraftMachine.{DraftMachine}
use Rattle.pssm_model.specs.declared.elements.VertexKind.TheVariants as kinds
use Rattle.pssm_model.specs.declared.elements.Owner.{Owner}
use Rattle.pssm_model.specs.declared.elements.Owner.TheVariants.{Region, State}
use Rattle.pssm_model.specs.declared.elements.Element.TheVariants as elements
use Rattle.pssm_model.specs.declared.elements.FaultPlace.TheVariants as places
use Rattle.pssm_model.specs.declared.steps.Route.{Route}
use Rattle.pssm_model.specs.Forest.{owner_of, LiesUnder, LiesInRegion, IsScope, HasRegionsAbove}
use Rattle.pssm_model.specs.Forest.LiesUnder.{owned, further}
use Rattle.pssm_model.specs.Legs.{transitions_of, Leaves, Enters, On}
use Rattle.pssm_model.specs.Routes.{IsRoute, IsReached}
use Rattle.pssm_model.specs.Routes.IsReached.{start, on}
use Rattle.pssm_model.specs.Shapes.{HasShape}
use Rattle.pssm_model.specs.WellFormed.{KeepsModelRules}
use Rattle.pssm_model.specs.WellFormed.Breaks.{E21}
use Rattle.pssm_model.specs.RouteWords.{IsStepRoute}
use Rattle.pssm_model_laws.specs.inner.RouteWords.{IsEndOf}
use Rattle.pssm_model.proofs.ElementLaws.{kind_unique, leaves_one, enters_one}
use Rattle.pssm_model.proofs.RouteLaws.{is_one}
use Rattle.pssm_model.proofs.OwnerChains.{one_count, owner_above}
use Rattle.pssm_model.proofs.Nesting.{shallower, less_above}
use Rattle.pssm_model_laws.proofs.RegionChains.{IsTopmost, topmost, shares_topmost, topmost_of_other, counted}
use Rattle.pssm_model_laws.proofs.Known.{Known, sure, known_as, known_both, known_below, known_all}
use Rattle.pssm_model_laws.proofs.KnownPlaces.{known_in_region, known_lies, region_of}
use Rattle.pssm_model_laws.proofs.InnerPaths.{home_owner, late_is_no_point, source_there}
use Rattle.pssm_model_laws.proofs.Branches.{of_starts}
use Rattle.pssm_model_laws.proofs.EndsApart.{step_is_route}
use Rattle.pssm_model_laws.proofs.LegRoots.{start_source}
use Rattle.pssm_model_laws.proofs.UpAndDown.{source_of, target_of}
use Rattle.pssm_model_laws.proofs.RouteKinds.{some_start}

-- All vertices of the route lie in the region.
abbrev LiesAllIn : DraftMachine → Route → RegionId → Type 0
LiesAllIn m p q = (v : VertexId) → IsEndOf m p v → LiesInRegion m v q

module _ {m : DraftMachine} (shape : HasShape m) (rules : KeepsModelRules m) (p : Route) (step : IsStepRoute m p) where
  the_route : IsRoute m p
  the_route = step_is_route step

  known_ends : (q : RegionId) (t : TransId) → On p t → Known ((v : VertexId) → Leaves m t v ⊎ Enters m t v → LiesInRegion m v q)
  known_ends q t is =
      let s = source_of shape rules p step t is in
      let w = target_of shape rules p step t is in
      known_as
      (λ both v h. ⊎_elim
      (λ l. subst (λ x. LiesInRegion m x q) (leaves_one m t s.0 v s.1 l) both.0)
      (λ e. subst (λ x. LiesInRegion m x q) (enters_one m t w.0 v w.1 e) both.1)
      h)
      (λ all. (all s.0 (inl s.1), all w.0 (inr w.1)))
      (known_both (known_in_region shape s.0 q) (known_in_region shape w.0 q))

  known_all_in : (q : RegionId) → Known (LiesAllIn m p q)
  known_all_in q =
      known_as
      (λ all v h. all h.0 h.1 v h.2)
      (λ all t is v h. all v (t, is, h))
      (known_all (λ t. (v : VertexId) → Leaves m t v ⊎ Enters m t v → LiesInRegion m v q) (transitions_of p) (λ t is. known_ends q t is))

  -- the ends of a transition lie in one topmost region
  forth : (u : TransId) (v w : VertexId) (top : RegionId) → IsTopmost m (State v) top → Leaves m u v → Enters m u w → IsTopmost m (State w) top
  forth u v w top h l e =
      topmost_of_other m v w top h
      (sure (known_in_region shape w top) (λ out.
      rules (places.At (elements.Transition u)) 21 (E21 (v, w, l, e, inl (λ shared. out (shares_topmost m v w top h shared))))))

  back : (u : TransId) (v w : VertexId) (top : RegionId) → IsTopmost m (State w) top → Leaves m u v → Enters m u w → IsTopmost m (State v) top
  back u v w top h l e =
      topmost_of_other m w v top h
      (sure (known_in_region shape v top) (λ out.
      rules (places.At (elements.Transition u)) 21 (E21 (
        v,
        w,
        l,
        e,
        inl (λ shared.
            out (shares_topmost m w v top h (shared.0, shared.2, shared.1))),
      ))))

  module _ (t : TransId) (s : VertexId) (top : RegionId) (first : Contains p.starts t) (leaves : Leaves m t s) (h : IsTopmost m (State s) top) where
    start_top : (u : TransId) (v : VertexId) → Contains p.starts u → Leaves m u v → IsTopmost m (State v) top
    start_top u v g l =
        ⊎_elim
        (λ single.
        let here : t ≡ u = is_one single.0 t (subst (λ ts. Contains ts t) single.1 first) ∙ sym (is_one single.0 u (subst
        (λ ts. Contains ts u) single.1 g)) in
        subst (λ x. IsTopmost m (State x) top) (leaves_one m u s v (subst (λ x. Leaves m x s) here leaves) l) h)
        (λ join. back u v join.0 top (forth t s join.0 top h leaves (join.2 t first)) l (join.2 u g))
        the_route.starts

    target_top : (u : TransId) (w : VertexId) → IsReached m p u → Enters m u w → IsTopmost m (State w) top
    target_top u w (start g) e =
        let v = source_of shape rules p step u (of_starts m p u g) in
        forth u v.0 w top (start_top u v.0 g v.1) v.1 e
    target_top u w (on {u = k} {v = v} r f l g) e = forth u v w top (target_top k v r f) l e

    source_top : (u : TransId) (v : VertexId) → IsReached m p u → Leaves m u v → IsTopmost m (State v) top
    source_top u v (start g) l = start_top u v g l
    source_top u v (on {u = k} {v = x} r f l g) leaves_v =
        subst (λ y. IsTopmost m (State y) top) (leaves_one m u x v l leaves_v) (target_top k x r f)

    all_in_top : LiesAllIn m p top
    all_in_top v ends =
        ⊎_elim
        (λ l. (source_top ends.0 v (the_route.reached ends.0 ends.1) l).lies)
        (λ e. (target_top ends.0 v (the_route.reached ends.0 ends.1) e).lies)
        ends.2

  nested_there : (q : RegionId) (k : Owner) → LiesUnder m (Region q) k → (o : Owner) × (owner_of m (Region q) ≡ Some o)
  nested_there q k (owned e) = (k, e)
  nested_there q k (further {q = o} e rest) = (o, e)

  -- no more than 32 regions stand above one
  region_bound : (q : RegionId) (n : ℕ) → HasRegionsAbove m (Region q) n → n ≤ 32
  region_bound q n above =
      let owner = owner_above m (Region q) n above in
      let shallow = (shape.regions q owner.0 owner.1).1 in
      let count = one_count {m = m} above shallow.2 in
      let most = shallow.1 in
      omega (arith, count, most)

  -- further in as long as all lies there
  deepest : (fuel : ℕ) (q : RegionId) (n : ℕ) → HasRegionsAbove m (Region q) n → n ≤ 32 → 33 ≤ n + fuel → LiesAllIn m p q
      → (r : RegionId) × IsScope m (IsEndOf m p) r
  deepest zero q n above most enough all = absurd (omega (arith, most, enough))
  deepest (suc fuel) q n above most enough all =
      ⊎_elim
      (λ found.
      let r = region_of found.0 in
      let owner = nested_there r (Region q) found.2.1 in
      let shallow = (shape.regions r owner.0 owner.1).1 in
      let lt = less_above m r q shallow.0 n found.2.1 shallow.2 above in
      deepest fuel r shallow.0 shallow.2 shallow.1 (omega (arith, lt, enough)) found.2.0)
      (λ none. (
        q,
        record {
          common = all;
          innermost = λ r inside under. (
              let owner = nested_there r (Region q) under in
              none (r.0, slice_get_within m.regions r.0 owner.0 owner.1, (inside, under)));
        },
      ))
      (known_below
      (λ k. LiesAllIn m p (region_of k) × LiesUnder m (Region (region_of k)) (Region q))
      (λ k. known_both (known_all_in (region_of k)) (known_lies shape (Region (region_of k)) (Region q)))
      (length m.regions))

  pub some_span : (r : RegionId) × IsScope m (IsEndOf m p) r
  some_span =
      let t = some_start shape rules p step in
      let s = source_of shape rules p step t.0 (of_starts m p t.0 t.1) in
      let lt = source_there shape t.0 s.0 s.1 in
      let home = home_owner shape s.0 lt (λ at_point. ⊎_elim
      (λ state. ⊎_elim
      (λ k. let clash = kind_unique m s.0 kinds.EntryPoint kinds.State k state in cc)
      (λ k. let clash = kind_unique m s.0 kinds.ExitPoint kinds.State k state in cc)
      at_point)
      (λ late. late_is_no_point m s.0 late at_point)
      (start_source shape rules p step t.0 s.0 t.1 s.1)) in
      let above = counted shape s.0 lt in
      let top = topmost m (State s.0) above.0 home.0 above.1 (owned home.1) in
      let over = shallower m (State s.0) top.0 above.0 top.1.lies above.1 in
      let fine = region_bound top.0 over.0 over.2 in
      deepest 33 top.0 over.0 over.2 fine (omega arith) (all_in_top t.0 s.0 top.0 t.1 s.1 top.1)
