-- Up a route: what lies before a transition, and the scopes of the legs that end on exit points and joins.
use Rattle.std.proofs.Common.{◌≡◌, ◌≢◌, ◌⊎◌, ◌∷◌, length, Some, Contains, refl, sym, ap, subst, ◌∙◌, inl, inr, ⊎_elim}
use Rattle.std.proofs.lemmas.Option.{slice_get_within}
use Rattle.pssm_model.specs.declared.ids.VertexId.{VertexId}
use Rattle.pssm_model.specs.declared.ids.RegionId.{RegionId}
use Rattle.pssm_model.specs.declared.ids.TransId.{TransId}
use Rattle.pssm_model.specs.declared.elements.DraftMachine.{DraftMachine}
use Rattle.pssm_model.specs.declared.elements.VertexKind.TheVariants as kinds
use Rattle.pssm_model.specs.declared.elements.TransKind.TheVariants.{External, Local, Internal}
use Rattle.pssm_model.specs.declared.elements.Owner.TheVariants.{Region, State}
use Rattle.pssm_model.specs.declared.elements.Element.TheVariants as elements
use Rattle.pssm_model.specs.declared.elements.FaultPlace.TheVariants as places
use Rattle.pssm_model.specs.declared.steps.Route.{Route}
use Rattle.pssm_model.specs.Forest.{owner_of, HasKind, LiesUnder, LiesInRegion, IsScope}
use Rattle.pssm_model.specs.Forest.LiesUnder.{owned, further}
use Rattle.pssm_model.specs.Legs.{Leaves, Enters, On, SameLeg, IsOfLeg, IsInternal, IsLocalFrom, PassesPoint, PassesSomePoint, Scope, LegScope}
use Rattle.pssm_model.specs.Legs.Scope.{Within}
use Rattle.pssm_model.specs.Legs.SameLeg.{itself as itself_leg}
use Rattle.pssm_model.specs.Legs.LegScope.{internal, local, point, other}
use Rattle.pssm_model.specs.Routes.{IsRoute}
use Rattle.pssm_model.specs.Shapes.{HasShape}
use Rattle.pssm_model.specs.WellFormed.{KeepsModelRules}
use Rattle.pssm_model.specs.WellFormed.Breaks.{E07, E13, E16}
use Rattle.pssm_model.specs.RouteWords.{IsStepRoute}
use Rattle.pssm_model_laws.specs.inner.RouteWords.{IsThrough, IsEndOf}
use Rattle.pssm_model.proofs.ElementLaws.{kind_unique, leaves_one, enters_one}
use Rattle.pssm_model.proofs.OwnerChains.{under_further}
use Rattle.pssm_model.proofs.Nesting.{region_cases, lies_within}
use Rattle.pssm_model_laws.proofs.RegionChains.{under_state}
use Rattle.pssm_model.proofs.Scopes.{one_scope}
use Rattle.pssm_model_laws.proofs.Known.{sure, known_below, known_both}
use Rattle.pssm_model_laws.proofs.KnownPlaces.{known_owner, known_in_region, region_of}
use Rattle.pssm_model_laws.proofs.InnerPaths.{in_head, no_circle, regions_apart, point_owner}
use Rattle.pssm_model_laws.proofs.Branches.{Along, GoesNext, along_begins, along_ends, along_cases, of_rest, goes_through, no_way_back}
use Rattle.pssm_model_laws.proofs.Branches.Along.{itself, goes}
use Rattle.pssm_model_laws.proofs.EndsApart.{step_is_route}
use Rattle.pssm_model_laws.proofs.LegRoots.{Over, over_begins, over_ends, over_along, over_leg, over_root, leg_ends, leg_turned, leg_root, rooted, join_start, start_not_through}
use Rattle.pssm_model_laws.proofs.LegRoots.Over.{same, over}
use Rattle.pssm_model_laws.proofs.UpAndDown.{GoesUp, GoesDown, up_through, up_or_down_kind, IsUp, up_before, up_along, up_no_down, turn_stand, source_of}
use Rattle.pssm_model_laws.proofs.RouteKinds.{over_path, goes_one, state_start, join_external, local_no_exit}
use Rattle.pssm_model_laws.proofs.DownLegs.{down_target, down_source}

-- The sources of the transitions that lead to it over junctions lie in the region.
abbrev pub LegIn : DraftMachine → Route → RegionId → TransId → Type 0
LegIn m p q t = (k : TransId) (v : VertexId) → Over m p k t → Leaves m k v → LiesInRegion m v q

-- A transition goes on over a junction, and leads to the other.
record HasOverNext (m : DraftMachine) (p : Route) (k u : TransId) : Type 0 where
  next : TransId
  at : VertexId
  junction : HasKind m at kinds.Junction
  enters : Enters m k at
  leaves : Leaves m next at
  in_rest : Contains p.rest next
  onward : Over m p next u

over_more : {m : DraftMachine} {p : Route} {k u : TransId} → Over m p k u → (k ≡ u) ⊎ HasOverNext m p k u
over_more (same is) = inl refl
over_more {m = m} {p = p} {k = k} (over {t = a} {u = b} {v = v} o j e l h) =
    ⊎_elim
    (λ here. inr (record {
      next = b;
      at = v;
      junction = j;
      enters = subst (λ x. Enters m x v) (sym here) e;
      leaves = l;
      in_rest = h;
      onward = same (of_rest m p b h);
    }))
    (λ more. inr (record {
      next = more.next;
      at = more.at;
      junction = more.junction;
      enters = more.enters;
      leaves = more.leaves;
      in_rest = more.in_rest;
      onward = over {v = v} more.onward j e l h;
    }))
    (over_more o)

module _ {m : DraftMachine} (shape : HasShape m) (rules : KeepsModelRules m) (p : Route) (step : IsStepRoute m p) where
  the_route : IsRoute m p
  the_route = step_is_route step

  -- a point is no vertex between
  over_not_there : (k b : TransId) (x v : VertexId) → Over m p k b → Leaves m k x → Enters m b v → IsThrough m v → x ≢ v
  over_not_there k b x v o l e through here =
      no_way_back shape p the_route rules k b v (over_along m p o) (subst (Leaves m k) here l) e through

  -- so it is before the vertex that a transition leaves which is up
  leg_in_before : (q : RegionId) (t b : TransId) (v : VertexId) → IsUp m p t → LegIn m p q t → On p b → Enters m b v → Leaves m t v → Contains p.rest t
      → LegIn m p q b
  leg_in_before q t b v up all is e l h k x o k_leaves =
      let goes_up = (up_before shape rules p step b v up is e l h).1 in
      let lies : LiesInRegion m v q = all t v (same (of_rest m p t h)) l in
      ⊎_elim
      (λ junction. all k x (over {v = v} o junction e l h) k_leaves)
      (⊎_elim
      (λ join.
      let here = over_root shape rules p step o (inl (join_start shape rules p step b v is e join)) in
      sure (known_in_region shape x q) (λ out. rules (places.At (elements.Vertex v)) 7 (E07 (
        join,
        inr (λ beside. (
            let into = beside.5.inside b x (e, subst (λ y. Leaves m y x) here k_leaves) in
            out (lies_within m x beside.1 q
            (under_further into.2 (further into.1 (owned beside.3)))
            (region_cases m (State v) beside.1 q beside.4 lies)))),
      ))))
      (λ exit.
      let owner = point_owner shape v (inr exit) in
      let path = over_path v o e in
      sure (known_in_region shape x q) (λ out. rules (places.At (elements.Vertex v)) 16 (E16 (
        exit,
        inr (inr (
          owner.0,
          k ∷ path.rest,
          owner.1,
          path.path,
          λ keeps. out (under_further
              (keeps.2 x (k, in_head k path.rest, inl k_leaves) (over_not_there k b x v o k_leaves e (up_through m v goes_up)))
              (further keeps.1 (under_state m (State v) owner.0 q owner.1 lies))),
        )),
      )))))
      goes_up

  pub before_in : {u t : TransId} (q : RegionId) → Along m p u t → IsUp m p t → LegIn m p q t → LegIn m p q u
  before_in q (itself is) up all = all
  before_in {t = t} q (goes {u = k} {v = v} a e l h) up all =
      let k_on = along_ends m p a in
      before_in q a (up_before shape rules p step k v up k_on e l h).0 (leg_in_before q t k v up all k_on e l h)

  -- where the last leg on the way up lies in a region, the whole route does
  module _ (t : TransId) (v : VertexId) (up : IsUp m p t) (is : On p t) (e : Enters m t v) (turn : GoesUp m v → ⊥) (q : RegionId)
      (leg : (x : VertexId) → IsOfLeg m p t x → LiesInRegion m x q) where
    leg_in : LegIn m p q t
    leg_in k x o l = leg x (k, leg_turned m p (over_leg m p o), inl l)

    before_source : (u : TransId) (x : VertexId) → Along m p u t → Leaves m u x → LiesInRegion m x q
    before_source u x a l = before_in q a up leg_in u x (same (along_begins m p a)) l

    before_target : (u : TransId) (x : VertexId) → Along m p u t → Enters m u x → LiesInRegion m x q
    before_target u x a f =
        ⊎_elim
        (λ here. leg x (t, itself_leg is, inr (subst (λ y. Enters m y x) here f)))
        (λ more. subst (λ y. LiesInRegion m y q) (enters_one m u more.at x more.enters f) (before_source more.next more.at more.along more.leaves))
        (along_cases m p a)

    after_ends : (u : TransId) (x : VertexId) → GoesNext m p t u → Leaves m u x ⊎ Enters m u x → LiesInRegion m x q
    after_ends u x n ends =
        let here = enters_one m t n.at v n.enters e in
        let down : GoesDown m n.at = ⊎_elim
        (λ goes_up. absurd (turn (subst (GoesUp m) here goes_up)))
        (λ goes_down. goes_down)
        (up_or_down_kind m n.at (goes_through shape p the_route t n.next n.at is n.enters n.leaves n.in_rest)) in
        let lies = leg n.at (t, itself_leg is, inr n.enters) in
        ⊎_elim
        (λ l. down_source shape rules p step n.at x q down lies n.leaves n.along l)
        (λ f. down_target shape rules p step n.at x q down lies n.leaves n.along f)
        ends

    pub all_in : (x : VertexId) → IsEndOf m p x → LiesInRegion m x q
    all_in x h =
        ⊎_elim
        (λ a. ⊎_elim (λ l. before_source h.0 x a l) (λ f. before_target h.0 x a f) h.2)
        (λ n. after_ends h.0 x n h.2)
        (turn_stand shape rules p step v h.0 up is e turn h.1)

  next_is : (k t u : TransId) (v : VertexId) (more : HasOverNext m p k u) → On p k → HasKind m v kinds.Junction → Enters m k v → Leaves m t v
      → Contains p.rest t → more.next ≡ t
  next_is k t u v more k_on j e l h =
      let here = enters_one m k more.at v more.enters e in
      let one = the_route.goes_on k v kinds.Junction k_on e j in
      one.3 more.next (of_rest m p more.next more.in_rest) (subst (Leaves m more.next) here more.leaves) ∙ sym (one.3 t (of_rest m p t h) l)

  -- of two transitions to which one leads over junctions one leads to the other
  pub over_line : {w t : TransId} (u : TransId) → Over m p w t → Over m p w u → Over m p t u ⊎ Over m p u t
  over_line u (same is) o = inl o
  over_line u (over {t = k} {u = t} {v = v} q junction e l h) o =
      ⊎_elim
      (λ a. ⊎_elim
      (λ here. inr (subst (λ x. Over m p x t) here (over {v = v} (same (over_ends m p q)) junction e l h)))
      (λ more. inl (subst (λ x. Over m p x u) (next_is k t u v more (over_ends m p q) junction e l h) more.onward))
      (over_more a))
      (λ a. inr (over {v = v} a junction e l h))
      (over_line u q o)

  -- so a leg of one chain ends once
  pub one_last : {w t u : TransId} (v : VertexId) → Over m p w t → Over m p w u → Enters m t v → (HasKind m v kinds.Junction → ⊥) → Over m p u t
  one_last {t = t} {u = u} v o q e ends =
      ⊎_elim
      (λ a. ⊎_elim
      (λ here. subst (λ x. Over m p x t) here (same (over_ends m p o)))
      (λ more. absurd (ends (subst (λ x. HasKind m x kinds.Junction) (enters_one m t more.at v more.enters e) more.junction)))
      (over_more a))
      (λ a. a)
      (over_line u o q)

  pub same_last : {w t u : TransId} (v x : VertexId) → Over m p w t → Over m p w u → Enters m t v → (HasKind m v kinds.Junction → ⊥) → Enters m u x
      → (HasKind m x kinds.Junction → ⊥) → u ≡ t
  same_last {t = t} {u = u} v x o q e ends f stops =
      ⊎_elim
      (λ here. here)
      (λ more. absurd (stops (subst (λ y. HasKind m y kinds.Junction) (enters_one m u more.at x more.enters f) more.junction)))
      (over_more (one_last v o q e ends))

  -- the leg of a transition that ends on an exit point: what is in it leads there
  pub up_chain : (b u : TransId) (c : VertexId) → IsUp m p b → On p b → Enters m b c → HasKind m c kinds.ExitPoint → SameLeg m p b u → Over m p u b
  up_chain b u c up is e exit leg =
      let root = rooted shape rules p step b is in
      let to = leg_root shape rules p step root.0 root.1 root.2 leg in
      let no_junction = λ (j : HasKind m c kinds.Junction). (let clash = kind_unique m c kinds.ExitPoint kinds.Junction exit j in
      let wrong : ⊥ = cc in wrong) in
      ⊎_elim
      (λ here. one_last c root.2 (subst (λ x. Over m p x u) (sym here) to.leads) e no_junction)
      (⊎_elim
      (λ a. absurd (⊎_elim
      (λ here.
      let at = enters_one m b c a.0 e (subst (λ x. Enters m x a.0) here a.2) in
      let clash = kind_unique m c kinds.ExitPoint kinds.Join exit (subst (λ x. HasKind m x kinds.Join) (sym at) a.1) in cc)
      (λ more.
      let at = enters_one m root.0 more.at a.0 more.enters a.2 in
      let clash = kind_unique m a.0 kinds.Junction kinds.Join (subst (λ x. HasKind m x kinds.Junction) at more.junction) a.1 in cc)
      (over_more root.2)))
      (λ a. absurd (up_no_down shape rules p step a.0 (up_along shape rules p step (over_along m p root.2) up) a.2 (inl a.1))))
      to.by

  module _ (b : TransId) (c z : VertexId) (up : IsUp m p b) (is : On p b) (e : Enters m b c) (exit : HasKind m c kinds.ExitPoint)
      (owner : owner_of m (State c) ≡ Some (State z)) where
    through_c : IsThrough m c
    through_c = inr (inr (inr (inr exit)))

    -- The region is the one of the State in which the leg begins.
    abbrev pub IsExitRegion : RegionId → Type 0
    IsExitRegion r = (owner_of m (Region r) ≡ Some (State z)) × ((x : VertexId) → Leaves m b x → LiesInRegion m x r)

    pub exit_region : (r : RegionId) × IsExitRegion r
    exit_region =
        let x = source_of shape rules p step b is in
        let path = over_path {p = p} c (same is) e in
        let found = sure
        (known_below
        (λ k. (owner_of m (Region (region_of k)) ≡ Some (State z)) × LiesInRegion m x.0 (region_of k))
        (λ k. known_both (known_owner m (Region (region_of k)) (State z)) (known_in_region shape x.0 (region_of k)))
        (length m.regions))
        (λ none. rules (places.At (elements.Vertex c)) 16 (E16 (
          exit,
          inr (inr (
            z,
            b ∷ path.rest,
            owner,
            path.path,
            λ keeps. none (
              keeps.0.0,
              slice_get_within m.regions keeps.0.0 (State z) keeps.1,
              (keeps.1, keeps.2 x.0 (b, in_head b path.rest, inl x.1) (over_not_there b b x.0 c (same is) x.1 e through_c)),
            ),
          )),
        ))) in
        (region_of found.0, (found.2.0, λ y l. subst (λ k. LiesInRegion m k (region_of found.0)) (leaves_one m b x.0 y x.1 l) found.2.1))

    module _ (r : RegionId) (at : IsExitRegion r) where
      chain_in : (u : TransId) (x : VertexId) → Over m p u b → Leaves m u x ⊎ Enters m u x → x ≢ c → LiesInRegion m x r
      chain_in u x o ends apart =
          let y = source_of shape rules p step b is in
          let path = over_path c o e in
          sure (known_in_region shape x r) (λ out. rules (places.At (elements.Vertex c)) 16 (E16 (
            exit,
            inr (inr (
              z,
              u ∷ path.rest,
              owner,
              path.path,
              λ keeps. (
                  let beginning = keeps.2 y.0 (b, path.last_in, inl y.1) (over_not_there b b y.0 c (same is) y.1 e through_c) in
                  let here = regions_apart shape y.0 z keeps.0 r keeps.1 at.0 beginning (at.1 y.0 y.1) in
                  out (subst (LiesInRegion m x) here (keeps.2 x (u, in_head u path.rest, ends) apart))),
            )),
          )))

      pub exit_leg_in : (x : VertexId) → IsOfLeg m p b x → x ≢ c → LiesInRegion m x r
      exit_leg_in x h apart = chain_in h.0 x (up_chain b h.0 c up is e exit h.1) h.2 apart

      exit_passes : PassesPoint m p b c z
      exit_passes = (owner, (b, itself_leg is, inr (exit, e)))

      pub exit_scope : LegScope m p b (Within r)
      exit_scope = point exit_passes at.0 exit_leg_in

      -- the leg has no other scope
      pub exit_scope_is : (scope : Scope) → LegScope m p b scope → scope ≡ Within r
      exit_scope_is _ (internal i) =
          let x = source_of shape rules p step b is in
          absurd (rules (places.At (elements.Transition b)) 13 (E13 (
            i.1,
            (
              x.0,
              x.1,
              inr (λ back.
                  over_not_there b b x.0 c (same is) x.1 e through_c (enters_one m b x.0 c back e)),
            ),
          )))
      exit_scope_is _ (local {s = s} h) =
          let o = up_chain b h.0 c up is e exit h.1 in
          absurd (local_no_exit shape rules p step h.0 s (state_start shape rules p step h.0 s (over_begins m p o) h.2 h.3) h.4 h.2 b c o e exit)
      exit_scope_is _ (point {s = k} {v = v} {r = q} passes f all) =
          let u_leg = passes.1.1 in
          let o = up_chain b passes.1.0 c up is e exit u_leg in
          ⊎_elim
          (λ entry. absurd (up_no_down shape rules p step v (up_along shape rules p step (over_along m p o) up) entry.1 (inr entry.0)))
          (λ leaves.
          let u_is : passes.1.0 ≡ b = same_last c v o (same (over_begins m p o)) e
          (λ j. let clash = kind_unique m c kinds.ExitPoint kinds.Junction exit j in cc) leaves.1
          (λ j. let clash = kind_unique m v kinds.ExitPoint kinds.Junction leaves.0 j in cc) in
          let v_is : v ≡ c = enters_one m b v c (subst (λ x. Enters m x v) u_is leaves.1) e in
          let owner_is : owner_of m (State c) ≡ Some (State k) = subst (λ x. owner_of m (State x) ≡ Some (State k)) v_is passes.0 in
          let k_is : k ≡ z = cc in
          let x = source_of shape rules p step b is in
          let lies = all x.0 (b, itself_leg is, inl x.1)
          (λ here. over_not_there b b x.0 c (same is) x.1 e through_c (here ∙ v_is)) in
          ap Within (regions_apart shape x.0 z q r (subst (λ y. owner_of m (Region q) ≡ Some (State y)) k_is f) at.0 lies (at.1 x.0 x.1)))
          passes.1.2
      exit_scope_is _ (other there i j k scope) = absurd (k (c, z, exit_passes))

  -- the leg of transitions into a join
  module _ (b : TransId) (j : VertexId) (is : On p b) (e : Enters m b j) (join : HasKind m j kinds.Join) where
    join_starts : (u : TransId) → SameLeg m p b u → Contains p.starts u × Enters m u j
    join_starts u leg =
        let begin = join_start shape rules p step b j is e join in
        let to = leg_root shape rules p step b (inl begin) (same is) leg in
        let ends = λ (first : TransId) (into : Enters m first j) (o : Over m p first u). (
        let here : first ≡ u = ⊎_elim
        (λ h. h)
        (λ more. let clash = kind_unique m j kinds.Join kinds.Junction join (subst (λ x. HasKind m x kinds.Junction)
        (enters_one m first more.at j more.enters into) more.junction) in absurd (cc))
        (over_more o) in
        let found : Contains p.starts u × Enters m u j = (
          join_start shape rules p step u j (leg_ends m p leg) (subst (λ x. Enters m x j) here into) join,
          subst (λ x. Enters m x j) here into,
        ) in found) in
        ⊎_elim
        (λ here. ends to.first (subst (λ x. Enters m x j) here e) to.leads)
        (⊎_elim
        (λ a. ends to.first (subst (Enters m to.first) (enters_one m b a.0 j a.2 e) a.3) to.leads)
        (λ a. absurd (start_not_through shape rules p step b a.0 begin a.2 (inr (inl a.1)))))
        to.by

    pub join_no_point : PassesSomePoint m p b → ⊥
    join_no_point h =
        let passes = h.2 in
        let ends = join_starts passes.1.0 passes.1.1 in
        ⊎_elim
        (λ entry. start_not_through shape rules p step passes.1.0 h.0 ends.0 entry.1 (inr (inr (inr (inl entry.0)))))
        (λ exit. let clash = kind_unique m j kinds.Join kinds.ExitPoint join (subst (λ x. HasKind m x kinds.ExitPoint)
        (enters_one m passes.1.0 h.0 j exit.1 ends.1) exit.0) in cc)
        passes.1.2

    join_not_internal : IsInternal m p b → ⊥
    join_not_internal i = let clash = goes_one m b Internal External i.1 (join_external shape rules p step b j is e join) in cc

    join_not_local : (s : VertexId) → IsLocalFrom m p b s → ⊥
    join_not_local s h =
        let ends = join_starts h.0 h.1 in
        let clash = goes_one m h.0 Local External h.4 (join_external shape rules p step h.0 j (leg_ends m p h.1) ends.1 join) in cc

    module _ (r : RegionId) (home : owner_of m (State j) ≡ Some (Region r)) where
      join_leg_in : (x : VertexId) → IsOfLeg m p b x → LiesInRegion m x r
      join_leg_in x h =
          let ends = join_starts h.0 h.1 in
          ⊎_elim
          (λ l. sure (known_in_region shape x r) (λ out. rules (places.At (elements.Vertex j)) 7 (E07 (
            join,
            inr (λ beside. (
                let into = beside.5.inside h.0 x (ends.1, l) in
                let same_home : owner_of m (State j) ≡ Some (Region beside.1) = beside.4 in
                let up : LiesInRegion m x beside.1 = under_further into.2 (further into.1 (owned beside.3)) in
                out (lies_within m x beside.1 r up (region_cases m (State j) beside.1 r same_home (owned home))))),
          ))))
          (λ f. subst (λ y. LiesInRegion m y r) (enters_one m h.0 j x ends.1 f) (owned home))
          h.2

      pub join_span : IsScope m (IsOfLeg m p b) r
      join_span = record {
        common = join_leg_in;
        innermost = λ q all under. ⊎_elim
            (λ here. no_circle shape (Region q) (subst (λ x. LiesUnder m (Region q) (Region x)) here under))
            (λ out. no_circle shape (Region q) (under_further under out))
            (region_cases m (State j) r q home (all j (b, itself_leg is, inr e)));
      }

      pub join_scope : LegScope m p b (Within r)
      join_scope = other is join_not_internal join_not_local join_no_point join_span

      pub join_scope_is : (scope : Scope) → LegScope m p b scope → scope ≡ Within r
      join_scope_is _ (internal i) = absurd (join_not_internal i)
      join_scope_is _ (local {s = s} h) = absurd (join_not_local s h)
      join_scope_is _ (point {s = k} {v = v} passes f all) = absurd (join_no_point (v, k, passes))
      join_scope_is _ (other {r = q} there i k l span) =
          ap Within (one_scope m (IsOfLeg m p b) j q r (b, itself_leg is, inr e) span join_span)
