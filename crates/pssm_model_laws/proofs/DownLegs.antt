-- Down a route all lies in each region in which the vertex lies from which it goes down.
use Rattle.std.proofs.Common.{◌≡◌, ◌≢◌, ◌⊎◌, length, Some, Contains, sym, subst, inl, inr, ⊎_elim}
use Rattle.pssm_model.specs.declared.ids.VertexId.{VertexId}
use Rattle.pssm_model.specs.declared.ids.RegionId.{RegionId}
use Rattle.pssm_model.specs.declared.ids.TransId.{TransId}
use Rattle.pssm_model.specs.declared.elements.DraftMachine.{DraftMachine}
use Rattle.pssm_model.specs.declared.elements.TransKind.TheVariants.{Local}
use Rattle.pssm_model.specs.declared.elements.Owner.TheVariants.{Region, State}
use Rattle.pssm_model.specs.declared.elements.Element.TheVariants as elements
use Rattle.pssm_model.specs.declared.elements.FaultPlace.TheVariants as places
use Rattle.pssm_model.specs.declared.steps.Route.{Route}
use Rattle.pssm_model.specs.Forest.{owner_of, LiesInRegion, LiesInState}
use Rattle.pssm_model.specs.Forest.LiesUnder.{owned, further}
use Rattle.pssm_model.specs.Legs.{Leaves, Enters, Goes, On, IsOfLeg}
use Rattle.pssm_model.specs.Routes.{IsRoute, IsReached}
use Rattle.pssm_model.specs.Routes.IsReached.{start, on}
use Rattle.pssm_model.specs.Shapes.{HasShape}
use Rattle.pssm_model.specs.WellFormed.{KeepsModelRules}
use Rattle.pssm_model.specs.WellFormed.Breaks.{E08, E15}
use Rattle.pssm_model.specs.RouteWords.{IsStepRoute}
use Rattle.pssm_model_laws.specs.inner.RouteWords.{IsEndOf}
use Rattle.pssm_model.proofs.ElementLaws.{leaves_one}
use Rattle.pssm_model.proofs.RouteLaws.{reached_is_on}
use Rattle.pssm_model.proofs.OwnerChains.{under_further}
use Rattle.pssm_model.proofs.Nesting.{region_cases, lies_within}
use Rattle.pssm_model_laws.proofs.RegionChains.{under_state}
use Rattle.pssm_model_laws.proofs.Known.{Known, sure, known_as, known_below, known_both}
use Rattle.pssm_model_laws.proofs.KnownPlaces.{known_owner, known_in_region, region_of}
use Rattle.pssm_model_laws.proofs.InnerPaths.{entry_after}
use Rattle.pssm_model_laws.proofs.Branches.{Along, along_begins, of_rest, goes_through, route_comes, fork_ends_here}
use Rattle.pssm_model_laws.proofs.Branches.Along.{itself, goes}
use Rattle.pssm_model_laws.proofs.EndsApart.{step_is_route}
use Rattle.pssm_model_laws.proofs.LegRoots.{Over, IsBehind, over_along, leg_root, join_start}
use Rattle.pssm_model_laws.proofs.UpAndDown.{GoesDown, up_or_down_kind, IsUp, IsBelow, target_of}
use Rattle.pssm_model_laws.proofs.UpAndDown.IsUp.{begins, rises}
use Rattle.pssm_model_laws.proofs.RouteKinds.{one_start, local_over, local_inside}
use Rattle.std.proofs.lemmas.Option.{slice_get_within}

module _ {m : DraftMachine} (shape : HasShape m) where
  -- whether a vertex lies in a State is known
  pub known_inside : (v s : VertexId) → Known (LiesInState m v s)
  known_inside v s =
      known_as
      (λ h. (region_of h.0, h.2.0, h.2.1))
      (λ h. (h.0.0, slice_get_within m.regions h.0.0 (State s) h.1, (h.1, h.2)))
      (known_below
      (λ k. (owner_of m (Region (region_of k)) ≡ Some (State s)) × LiesInRegion m v (region_of k))
      (λ k. known_both (known_owner m (Region (region_of k)) (State s)) (known_in_region shape v (region_of k)))
      (length m.regions))

module _ {m : DraftMachine} (shape : HasShape m) (rules : KeepsModelRules m) (p : Route) (step : IsStepRoute m p) where
  the_route : IsRoute m p
  the_route = step_is_route step

  -- what comes after a fork or an entry point lies in each region in which that lies
  pub down_target : {k u : TransId} (c x : VertexId) (q : RegionId) → GoesDown m c → LiesInRegion m c q → Leaves m k c → Along m p k u → Enters m u x
      → LiesInRegion m x q
  down_target {k = k} {u = u} c x q down lies l a e =
      sure (known_in_region shape x q) (λ out. ⊎_elim
      (λ fork. rules (places.At (elements.Vertex c)) 8 (E08 (
        fork,
        inr (λ beside. (
            let here = fork_ends_here shape p the_route rules k u c fork l a in
            let into = beside.5.inside k x (l, subst (λ y. Enters m y x) (sym here) e) in
            out (lies_within m x beside.1 q
            (under_further into.2 (further into.1 (owned beside.3)))
            (region_cases m (State c) beside.1 q beside.4 lies)))),
      )))
      (λ entry. rules (places.At (elements.Vertex c)) 15 (E15 (
        entry,
        λ s owner apart. (
            let y = target_of shape rules p step k (along_begins m p a) in
            let into = apart.inside k y.0 (l, y.1) in
            let inside = entry_after shape rules c s y.0 x k into.0 entry owner into.1 l y.1 into.2
            (route_comes shape p the_route rules c (inr (inr entry)) l a e) in
            out (under_further inside (further into.1 (under_state m (State c) s q owner lies)))),
      )))
      down)

  pub down_source : {k u : TransId} (c x : VertexId) (q : RegionId) → GoesDown m c → LiesInRegion m c q → Leaves m k c → Along m p k u → Leaves m u x
      → LiesInRegion m x q
  down_source {k = k} c x q down lies l (itself is) f = subst (λ y. LiesInRegion m y q) (leaves_one m k c x l f) lies
  down_source c x q down lies l (goes {u = u} {w = w} {v = v} a e g h) f =
      subst (λ y. LiesInRegion m y q) (leaves_one m w v x g f) (down_target c v q down lies l a e)

  -- and so does all of a leg that begins there
  pub down_leg : (w t : TransId) (c x : VertexId) (q : RegionId) → IsBehind m p w c → GoesDown m c → LiesInRegion m c q → Over m p w t → IsOfLeg m p t x
      → LiesInRegion m x q
  down_leg w t c x q behind down lies o h =
      let to = leg_root shape rules p step w (inr (c, behind)) o h.1 in
      let ends = λ (first : TransId) (l : Leaves m first c) (a : Along m p first h.0). (
      let found : LiesInRegion m x q = ⊎_elim
      (λ leaves. down_source c x q down lies l a leaves)
      (λ enters. down_target c x q down lies l a enters)
      h.2 in found) in
      ⊎_elim
      (λ e. ends w behind.leaves (subst (λ y. Along m p y h.0) (sym e) (over_along m p to.leads)))
      (⊎_elim
      (λ a. absurd (the_route.apart w
      (join_start shape rules p step w a.0 (of_rest m p w behind.in_rest) a.2 a.1) behind.in_rest))
      (λ a. ends to.first (subst (Leaves m to.first) (leaves_one m w a.0 c a.2 behind.leaves) a.3) (over_along m p to.leads)))
      to.by

  -- a local route stays in its State
  module _ (t : TransId) (s : VertexId) (h : Contains p.starts t) (local : Goes m t Local) (l : Leaves m t s) where
    -- the transition is up, or comes after a fork or an entry point in the State
    abbrev IsLocalPlace : TransId → Type 0
    IsLocalPlace u = IsUp m p u ⊎ ((b : IsBelow m p u) × LiesInState m b.at s)

    up_target : {u : TransId} (v : VertexId) → IsUp m p u → Enters m u v → LiesInState m v s
    up_target {u = u} v up e =
        sure (known_inside shape v s) (λ out. local_inside shape rules p step t s h local l u v (local_over shape rules p step t s h local l up) e out)

    local_place : (u : TransId) → IsReached m p u → IsLocalPlace u
    local_place u (start g) = inl (begins g)
    local_place u (on {u = k} {v = v} r e k_leaves g) =
        ⊎_elim
        (λ up. ⊎_elim
        (λ goes_up. inl (rises {v = v} up e goes_up k_leaves g))
        (λ down. inr (
          record { first = u; at = v; kind = down; leaves = k_leaves; in_rest = g; along = itself (of_rest m p u g) },
          up_target v up e,
        ))
        (up_or_down_kind m v (goes_through shape p the_route k u v (reached_is_on m p k r) e k_leaves g)))
        (λ below. inr (
          record {
            first = below.0.first;
            at = below.0.at;
            kind = below.0.kind;
            leaves = below.0.leaves;
            in_rest = below.0.in_rest;
            along = goes {v = v} below.0.along e k_leaves g;
          },
          below.1,
        ))
        (local_place k r)

    pub local_target : (u : TransId) (v : VertexId) → On p u → Enters m u v → LiesInState m v s
    local_target u v is e =
        ⊎_elim
        (λ up. up_target v up e)
        (λ below. (below.1.0, below.1.1, down_target below.0.at v below.1.0 below.0.kind below.1.2 below.0.leaves below.0.along e))
        (local_place u (the_route.reached u is))

    local_source : (u : TransId) (v : VertexId) → IsReached m p u → Leaves m u v → v ≢ s → LiesInState m v s
    local_source u v (start g) leaves apart =
        absurd (apart (leaves_one m t v s (subst (λ x. Leaves m x v) (one_start shape rules p step t u Local h local (λ e. cc) g) leaves) l))
    local_source u v (on {u = k} {v = x} r e k_leaves g) leaves apart =
        subst (λ y. LiesInState m y s) (leaves_one m u x v k_leaves leaves) (local_target k x (reached_is_on m p k r) e)

    -- all its vertices but the State itself lie in it
    pub local_stays : (v : VertexId) → IsEndOf m p v → v ≢ s → LiesInState m v s
    local_stays v ends apart =
        ⊎_elim
        (λ leaves. local_source ends.0 v (the_route.reached ends.0 ends.1) leaves apart)
        (λ enters. local_target ends.0 v ends.1 enters)
        ends.2
