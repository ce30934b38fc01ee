-- Where several routes fire that do not conflict, they exit and enter in places that lie apart.
use Rattle.std.proofs.Common.{◌≡◌, ◌≢◌, ◌⊎◌, List, [], ◌∷◌, Some, refl, sym, ap, subst, inl, inr, ⊎_elim}
use Rattle.pssm_model.specs.declared.ids.VertexId.{VertexId}
use Rattle.pssm_model.specs.declared.ids.RegionId.{RegionId}
use Rattle.pssm_model.specs.declared.ids.TransId.{TransId}
use Rattle.pssm_model.specs.declared.elements.DraftMachine.{DraftMachine}
use Rattle.pssm_model.specs.declared.elements.Owner.TheVariants.{Region, State}
use Rattle.pssm_model.specs.declared.steps.Route.{Route}
use Rattle.pssm_model.specs.Forest.{owner_of, LiesUnder, LiesInRegion, IsOrLiesIn}
use Rattle.pssm_model.specs.Shapes.{HasShape}
use Rattle.pssm_model.specs.WellFormed.{KeepsModelRules}
use Rattle.pssm_model.specs.Configuration.{Configuration}
use Rattle.pssm_model.specs.Course.{Head, FiresBy}
use Rattle.pssm_model.specs.Legs.{Exits, Scope, LiesInScope}
use Rattle.pssm_model.specs.Legs.Scope.{Nowhere, Inside, Within}
use Rattle.pssm_model.specs.Routes.{IsSource, IsStateRoute}
use Rattle.pssm_model_laws.specs.inner.RouteWords.{IsAreaOf, IsAnchorOf}
use Rattle.pssm_plan.specs.Steadiness.{BeginsWell}
use Rattle.pssm_plan.specs.inner.OverRoutes.{LiesInArea}
use Rattle.pssm_model.proofs.RouteLaws.{same_route, conflict_from_source}
use Rattle.pssm_model.proofs.OwnerChains.{one_owner, under_further}
use Rattle.pssm_model.proofs.Nesting.{under_cases, lies_within}
use Rattle.pssm_model_laws.proofs.LegScopes.{shared_touch}
use Rattle.pssm_model_laws.proofs.RouteAreas.{route_exits}
use Rattle.pssm_model_laws.proofs.OneLegScope.{one_area}
use Rattle.pssm_model_laws.proofs.Anchors.{Meet, anchor_source, anchor_around, conflict_is}
use Rattle.pssm_model_laws.proofs.SomeAnchor.{some_anchor}
use Rattle.pssm_model_laws.proofs.Known.{Known, known_both, known_as, known_transition}
use Rattle.pssm_plan.proofs.SteadyPlaces.{IsRegionIn, IsEdge, IsPlaceIn, same_state, edge_owner_outside, edge_not_around, region_in_scope, around_in_scope, place_apart, under_state}
use Rattle.pssm_plan.proofs.RoutePlaces.{source_is_end}

-- The route fires, and starts at States.
abbrev pub IsFired : DraftMachine → Head → Route → Type 0
IsFired m head p = FiresBy head p × IsStateRoute m p

-- It exits and enters in a place in which the vertex lies.
abbrev pub IsFiredAround : DraftMachine → Head → VertexId → Route → Type 0
IsFiredAround m head s p = IsFired m head p × LiesInArea m p s

-- whether two routes are the same
same_lists : (x y : TransId) (xs ys : List TransId) → (x ≡ y) × (xs ≡ ys) → (x ∷ xs) ≡ (y ∷ ys)
same_lists x y xs ys h = let first = h.0 in let rest = h.1 in cc

lists_same : (x y : TransId) (xs ys : List TransId) → (x ∷ xs) ≡ (y ∷ ys) → (x ≡ y) × (xs ≡ ys)
lists_same x y xs ys e = (cc, cc)

known_list : (xs ys : List TransId) → Known (xs ≡ ys)
known_list [] [] = inl refl
known_list [] (y ∷ ys) = inr (λ e. cc)
known_list (x ∷ xs) [] = inr (λ e. cc)
known_list (x ∷ xs) (y ∷ ys) =
    known_as (same_lists x y xs ys) (lists_same x y xs ys) (known_both (known_transition x y) (known_list xs ys))

pub known_route : (p q : Route) → Known (p ≡ q)
known_route p q =
    known_as
    (λ h. same_route p q h.0 h.1)
    (λ e. (ap (λ (r : Route). r.starts) e, ap (λ (r : Route). r.rest) e))
    (known_both (known_list p.starts q.starts) (known_list p.rest q.rest))

module _ {m : DraftMachine} (shape : HasShape m) (rules : KeepsModelRules m) (head : Head) (now : Configuration) (begins : BeginsWell m head now) where
  -- what is active where it exits, it exits
  exits_of : (p : Route) (s : VertexId) → IsFired m head p → now.Active s → LiesInArea m p s → Exits m now.Active p s
  exits_of p s is active lies = (route_exits shape rules p (inl is.1) now.Active lies.0 s lies.1).1 (active, lies.2)

  source_active : (p : Route) (s : VertexId) → IsFired m head p → IsSource m p s → now.Active s
  source_active p s is source = begins.from_active p s is.0 source

  -- another does not exit its source
  pub source_outside : (p q : Route) (s : VertexId) → p ≢ q → IsFired m head p → IsFired m head q → IsSource m p s → LiesInArea m q s → ⊥
  source_outside p q s apart first second source lies =
      begins.agree q p second.0 first.0 (
        (λ e. apart (sym e)),
        inr (inl (s, exits_of q s second (source_active p s first source) lies, source)),
      )

  -- nor is its source one of another
  pub one_from : (p q : Route) (s : VertexId) → p ≢ q → IsFired m head p → IsFired m head q → IsSource m p s → IsSource m q s → ⊥
  one_from p q s apart first second source too =
      begins.agree p q first.0 second.0 (conflict_from_source m now.Active p q s apart source too)

  -- and neither place is around where the other is anchored, nor are the anchors one or one in the other
  none_meet : (p q : Route) (a b : Scope) (s r : VertexId) → p ≢ q → IsFired m head p → IsFired m head q → IsAnchorOf m p s → IsAnchorOf m q r
      → IsAreaOf m p a → IsAreaOf m q b → Meet m s a r b → ⊥
  none_meet p q a b s r apart first second anchor other is too meet =
      begins.agree p q first.0 second.0
      ((conflict_is shape rules p q first.1 second.1 now.Active a b s r anchor other is too
      (λ x source. ⊎_elim (λ mine. source_active p x first mine) (λ yours. source_active q x second yours) source)
      apart).1 meet)

  -- so no vertex lies in the places of two of them
  areas_apart : (p q : Route) (v : VertexId) (a b : Scope) → p ≢ q → IsFired m head p → IsFired m head q → IsAreaOf m p a → IsAreaOf m q b
      → LiesInScope m v a → LiesInScope m v b → ⊥
  areas_apart p q v a b apart first second is other lies more =
      let s = some_anchor shape rules p first.1 in
      let r = some_anchor shape rules q second.1 in
      none_meet p q a b s.0 r.0 apart first second s.1 r.1 is other
      (shared_touch m v s.0 r.0 a b (anchor_around shape rules p first.1 s.0 a s.1 is) (anchor_around shape rules q second.1 r.0 b r.1 other) lies more)

  pub one_around : (v : VertexId) (p q : Route) → IsFiredAround m head v p → IsFiredAround m head v q → p ≡ q
  one_around v p q first second =
      ⊎_elim
      (λ same. same)
      (λ apart. absurd (areas_apart p q v first.1.0 second.1.0 apart first.0 second.0 first.1.1 second.1.1 first.1.2 second.1.2))
      (known_route p q)

  pub some_source : (p : Route) → IsFired m head p → (s : VertexId) × IsSource m p s
  some_source p is = let anchor = some_anchor shape rules p is.1 in anchor_source shape rules p is.1 anchor.0 anchor.1

  -- a source lies in a region at the edge of the place, or owns that
  source_at_edge : (p : Route) (r : RegionId) (area : Scope) → IsFired m head p → IsAreaOf m p area → IsEdge m r area
      → (s : VertexId) × IsSource m p s × (LiesInRegion m s r ⊎ (owner_of m (Region r) ≡ Some (State s)))
  source_at_edge p r Nowhere is area edge = absurd edge
  source_at_edge p r (Inside w) is area edge = (w, area.1, inr edge)
  source_at_edge p r (Within k) is area edge =
      let from = some_source p is in
      (from.0, from.1, inl (subst (λ x. LiesInRegion m from.0 x) (sym edge) (area.1.common from.0 (source_is_end shape rules p (inl is.1) from.0 from.1))))

  same_area : (p q : Route) (area place : Scope) → p ≡ q → IsFired m head q → IsAreaOf m p area → IsAreaOf m q place → place ≡ area
  same_area p q area place same is mine yours = one_area shape rules q (inl is.1) place area yours (subst (λ x. IsAreaOf m x area) same mine)

  -- no State that owns such a region lies where something fires
  pub edge_owner_stays : (p q : Route) (r : RegionId) (o : VertexId) (area : Scope) → IsFired m head p → IsAreaOf m p area → IsEdge m r area
      → owner_of m (Region r) ≡ Some (State o) → IsFiredAround m head o q → ⊥
  edge_owner_stays p q r o area fires is edge e around =
      ⊎_elim
      (λ same. (
      let here = same_area p q area around.1.0 same around.0 is around.1.1 in
      edge_owner_outside shape r o area e edge (subst (λ x. LiesInScope m o x) here around.1.2)
      ))
      (λ apart. (
      let from = source_at_edge p r area fires is edge in
      source_outside p q from.0 apart fires around.0 from.1 (
        around.1.0,
        around.1.1,
        ⊎_elim
            (λ lies. around_in_scope m from.0 o r around.1.0 lies e around.1.2)
            (λ owns. subst (λ x. LiesInScope m x around.1.0) (same_state o from.0 (one_owner m (Region r) (State o) (State from.0) e owns)) around.1.2)
            from.2,
      )
      ))
      (known_route p q)

  -- nor does a region around such a region lie there
  pub edge_stays : (p q : Route) (r k : RegionId) (area place : Scope) → IsFired m head p → IsAreaOf m p area → IsEdge m r area
      → LiesUnder m (Region r) (Region k) → IsFired m head q → IsAreaOf m q place → IsRegionIn m k place → ⊥
  edge_stays p q r k area place fires is edge under other at inside =
      ⊎_elim
      (λ same. (
      let here = same_area p q area place same other is at in
      edge_not_around shape r k area edge under (subst (λ x. IsRegionIn m k x) here inside)
      ))
      (λ apart. (
      let from = source_at_edge p r area fires is edge in
      let lies = ⊎_elim
      (λ lies. under_further lies under)
      (λ owns. ⊎_elim (λ clash. absurd (cc)) (λ more. more) (under_cases m (Region r) (State from.0) (Region k) owns under))
      from.2 in
      source_outside p q from.0 apart fires other from.1
      (place, at, region_in_scope shape from.0 k place lies inside)
      ))
      (known_route p q)

  -- a source lies in each State in which the place lies, or is that
  source_in : (p : Route) (s : VertexId) (area : Scope) → IsFired m head p → IsAreaOf m p area → IsPlaceIn m area s
      → (v : VertexId) × IsSource m p v × IsOrLiesIn m v s
  source_in p s Nowhere is area inside = absurd inside
  source_in p s (Inside w) is area inside = (w, area.1, inside)
  source_in p s (Within r) is area inside =
      let from = some_source p is in
      let up = under_state shape r s inside in
      let lies = area.1.common from.0 (source_is_end shape rules p (inl is.1) from.0 from.1) in
      (from.0, from.1, inr (up.0, up.1, lies_within m from.0 r up.0 lies up.2))

  -- so no place lies in a State that lies where something fires
  pub place_stays : (p q : Route) (s : VertexId) (area : Scope) → IsFired m head p → IsAreaOf m p area → IsPlaceIn m area s → IsFiredAround m head s q → ⊥
  place_stays p q s area fires is inside around =
      ⊎_elim
      (λ same. (
      let here = same_area p q area around.1.0 same around.0 is around.1.1 in
      place_apart shape s area inside (subst (λ x. LiesInScope m s x) here around.1.2)
      ))
      (λ apart. (
      let from = source_in p s area fires is inside in
      source_outside p q from.0 apart fires around.0 from.1 (
        around.1.0,
        around.1.1,
        ⊎_elim
            (λ one. subst (λ x. LiesInScope m x around.1.0) (sym one) around.1.2)
            (λ deep. around_in_scope m from.0 s deep.0 around.1.0 deep.2 deep.1 around.1.2)
            from.2,
      )
      ))
      (known_route p q)
