-- A route from where a step goes on within itself stays in the region of that vertex, and so does each other route from where they meet.
use Rattle.std.proofs.Common.{◌≡◌, [], ◌∷◌, Some, Contains, sym, subst, inl, inr, ⊎_elim}
use Rattle.pssm_model.specs.declared.ids.VertexId.{VertexId}
use Rattle.pssm_model.specs.declared.ids.RegionId.{RegionId}
use Rattle.pssm_model.specs.declared.ids.TransId.{TransId}
use Rattle.pssm_model.specs.declared.elements.DraftMachine.{DraftMachine}
use Rattle.pssm_model.specs.declared.elements.Transition.{Transition}
use Rattle.pssm_model.specs.declared.elements.VertexKind.TheVariants as kinds
use Rattle.pssm_model.specs.declared.elements.TransKind.{TransKind}
use Rattle.pssm_model.specs.declared.elements.TransKind.TheVariants.{External, Local, Internal}
use Rattle.pssm_model.specs.declared.elements.Owner.TheVariants.{Region, State}
use Rattle.pssm_model.specs.declared.elements.Element.TheVariants as elements
use Rattle.pssm_model.specs.declared.elements.FaultPlace.TheVariants as places
use Rattle.pssm_model.specs.declared.steps.Route.{Route}
use Rattle.pssm_model.specs.Forest.{transition_at, owner_of, HasKind, LiesUnder, LiesInRegion}
use Rattle.pssm_model.specs.Forest.LiesUnder.{owned}
use Rattle.pssm_model.specs.Legs.{Leaves, Enters, Goes, On}
use Rattle.pssm_model.specs.Legs.Scope.{Within}
use Rattle.pssm_model.specs.FiringSets.{IsLateOrigin}
use Rattle.pssm_model.specs.Paths.{IsInner, ComesAfter}
use Rattle.pssm_model.specs.Paths.ComesAfter.{inner}
use Rattle.pssm_model.specs.Routes.{IsRoute, IsReached}
use Rattle.pssm_model.specs.Routes.IsReached.{start, on}
use Rattle.pssm_model.specs.Shapes.{HasShape}
use Rattle.pssm_model.specs.WellFormed.{KeepsModelRules}
use Rattle.pssm_model.specs.WellFormed.Breaks.{E13, E14}
use Rattle.pssm_model_laws.specs.inner.RouteWords.{IsEndOf, IsAreaOf}
use Rattle.pssm_model.proofs.ElementLaws.{mapped_some, mapped_at, leaves_one, enters_one}
use Rattle.pssm_model.proofs.RouteLaws.{in_one, is_one, reached_is_on}
use Rattle.pssm_model.proofs.OwnerChains.{under_further}
use Rattle.pssm_model.proofs.Nesting.{region_cases}
use Rattle.pssm_model_laws.proofs.InnerPaths.{in_kind_of, late_is_no_point, no_circle, late_after, after_no_exit, after_no_join}
use Rattle.pssm_model_laws.proofs.Branches.{Along, along_ends, of_starts, goes_through, route_comes}
use Rattle.pssm_model_laws.proofs.Branches.Along.{itself, goes}

module _ {m : DraftMachine} (shape : HasShape m) (rules : KeepsModelRules m) (o : VertexId) (late : IsLateOrigin m o) (r : RegionId)
    (home : owner_of m (State o) ≡ Some (Region r)) (t : TransId) (leaves : Leaves m t o) where
  -- a transition from there is external
  late_kind : (kind : TransKind) → Goes m t kind → Goes m t External
  late_kind External h = h
  late_kind Internal h =
      absurd (rules (places.At (elements.Transition t)) 13 (E13 (h, (o, leaves, inl (λ s. in_kind_of m o kinds.State (inl late) s)))))
  late_kind Local h =
      absurd (rules (places.At (elements.Transition t)) 14 (E14 (
        h,
        inl (λ s from. ⊎_elim
            (λ state. in_kind_of m o kinds.State (inl late) (subst (λ x. HasKind m x kinds.State) (leaves_one m t s o state.0 leaves) state.1))
            (λ entry. late_is_no_point m o late (inl (subst (λ x. HasKind m x kinds.EntryPoint) (leaves_one m t entry.0 o entry.1 leaves) entry.2)))
            from),
      )))

  pub late_external : Goes m t External
  late_external =
      let x = mapped_some (λ (y : Transition). y.source) (transition_at m t) o leaves in
      late_kind x.0.kind (mapped_at (λ (y : Transition). y.kind) (transition_at m t) x.0 x.1)

  -- another route that comes to a vertex behind it stays there from then on
  module _ (q : Route) (route : IsRoute m q) where
    pub other_comes : {w x : TransId} (v z : VertexId) → ComesAfter m t v → Enters m w v → Along m q w x → Enters m x z → ComesAfter m t z
    other_comes {w = w} v z comes e (itself is) f = subst (ComesAfter m t) (enters_one m w v z e f) comes
    other_comes v z comes e (goes {u = u} {w = w} {v = y} a f k h) g =
        let before : ComesAfter m t y = other_comes v y comes e a f in
        let on_inner = λ (is : IsInner m y). (let all : ComesAfter m t z = inner w before is k g in all) in
        ⊎_elim
        (λ junction. on_inner (inl junction))
        (⊎_elim
        (λ fork. on_inner (inr (inl fork)))
        (⊎_elim
        (λ join. absurd (after_no_join shape rules o (inl late) leaves before join))
        (⊎_elim
        (λ entry. on_inner (inr (inr entry)))
        (λ exit. absurd (after_no_exit shape rules o y t (inl late) leaves before exit)))))
        (goes_through shape q route u w y (along_ends m q a) f k h)

    pub other_stays : (w x : TransId) (v z : VertexId) → ComesAfter m t v → Enters m w v → Along m q w x → Enters m x z → LiesInRegion m z r
    other_stays w x v z comes e a f = late_after shape rules o z t r late home leaves (other_comes v z comes e a f)

  module _ (p : Route) (route : IsRoute m p) (starts : p.starts ≡ t ∷ []) where
    pub late_start : Contains p.starts t
    late_start = subst (λ ts. Contains ts t) (sym starts) (in_one t)

    all_along : (u : TransId) → IsReached m p u → Along m p t u
    all_along u (start h) = subst (Along m p t) (sym (is_one t u (subst (λ ts. Contains ts u) starts h))) (itself (of_starts m p t late_start))
    all_along u (on {u = k} {v = v} before e l h) = goes {v = v} (all_along k before) e l h

    pub late_comes : (u : TransId) (v : VertexId) → On p u → Enters m u v → ComesAfter m t v
    late_comes u v is e = route_comes shape p route rules o (inl late) leaves (all_along u (route.reached u is)) e

    -- all its vertices lie in the region
    pub late_target : (u : TransId) (v : VertexId) → On p u → Enters m u v → LiesInRegion m v r
    late_target u v is e = late_after shape rules o v t r late home leaves (late_comes u v is e)

    source_reached : (u : TransId) (v : VertexId) → IsReached m p u → Leaves m u v → LiesInRegion m v r
    source_reached u v (start h) l =
        let same = is_one t u (subst (λ ts. Contains ts u) starts h) in
        subst (λ x. LiesInRegion m x r) (leaves_one m t o v leaves (subst (λ x. Leaves m x v) same l)) (owned home)
    source_reached u v (on {u = k} {v = w} before e k_leaves h) l =
        subst (λ x. LiesInRegion m x r) (leaves_one m u w v k_leaves l) (late_target k w (reached_is_on m p k before) e)

    pub late_stays : (v : VertexId) → IsEndOf m p v → LiesInRegion m v r
    late_stays v h =
        ⊎_elim (λ l. source_reached h.0 v (route.reached h.0 h.1) l) (λ e. late_target h.0 v h.1 e) h.2

    -- none is an exit point or a join
    pub late_no_exit : (u : TransId) (v : VertexId) → On p u → Enters m u v → HasKind m v kinds.ExitPoint → ⊥
    late_no_exit u v is e = after_no_exit shape rules o v t (inl late) leaves (late_comes u v is e)

    pub late_no_join : (u : TransId) (v : VertexId) → On p u → Enters m u v → HasKind m v kinds.Join → ⊥
    late_no_join u v is e = after_no_join shape rules o (inl late) leaves (late_comes u v is e)

    -- so the region is its area
    pub late_area : IsAreaOf m p (Within r)
    late_area = (
      (t, late_start, late_external),
      record {
        common = late_stays;
        innermost = λ q all under. ⊎_elim
            (λ same. no_circle shape (Region q) (subst (λ x. LiesUnder m (Region q) (Region x)) same under))
            (λ out. no_circle shape (Region q) (under_further under out))
            (region_cases m (State o) r q home (all o (t, of_starts m p t late_start, inl leaves)));
      },
    )

    -- a route that meets it at a vertex through which it goes stays in the region
    pub meets_stays : (q : Route) → IsRoute m q → (u w x : TransId) (v z : VertexId) → On p u → Enters m u v → Enters m w v → Along m q w x → Enters m x z
        → LiesInRegion m z r
    meets_stays q other u w x v z is e f a g = other_stays q other w x v z (late_comes u v is e) f a g
