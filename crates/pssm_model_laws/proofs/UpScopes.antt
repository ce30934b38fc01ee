-- The scopes of the legs of a route lie in its area, and the leg that goes up last has the area as its scope.
use Rattle.std.proofs.Common.{◌≡◌, sym, subst, inl, inr, ⊎_elim}
use Rattle.pssm_model.specs.declared.ids.VertexId.{VertexId}
use Rattle.pssm_model.specs.declared.ids.RegionId.{RegionId}
use Rattle.pssm_model.specs.declared.ids.TransId.{TransId}
use Rattle.pssm_model.specs.declared.elements.DraftMachine.{DraftMachine}
use Rattle.pssm_model.specs.declared.elements.VertexKind.TheVariants as kinds
use Rattle.pssm_model.specs.declared.elements.TransKind.TheVariants.{External, Local, Internal}
use Rattle.pssm_model.specs.declared.elements.Owner.TheVariants.{State}
use Rattle.pssm_model.specs.declared.elements.Element.TheVariants as elements
use Rattle.pssm_model.specs.declared.elements.FaultPlace.TheVariants as places
use Rattle.pssm_model.specs.declared.steps.Route.{Route}
use Rattle.pssm_model.specs.Forest.{HasKind, LiesInRegion, LiesInState, IsScope}
use Rattle.pssm_model.specs.Forest.LiesUnder.{further}
use Rattle.pssm_model.specs.Legs.{Leaves, Enters, Goes, On, SameLeg, IsOfLeg, IsInternal, IsLocalFrom, PassesSomePoint, Scope, LegScope, LiesInScope}
use Rattle.pssm_model.specs.Legs.Scope.{Nowhere, Inside, Within}
use Rattle.pssm_model.specs.Legs.SameLeg.{itself as itself_leg}
use Rattle.pssm_model.specs.Legs.LegScope.{internal, local, point, other}
use Rattle.pssm_model.specs.Shapes.{HasShape}
use Rattle.pssm_model.specs.WellFormed.{KeepsModelRules}
use Rattle.pssm_model.specs.WellFormed.Breaks.{E13}
use Rattle.pssm_model.specs.RouteWords.{IsStepRoute}
use Rattle.pssm_model_laws.specs.inner.RouteWords.{IsEndOf, IsAreaOf}
use Rattle.pssm_model.proofs.ElementLaws.{kind_unique, leaves_one, enters_one}
use Rattle.pssm_model.proofs.OwnerChains.{under_further}
use Rattle.pssm_model.proofs.Nesting.{lies_within}
use Rattle.pssm_model_laws.proofs.RegionChains.{under_state, on_one_chain}
use Rattle.pssm_model_laws.proofs.InnerPaths.{after_no_exit}
use Rattle.pssm_model_laws.proofs.Branches.{of_rest, of_starts, through_not_ends}
use Rattle.pssm_model_laws.proofs.LegRoots.{Over, IsBehind, over_leg, leg_ends, leg_turned, legs_meet, rooted, join_start, start_not_through}
use Rattle.pssm_model_laws.proofs.LegRoots.Over.{same}
use Rattle.pssm_model_laws.proofs.UpAndDown.{GoesUp, GoesDown, up_or_down_kind, IsUp, IsBelow, up_no_down, up_over, up_leg, height, below_not_up, below_comes, source_of}
use Rattle.pssm_model_laws.proofs.UpAndDown.IsUp.{begins, rises}
use Rattle.pssm_model_laws.proofs.RouteKinds.{state_start, internal_start, kinds_agree, one_start, internal_alone, inner_source, local_state, local_over}
use Rattle.pssm_model_laws.proofs.UpLegs.{same_last, all_in, up_chain}
use Rattle.pssm_model_laws.proofs.DownLegs.{local_stays, down_leg}

module _ {m : DraftMachine} (shape : HasShape m) (rules : KeepsModelRules m) (p : Route) (step : IsStepRoute m p) where
  -- the vertices of a leg are of its route
  pub leg_end : (t : TransId) (x : VertexId) → IsOfLeg m p t x → IsEndOf m p x
  leg_end t x h = (h.0, leg_ends m p h.1, h.2)

  -- a leg has its scopes by whichever transition it is named
  pub scope_turned : (t u : TransId) (scope : Scope) → SameLeg m p t u → LegScope m p t scope → LegScope m p u scope
  scope_turned t u _ leg (internal i) =
      let start = internal_start shape rules p step t i.0 i.1 in
      internal (subst (IsInternal m p) (sym (internal_alone shape rules p step t u start i.1 (leg_ends m p leg))) i)
  scope_turned t u _ leg (local h) = local (h.0, legs_meet m p (leg_turned m p leg) h.1, h.2, h.3, h.4)
  scope_turned t u _ leg (point {v = v} passes f all) =
      point
      (passes.0, (passes.1.0, legs_meet m p (leg_turned m p leg) passes.1.1, passes.1.2))
      f
      (λ w h. all w (h.0, legs_meet m p leg h.1, h.2))
  scope_turned t u _ leg (other is i j k span) =
      other
      (leg_ends m p leg)
      (λ h.
      let start = internal_start shape rules p step u h.0 h.1 in
      i (subst (IsInternal m p) (sym (internal_alone shape rules p step u t start h.1 is)) h))
      (λ s h. j s (h.0, legs_meet m p leg h.1, h.2, h.3, h.4))
      (λ h. k (h.0, h.1, (h.2.0, (h.2.1.0, legs_meet m p leg h.2.1.1, h.2.1.2))))
      (record {
        common = λ v h. span.common v (h.0, legs_meet m p leg h.1, h.2);
        innermost = λ q all. span.innermost q (λ v h. all v (h.0, legs_meet m p (leg_turned m p leg) h.1, h.2));
      })

  -- the scope of a route's leg lies in its area
  within_area : (t : TransId) (scope : Scope) (r : RegionId) (x : VertexId) → IsAreaOf m p (Within r) → LegScope m p t scope → LiesInScope m x scope
      → LiesInRegion m x r
  within_area t _ r x area (internal i) lies = absurd lies
  within_area t _ r x area (local {s = s} h) lies =
      let start = state_start shape rules p step h.0 s (leg_ends m p h.1) h.2 h.3 in
      let clash = kinds_agree shape rules p step h.0 area.0.0 Local External start area.0.1 h.4 area.0.2 in
      absurd (cc)
  within_area t _ r x area (point {s = s} {v = v} passes f all) lies =
      let ends : IsEndOf m p v = (
        passes.1.0,
        leg_ends m p passes.1.1,
        ⊎_elim (λ entry. inl entry.1) (λ exit. inr exit.1) passes.1.2,
      ) in
      under_further lies (further f (under_state m (State v) s r passes.0 (area.1.common v ends)))
  within_area t _ r x area (other {r = q} is i j k span) lies =
      let y = source_of shape rules p step t is in
      let ends : (v : VertexId) × IsOfLeg m p t v = (y.0, (t, itself_leg is, inl y.1)) in
      ⊎_elim
      (λ within. lies_within m x q r lies within)
      (λ within. ⊎_elim
      (λ here. subst (LiesInRegion m x) (sym here) lies)
      (λ under. absurd (span.innermost r (λ v h. area.1.common v (leg_end t v h)) under))
      within)
      (on_one_chain m (State ends.0) q r (span.common ends.0 ends.1) (area.1.common ends.0 (leg_end t ends.0 ends.1)))

  -- the first transition of a leg below leaves a fork or an entry point
  pub below_root : (t : TransId) → IsBelow m p t → On p t → (w : TransId) × (c : VertexId) × IsBehind m p w c × GoesDown m c × Over m p w t
  below_root t below is =
      let root = rooted shape rules p step t is in
      let not_up = λ (up : IsUp m p root.0). (let wrong : ⊥ = below_not_up shape rules p step below (up_over shape rules p step root.2 up) in wrong) in
      ⊎_elim
      (λ start. absurd (not_up (begins start)))
      (λ behind.
      let c = behind.0 in
      let h = behind.1 in
      let rise = λ (goes_up : GoesUp m c) (up : IsUp m p h.before). (
      let wrong : ⊥ = not_up (rises {v = c} up h.enters goes_up h.leaves h.in_rest) in wrong) in
      ⊎_elim
      (λ goes_up. absurd (⊎_elim
      (λ junction. ⊎_elim
      (λ k. let clash = kind_unique m c kinds.Junction kinds.Fork junction k in cc)
      (⊎_elim
      (λ k. let clash = kind_unique m c kinds.Junction kinds.Join junction k in cc)
      (⊎_elim
      (λ k. let clash = kind_unique m c kinds.Junction kinds.EntryPoint junction k in cc)
      (λ k. let clash = kind_unique m c kinds.Junction kinds.ExitPoint junction k in cc)))
      h.cut)
      (⊎_elim
      (λ join. rise goes_up (begins (join_start shape rules p step h.before c h.before_on h.enters join)))
      (λ exit. ⊎_elim
      (λ up. rise goes_up up)
      (λ lower. after_no_exit shape rules lower.at c lower.first (inr lower.kind) lower.leaves (below_comes shape rules p step c lower h.enters) exit)
      (height shape rules p step h.before h.before_on)))
      goes_up))
      (λ down. (root.0, c, h, down, root.2))
      (up_or_down_kind m c (inr h.cut)))
      root.1

  inside_other : (t : TransId) (s : VertexId) (q : RegionId) (x : VertexId) → IsAreaOf m p (Inside s) → On p t → ((k : VertexId) → IsLocalFrom m p t k → ⊥)
      → IsScope m (IsOfLeg m p t) q → LiesInRegion m x q → LiesInState m x s
  inside_other t s q x area is not_local span lies =
      let t0 = area.0.0 in
      let leaves : Leaves m t0 s = subst (λ y. Leaves m y s) (one_start shape rules p step t0 area.1.0 Local area.0.1 area.0.2
      (λ e. cc) area.1.1) area.1.2 in
      let state = local_state shape rules p step t0 s area.0.1 area.0.2 leaves in
      ⊎_elim
      (λ up. absurd (not_local s (
        t0,
        leg_turned m p (over_leg m p (local_over shape rules p step t0 s area.0.1 area.0.2 leaves up)),
        leaves,
        state,
        area.0.2,
      )))
      (λ below.
      let root = below_root t below is in
      let c = root.1 in
      let inside = local_stays shape rules p step t0 s area.0.1 area.0.2 leaves c (root.0, of_rest m p root.0 root.2.in_rest, inl root.2.leaves)
      (λ here. through_not_ends m c (inr root.2.cut) (inl (subst (λ y. HasKind m y kinds.State) (sym here) state))) in
      let all = λ (v : VertexId) (h : IsOfLeg m p t v). (
      let found : LiesInRegion m v inside.0 = down_leg shape rules p step root.0 t c v inside.0 root.2 root.3 inside.2 root.4 h in found) in
      let y = source_of shape rules p step t is in
      let ends : IsOfLeg m p t y.0 = (t, itself_leg is, inl y.1) in (
        inside.0,
        inside.1,
        ⊎_elim
            (λ within. lies_within m x q inside.0 lies within)
            (λ within. ⊎_elim
            (λ here. subst (LiesInRegion m x) (sym here) lies)
            (λ under. absurd (span.innermost inside.0 all under))
            within)
            (on_one_chain m (State y.0) q inside.0 (span.common y.0 ends) (all y.0 ends)),
      ))
      (height shape rules p step t is)

  within_inside : (t : TransId) (scope : Scope) (s x : VertexId) → IsAreaOf m p (Inside s) → LegScope m p t scope → LiesInScope m x scope
      → LiesInState m x s
  within_inside t _ s x area (internal i) lies = absurd lies
  within_inside t _ s x area (local {s = k} h) lies =
      let start = state_start shape rules p step h.0 k (leg_ends m p h.1) h.2 h.3 in
      let first = one_start shape rules p step area.0.0 h.0 Local area.0.1 area.0.2 (λ e. cc) start in
      let second = one_start shape rules p step area.0.0 area.1.0 Local area.0.1 area.0.2 (λ e. cc) area.1.1 in
      let here : k ≡ s = leaves_one m area.0.0 k s (subst (λ y. Leaves m y k) first h.2) (subst (λ y. Leaves m y s) second area.1.2) in
      subst (LiesInState m x) here lies
  within_inside t _ s x area (point {s = z} {v = v} {r = r} passes f all) lies =
      let second = one_start shape rules p step area.0.0 area.1.0 Local area.0.1 area.0.2 (λ e. cc) area.1.1 in
      let leaves : Leaves m area.0.0 s = subst (λ y. Leaves m y s) second area.1.2 in
      let state = local_state shape rules p step area.0.0 s area.0.1 area.0.2 leaves in
      let ends : IsEndOf m p v = (passes.1.0, leg_ends m p passes.1.1, ⊎_elim (λ entry. inl entry.1) (λ exit. inr exit.1) passes.1.2) in
      let inside = local_stays shape rules p step area.0.0 s area.0.1 area.0.2 leaves v ends
      (λ here. ⊎_elim
      (λ entry. let clash = kind_unique m v kinds.EntryPoint kinds.State entry.0 (subst (λ y. HasKind m y kinds.State) (sym here) state) in cc)
      (λ exit. let clash = kind_unique m v kinds.ExitPoint kinds.State exit.0 (subst (λ y. HasKind m y kinds.State) (sym here) state) in cc)
      passes.1.2) in
      (inside.0, inside.1, under_further lies (further f (under_state m (State v) z inside.0 passes.0 inside.2)))
  within_inside t _ s x area (other {r = q} is i j k span) lies = inside_other t s q x area is j span lies

  within_nowhere : (t : TransId) (scope : Scope) (x : VertexId) → IsAreaOf m p Nowhere → LegScope m p t scope → LiesInScope m x scope → ⊥
  within_nowhere t _ x area (internal i) lies = lies
  within_nowhere t _ x area (local {s = k} h) lies =
      let start = state_start shape rules p step h.0 k (leg_ends m p h.1) h.2 h.3 in
      let clash = kinds_agree shape rules p step h.0 area.0 Local Internal start area.1 h.4 area.2 in
      cc
  within_nowhere t _ x area (point {v = v} passes f all) lies =
      let here = internal_alone shape rules p step area.0 passes.1.0 area.1 area.2 (leg_ends m p passes.1.1) in
      ⊎_elim
      (λ entry. start_not_through shape rules p step area.0 v area.1 (subst (λ y. Leaves m y v) here entry.1) (inr (inr (inr (inl entry.0)))))
      (λ exit.
      let s = source_of shape rules p step area.0 (of_starts m p area.0 area.1) in
      let state = inner_source shape rules p step area.0 s.0 Internal area.1 area.2 (λ e. cc) s.1 in
      rules (places.At (elements.Transition area.0)) 13 (E13 (
        area.2,
        (
          s.0,
          s.1,
          inr (λ back.
              let at = enters_one m area.0 s.0 v back (subst (λ y. Enters m y v) here exit.1) in
              let clash = kind_unique m v kinds.ExitPoint kinds.State exit.0 (subst (λ y. HasKind m y kinds.State) at state) in cc),
        ),
      )))
      passes.1.2
  within_nowhere t _ x area (other is i j k span) lies =
      let here = internal_alone shape rules p step area.0 t area.1 area.2 is in
      i (is, subst (λ y. Goes m y Internal) (sym here) area.2)

  pub scope_in_area : (t : TransId) (scope area : Scope) (x : VertexId) → IsAreaOf m p area → LegScope m p t scope → LiesInScope m x scope
      → LiesInScope m x area
  scope_in_area t scope Nowhere x is leg lies = within_nowhere t scope x is leg lies
  scope_in_area t scope (Inside s) x is leg lies = within_inside t scope s x is leg lies
  scope_in_area t scope (Within r) x is leg lies = within_area t scope r x is leg lies

  -- the leg that goes up last passes no point
  pub turn_no_point : (t : TransId) (v : VertexId) → IsUp m p t → On p t → Enters m t v → (GoesUp m v → ⊥) → PassesSomePoint m p t → ⊥
  turn_no_point t v up is e turn h =
      let passes = h.2.1 in
      let u_up = up_leg shape rules p step passes.1 is up in
      ⊎_elim
      (λ entry. up_no_down shape rules p step h.0 u_up entry.1 (inr entry.0))
      (λ exit.
      let o = up_chain shape rules p step passes.0 t h.0 u_up (leg_ends m p passes.1) exit.1 exit.0 (leg_turned m p passes.1) in
      let here = same_last shape rules p step h.0 v o (same is) exit.1
      (λ j. let clash = kind_unique m h.0 kinds.ExitPoint kinds.Junction exit.0 j in cc) e (λ j. turn (inl j)) in
      turn (inr (inr (subst (λ y. HasKind m y kinds.ExitPoint) (enters_one m t h.0 v (subst (λ y. Enters m y h.0) (sym here) exit.1) e) exit.0))))
      passes.2

  -- its scope is the area of the route
  pub last_up_scope : (t : TransId) (v : VertexId) (area : Scope) → IsUp m p t → On p t → Enters m t v → (GoesUp m v → ⊥) → IsAreaOf m p area
      → LegScope m p t area
  last_up_scope t v Nowhere up is e turn area =
      internal (is, subst (λ y. Goes m y Internal) (sym (internal_alone shape rules p step area.0 t area.1 area.2 is)) area.2)
  last_up_scope t v (Inside s) up is e turn area =
      let leaves : Leaves m area.0.0 s =
      subst (λ y. Leaves m y s) (one_start shape rules p step area.0.0 area.1.0 Local area.0.1 area.0.2 (λ e. cc) area.1.1) area.1.2 in
      local (
        area.0.0,
        leg_turned m p (over_leg m p (local_over shape rules p step area.0.0 s area.0.1 area.0.2 leaves up)),
        leaves,
        local_state shape rules p step area.0.0 s area.0.1 area.0.2 leaves,
        area.0.2,
      )
  last_up_scope t v (Within r) up is e turn area =
      other
      is
      (λ i.
      let start = internal_start shape rules p step t i.0 i.1 in
      let clash = kinds_agree shape rules p step t area.0.0 Internal External start area.0.1 i.1 area.0.2 in cc)
      (λ s h.
      let start = state_start shape rules p step h.0 s (leg_ends m p h.1) h.2 h.3 in
      let clash = kinds_agree shape rules p step h.0 area.0.0 Local External start area.0.1 h.4 area.0.2 in cc)
      (turn_no_point t v up is e turn)
      (record {
        common = λ x h. area.1.common x (leg_end t x h);
        innermost = λ q all. area.1.innermost q (all_in shape rules p step t v up is e turn q all);
      })
