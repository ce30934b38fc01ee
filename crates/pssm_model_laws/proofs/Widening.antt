-- The scopes of the legs on the way up widen.
use Rattle.std.proofs.Common.{◌≡◌, Contains, sym, subst, ◌∙◌, inl, inr, ⊎_elim}
use Rattle.pssm_model.specs.declared.ids.VertexId.{VertexId}
use Rattle.pssm_model.specs.declared.ids.RegionId.{RegionId}
use Rattle.pssm_model.specs.declared.ids.TransId.{TransId}
use Rattle.pssm_model.specs.declared.elements.DraftMachine.{DraftMachine}
use Rattle.pssm_model.specs.declared.elements.VertexKind.TheVariants as kinds
use Rattle.pssm_model.specs.declared.elements.Owner.TheVariants.{State}
use Rattle.pssm_model.specs.declared.steps.Route.{Route}
use Rattle.pssm_model.specs.Forest.{HasKind, LiesInRegion}
use Rattle.pssm_model.specs.Forest.LiesUnder.{further}
use Rattle.pssm_model.specs.Legs.{Leaves, Enters, On, IsCut, SameLeg, NextLeg, LaterLeg, Scope, LegScope, LiesInScope}
use Rattle.pssm_model.specs.Legs.Scope.{Nowhere, Inside, Within}
use Rattle.pssm_model.specs.Legs.SameLeg.{itself as itself_leg}
use Rattle.pssm_model.specs.Legs.LaterLeg.{next as next_leg, after as after_leg}
use Rattle.pssm_model.specs.Legs.LegScope.{internal, local, point, other}
use Rattle.pssm_model.specs.Shapes.{HasShape}
use Rattle.pssm_model.specs.WellFormed.{KeepsModelRules}
use Rattle.pssm_model.specs.RouteWords.{IsStepRoute}
use Rattle.pssm_model.proofs.ElementLaws.{kind_unique, leaves_one}
use Rattle.pssm_model.proofs.OwnerChains.{under_further}
use Rattle.pssm_model.proofs.Nesting.{region_cases, lies_within}
use Rattle.pssm_model_laws.proofs.RegionChains.{under_state}
use Rattle.pssm_model_laws.proofs.Known.{Known}
use Rattle.pssm_model_laws.proofs.KnownPlaces.{known_in_region}
use Rattle.pssm_model_laws.proofs.InnerPaths.{point_owner, home_owner, target_there}
use Rattle.pssm_model_laws.proofs.Branches.{Along, no_way_back}
use Rattle.pssm_model_laws.proofs.EndsApart.{step_is_route}
use Rattle.pssm_model_laws.proofs.LegRoots.{IsBehind, over_along, over_root, leg_begins, leg_ends, leg_turned, legs_meet, leg_root, join_start, start_not_through, cut_root}
use Rattle.pssm_model_laws.proofs.LegRoots.Over.{same}
use Rattle.pssm_model_laws.proofs.UpAndDown.{GoesUp, up_kind, IsUp, up_before, up_leg, up_earlier}
use Rattle.pssm_model_laws.proofs.RouteKinds.{state_start, internal_start}
use Rattle.pssm_model_laws.proofs.UpLegs.{exit_region, exit_scope, exit_scope_is, join_scope, join_scope_is}
use Rattle.pssm_model_laws.proofs.DownLegs.{known_inside}
use Rattle.pssm_model_laws.proofs.UpScopes.{scope_turned}

-- All that lies in the scope lies in each region in which the vertex lies.
abbrev pub LiesAround : DraftMachine → Scope → VertexId → Type 0
LiesAround m scope c = (x : VertexId) (q : RegionId) → LiesInScope m x scope → LiesInRegion m c q → LiesInRegion m x q

-- the one scope of a leg that ends on an exit point or a join
pub record HasUpScope (m : DraftMachine) (p : Route) (t : TransId) (c : VertexId) : Type 0 where
  pub scope : Scope
  pub is : LegScope m p t scope
  pub only : (other : Scope) → LegScope m p t other → other ≡ scope
  pub around : LiesAround m scope c

module _ {m : DraftMachine} (shape : HasShape m) (rules : KeepsModelRules m) (p : Route) (step : IsStepRoute m p) where
  -- whether a vertex lies in a scope is known
  pub known_in_scope : (x : VertexId) (scope : Scope) → Known (LiesInScope m x scope)
  known_in_scope x Nowhere = inr (λ h. h)
  known_in_scope x (Inside s) = known_inside shape x s
  known_in_scope x (Within r) = known_in_region shape x r

  -- what is in a leg behind a vertex at which the route is cut is no start
  pub behind_no_start : (w k : TransId) (c : VertexId) → IsBehind m p w c → SameLeg m p w k → Contains p.starts k → ⊥
  behind_no_start w k c behind leg start =
      let to = leg_root shape rules p step w (inr (c, behind)) (same (leg_begins m p leg)) leg in
      let here = over_root shape rules p step to.leads (inl start) in
      let w_start = λ (h : Contains p.starts w). (let wrong : ⊥ = start_not_through shape rules p step w c h behind.leaves (inr behind.cut) in wrong) in
      ⊎_elim
      (λ e. w_start (subst (Contains p.starts) (sym (e ∙ here)) start))
      (⊎_elim
      (λ a. w_start (join_start shape rules p step w a.0 (leg_begins m p leg) a.2 a.1))
      (λ a. start_not_through shape rules p step k a.0 start (subst (λ x. Leaves m x a.0) here a.3) (inr (inl a.1))))
      to.by

  -- it does not end where it begins
  pub behind_no_back : (w k : TransId) (c : VertexId) → IsBehind m p w c → SameLeg m p w k → Enters m k c → ⊥
  behind_no_back w k c behind leg e =
      let to = leg_root shape rules p step w (inr (c, behind)) (same (leg_begins m p leg)) leg in
      let back = λ (first : TransId) (l : Leaves m first c) (a : Along m p first k). (
      let wrong : ⊥ = no_way_back shape p (step_is_route step) rules first k c a l e (inr behind.cut) in wrong) in
      ⊎_elim
      (λ here. back w behind.leaves (subst (λ x. Along m p x k) (sym here) (over_along m p to.leads)))
      (⊎_elim
      (λ a. start_not_through shape rules p step w c (join_start shape rules p step w a.0 (leg_begins m p leg) a.2 a.1) behind.leaves (inr behind.cut))
      (λ a. back to.first (subst (Leaves m to.first) (leaves_one m w a.0 c a.2 behind.leaves) a.3) (over_along m p to.leads)))
      to.by

  next_behind : {t u : TransId} (n : NextLeg m p t u) → IsBehind m p n.1 n.2
  next_behind n = cut_root shape rules p step n.1 n.2 (leg_begins m p n.4) n.7 n.5

  pub next_not_start : (t u k : TransId) → NextLeg m p t u → SameLeg m p u k → Contains p.starts k → ⊥
  next_not_start t u k n leg start = behind_no_start n.1 k n.2 (next_behind n) (legs_meet m p n.4 leg) start

  -- a leg on the way up that is not the last has one scope
  up_scope_of : (t : TransId) (c : VertexId) → IsUp m p t → On p t → Enters m t c → IsCut m c → GoesUp m c → HasUpScope m p t c
  up_scope_of t c up is e cut goes_up =
      ⊎_elim
      (λ junction. absurd (cut_not_junction junction))
      (⊎_elim
      (λ join.
      let home = home_owner shape c (target_there shape t c e) (λ at_point. ⊎_elim
      (λ k. let clash = kind_unique m c kinds.Join kinds.EntryPoint join k in cc)
      (λ k. let clash = kind_unique m c kinds.Join kinds.ExitPoint join k in cc)
      at_point) in
      record {
        scope = Within home.0;
        is = join_scope shape rules p step t c is e join home.0 home.1;
        only = join_scope_is shape rules p step t c is e join home.0 home.1;
        around = λ x q lies inside. lies_within m x home.0 q lies (region_cases m (State c) home.0 q home.1 inside);
      })
      (λ exit.
      let owner = point_owner shape c (inr exit) in
      let r = exit_region shape rules p step t c owner.0 up is e exit owner.1 in
      record {
        scope = Within r.0;
        is = exit_scope shape rules p step t c owner.0 up is e exit owner.1 r.0 r.1;
        only = exit_scope_is shape rules p step t c owner.0 up is e exit owner.1 r.0 r.1;
        around = λ x q lies inside. under_further lies (further r.1.0 (under_state m (State c) owner.0 q owner.1 inside));
      }))
      goes_up
    where
      cut_not_junction : HasKind m c kinds.Junction → ⊥
      cut_not_junction junction =
          ⊎_elim
          (λ k. let clash = kind_unique m c kinds.Junction kinds.Fork junction k in cc)
          (⊎_elim
          (λ k. let clash = kind_unique m c kinds.Junction kinds.Join junction k in cc)
          (⊎_elim
          (λ k. let clash = kind_unique m c kinds.Junction kinds.EntryPoint junction k in cc)
          (λ k. let clash = kind_unique m c kinds.Junction kinds.ExitPoint junction k in cc)))
          cut

  -- before a leg on the way up the vertex leads up
  next_up : {t u : TransId} (n : NextLeg m p t u) → IsUp m p u → IsUp m p n.0 × GoesUp m n.2
  next_up n up =
      let behind = next_behind n in
      up_before shape rules p step n.0 n.2
      (up_leg shape rules p step (leg_turned m p n.4) (leg_ends m p n.4) up) (leg_ends m p n.3) n.6 n.7 behind.in_rest

  pub next_scope : {t u : TransId} (n : NextLeg m p t u) → IsUp m p u → HasUpScope m p t n.2
  next_scope {t = t} n up =
      let before = next_up n up in
      let h = up_scope_of n.0 n.2 before.0 (leg_ends m p n.3) n.6 n.5 before.1 in
      record {
        scope = h.scope;
        is = scope_turned shape rules p step n.0 t h.scope (leg_turned m p n.3) h.is;
        only = λ scope leg. h.only scope (scope_turned shape rules p step t n.0 scope n.3 leg);
        around = h.around;
      }

  next_in : {t u : TransId} (n : NextLeg m p t u) (scope : Scope) (x : VertexId) → IsUp m p u → LiesAround m scope n.2 → LiesInScope m x scope
      → (wide : Scope)
      → LegScope m p u wide → LiesInScope m x wide
  next_in {t = t} {u = u} n scope x up around lies _ (internal i) =
      absurd (next_not_start t u u n (itself_leg i.0) (internal_start shape rules p step u i.0 i.1))
  next_in {t = t} {u = u} n scope x up around lies _ (local {s = s} h) =
      absurd (next_not_start t u h.0 n h.1 (state_start shape rules p step h.0 s (leg_ends m p h.1) h.2 h.3))
  next_in {t = t} {u = u} n scope x up around lies _ (point {s = z} {v = v} {r = q} passes f all) =
      let goes_up = (next_up n up).1 in
      around x q lies (all n.2 (n.1, leg_turned m p n.4, inl n.7) (λ here. ⊎_elim
      (λ entry. up_kind m n.2 kinds.EntryPoint goes_up (subst (λ y. HasKind m y kinds.EntryPoint) (sym here) entry.0))
      (λ exit. behind_no_back n.1 passes.1.0 n.2 (next_behind n) (legs_meet m p n.4 passes.1.1) (subst (Enters m passes.1.0) (sym here) exit.1))
      passes.1.2))
  next_in n scope x up around lies _ (other {r = q} is i j k span) =
      around x q lies (span.common n.2 (n.1, leg_turned m p n.4, inl n.7))

  -- what lies in the scope of a leg on the way up lies in those of later ones
  pub later_wider : {t u : TransId} (scope wide : Scope) (x : VertexId) → LaterLeg m p t u → IsUp m p u → LegScope m p t scope → LiesInScope m x scope
      → LegScope m p u wide → LiesInScope m x wide
  later_wider scope wide x (next_leg n) up leg lies last =
      let h = next_scope n up in
      next_in n h.scope x up h.around (subst (LiesInScope m x) (h.only scope leg) lies) wide last
  later_wider {u = u} scope wide x (after_leg {u = k} n rest) up leg lies last =
      let k_up = up_earlier shape rules p step rest (leg_ends m p n.4) up in
      let h = next_scope n k_up in
      let first = first_next rest up in
      let k_scope = next_scope first.1 first.2 in
      later_wider k_scope.scope wide x rest up k_scope.is
      (next_in n h.scope x k_up h.around (subst (LiesInScope m x) (h.only scope leg) lies) k_scope.scope k_scope.is) last
    where
      first_next : {a b : TransId} → LaterLeg m p a b → IsUp m p b → (k : TransId) × NextLeg m p a k × IsUp m p k
      first_next {b = b} (next_leg n) b_up = (b, n, b_up)
      first_next (after_leg {u = k} n rest) b_up = (k, n, up_earlier shape rules p step rest (leg_ends m p n.4) b_up)
