-- Each leg of a route has one scope, and a route has one area.
use Rattle.std.proofs.Common.{◌≡◌, Contains, refl, sym, ap, subst, ◌∙◌, inl, ⊎_elim}
use Rattle.pssm_model.specs.declared.ids.VertexId.{VertexId}
use Rattle.pssm_model.specs.declared.ids.TransId.{TransId}
use Rattle.pssm_model.specs.declared.elements.DraftMachine.{DraftMachine}
use Rattle.pssm_model.specs.declared.elements.TransKind.TheVariants.{External, Local, Internal}
use Rattle.pssm_model.specs.declared.steps.Route.{Route}
use Rattle.pssm_model.specs.Legs.{Leaves, Goes, On, SameLeg, NextLeg, LaterLeg, IsOfLeg, Scope, LegScope}
use Rattle.pssm_model.specs.Legs.Scope.{Nowhere, Inside, Within}
use Rattle.pssm_model.specs.Legs.SameLeg.{itself as itself_leg}
use Rattle.pssm_model.specs.Legs.LaterLeg.{next as next_leg, after as after_leg}
use Rattle.pssm_model.specs.Legs.LegScope.{internal, local, point, other}
use Rattle.pssm_model.specs.Shapes.{HasShape}
use Rattle.pssm_model.specs.WellFormed.{KeepsModelRules}
use Rattle.pssm_model.specs.RouteWords.{IsStepRoute}
use Rattle.pssm_model_laws.specs.inner.RouteWords.{IsAreaOf, IsEndOf}
use Rattle.pssm_model.proofs.ElementLaws.{leaves_one, enters_one}
use Rattle.pssm_model.proofs.Scopes.{one_scope as one_span}
use Rattle.pssm_model_laws.proofs.Branches.{of_starts}
use Rattle.pssm_model_laws.proofs.LegRoots.{leg_ends, leg_turned, along_leg}
use Rattle.pssm_model_laws.proofs.UpAndDown.{GoesUp, IsUp, up_before, up_along, up_earlier, height, turn_stand, source_of}
use Rattle.pssm_model_laws.proofs.RouteKinds.{state_start, internal_start, kinds_agree, one_start}
use Rattle.pssm_model_laws.proofs.UpScopes.{scope_turned, below_root, turn_no_point}
use Rattle.pssm_model_laws.proofs.Widening.{next_scope}
use Rattle.pssm_model_laws.proofs.DownScopes.{down_scope}
use Rattle.pssm_model_laws.proofs.RouteAreas.{has_area, top_leg, top_on, top_scope, scope_on}

-- The leg has the scope, and no other.
pub record HasOneScope (m : DraftMachine) (p : Route) (t : TransId) : Type 0 where
  pub scope : Scope
  pub is : LegScope m p t scope
  pub only : (another : Scope) → LegScope m p t another → another ≡ scope

module _ {m : DraftMachine} (shape : HasShape m) (rules : KeepsModelRules m) (p : Route) (step : IsStepRoute m p) where
  one_start_source : (t u : TransId) (s q : VertexId) → Contains p.starts t → Goes m t Local → Contains p.starts u → Leaves m t s → Leaves m u q → q ≡ s
  one_start_source t u s q h goes g l k =
      leaves_one m t q s (subst (λ x. Leaves m x q) (one_start shape rules p step t u Local h goes (λ e. cc) g) k) l

  -- a route has one area
  pub one_area : (a b : Scope) → IsAreaOf m p a → IsAreaOf m p b → a ≡ b
  one_area Nowhere Nowhere first second = refl
  one_area Nowhere (Inside s) first second =
      let clash = kinds_agree shape rules p step first.0 second.0.0 Internal Local first.1 second.0.1 first.2 second.0.2 in absurd (cc)
  one_area Nowhere (Within r) first second =
      let clash = kinds_agree shape rules p step first.0 second.0.0 Internal External first.1 second.0.1 first.2 second.0.2 in absurd (cc)
  one_area (Inside s) Nowhere first second =
      let clash = kinds_agree shape rules p step first.0.0 second.0 Local Internal first.0.1 second.1 first.0.2 second.2 in absurd (cc)
  one_area (Inside s) (Inside q) first second =
      let start_is = one_start shape rules p step first.0.0 first.1.0 Local first.0.1 first.0.2 (λ e. cc) first.1.1 in
      ap Inside (sym (one_start_source first.0.0 second.1.0 s q first.0.1 first.0.2 second.1.1
      (subst (λ x. Leaves m x s) start_is first.1.2) second.1.2))
  one_area (Inside s) (Within r) first second =
      let clash = kinds_agree shape rules p step first.0.0 second.0.0 Local External first.0.1 second.0.1 first.0.2 second.0.2 in absurd (cc)
  one_area (Within q) Nowhere first second =
      let clash = kinds_agree shape rules p step first.0.0 second.0 External Internal first.0.1 second.1 first.0.2 second.2 in absurd (cc)
  one_area (Within q) (Inside s) first second =
      let clash = kinds_agree shape rules p step first.0.0 second.0.0 External Local first.0.1 second.0.1 first.0.2 second.0.2 in absurd (cc)
  one_area (Within q) (Within r) first second =
      let t = first.0.0 in
      let t_on = of_starts m p t first.0.1 in
      let s = source_of shape rules p step t t_on in
      ap Within (one_span m (IsEndOf m p) s.0 q r (t, t_on, inl s.1) first.1 second.1)

  -- the scope of the leg that goes up last is that area
  top_only : (area another : Scope) → IsAreaOf m p area → LegScope m p (top_leg shape rules p step).last another → another ≡ area
  top_only area _ is (internal i) =
      one_area Nowhere area ((top_leg shape rules p step).last, internal_start shape rules p step (top_leg shape rules p step).last i.0 i.1, i.1) is
  top_only area _ is (local {s = s} h) =
      let start = state_start shape rules p step h.0 s (leg_ends m p h.1) h.2 h.3 in
      one_area (Inside s) area ((h.0, start, h.4), (h.0, start, h.2)) is
  top_only area _ is (point {s = z} {v = v} passes f all) =
      let top = top_leg shape rules p step in
      absurd (turn_no_point shape rules p step top.last top.at top.up (top_on shape rules p step) top.enters top.turns (v, z, passes))
  top_only area _ is (other {r = q} there i j k span) = by area is (top_scope shape rules p step area is)
    where
      by : (scope : Scope) → IsAreaOf m p scope → LegScope m p (top_leg shape rules p step).last scope → Within q ≡ scope
      by _ at (internal h) = absurd (i h)
      by _ at (local {s = s} h) = absurd (j s h)
      by _ at (point {s = z} {v = v} passes f all) = absurd (k (v, z, passes))
      by _ at (other {r = r} on_it first second third wide) =
          let t = (top_leg shape rules p step).last in
          let s = source_of shape rules p step t there in
          ap Within (one_span m (IsOfLeg m p t) s.0 q r (t, itself_leg there, inl s.1) span wide)

  scope_by_leg : (t u : TransId) → SameLeg m p t u → HasOneScope m p u → HasOneScope m p t
  scope_by_leg t u leg h = record {
    scope = h.scope;
    is = scope_turned shape rules p step u t h.scope (leg_turned m p leg) h.is;
    only = λ another is. h.only another (scope_turned shape rules p step t u another leg is);
  }

  first_next : {t u : TransId} → LaterLeg m p t u → IsUp m p u → (k : TransId) × NextLeg m p t k × IsUp m p k
  first_next {u = u} (next_leg n) up = (u, n, up)
  first_next (after_leg {u = k} n rest) up = (k, n, up_earlier shape rules p step rest (leg_ends m p n.4) up)

  up_has_scope : (t : TransId) → On p t → IsUp m p t → HasOneScope m p t
  up_has_scope t is up =
      let top = top_leg shape rules p step in
      let top_is = top_on shape rules p step in
      let area = has_area shape rules p step in
      let at_top : HasOneScope m p top.last = record {
        scope = area.0;
        is = top_scope shape rules p step area.0 area.1;
        only = λ another leg. top_only area.0 another area.1 leg;
      } in
      ⊎_elim
      (λ way. ⊎_elim
      (λ leg. scope_by_leg t top.last leg at_top)
      (λ later.
      let hop = first_next later top.up in
      let h = next_scope shape rules p step hop.1 hop.2 in
      record { scope = h.scope; is = h.is; only = h.only })
      (along_leg shape rules p step way))
      (λ n.
      let before = up_before shape rules p step top.last n.at (up_along shape rules p step n.along up) top_is n.enters n.leaves n.in_rest in
      absurd (top.turns (subst (GoesUp m) (enters_one m top.last n.at top.at n.enters top.enters) before.1)))
      (turn_stand shape rules p step top.at t top.up top_is top.enters top.turns is)

  pub leg_has_scope : (t : TransId) → On p t → HasOneScope m p t
  leg_has_scope t is =
      ⊎_elim
      (λ up. up_has_scope t is up)
      (λ below.
      let root = below_root shape rules p step t below is in
      let d = down_scope shape rules p step root.0 t root.1 root.2 root.4 root.3 in
      record { scope = Within d.region; is = d.is; only = d.only })
      (height shape rules p step t is)

  pub one_leg_scope : (t : TransId) (a b : Scope) → LegScope m p t a → LegScope m p t b → a ≡ b
  one_leg_scope t a b first second =
      let h = leg_has_scope t (scope_on shape rules p step first) in
      h.only a first ∙ sym (h.only b second)
