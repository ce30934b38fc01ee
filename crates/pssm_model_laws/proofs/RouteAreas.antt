-- A route exits exactly the active States of its area.
use Rattle.std.proofs.Common.{◌⊎◌, ◌↔◌, Contains, subst, inl, inr, ⊎_elim}
use Rattle.pssm_model.specs.declared.ids.VertexId.{VertexId}
use Rattle.pssm_model.specs.declared.ids.TransId.{TransId}
use Rattle.pssm_model.specs.declared.elements.DraftMachine.{DraftMachine}
use Rattle.pssm_model.specs.declared.elements.TransKind.{TransKind}
use Rattle.pssm_model.specs.declared.elements.TransKind.TheVariants.{External, Local, Internal}
use Rattle.pssm_model.specs.declared.steps.Route.{Route}
use Rattle.pssm_model.specs.Forest.{LiesInState}
use Rattle.pssm_model.specs.Forest.LiesUnder.{further}
use Rattle.pssm_model.specs.Legs.{Goes, On, IsCut, SameLeg, NextLeg, LaterLeg, Scope, LegScope, LiesInScope, WouldExit, LegExits, Exits}
use Rattle.pssm_model.specs.Legs.Scope.{Nowhere, Inside, Within}
use Rattle.pssm_model.specs.Legs.LegScope.{internal, local, point, other}
use Rattle.pssm_model.specs.Legs.SameLeg.{itself as itself_leg, joined}
use Rattle.pssm_model.specs.Legs.LaterLeg.{next as next_leg, after as after_leg}
use Rattle.pssm_model.specs.Shapes.{HasShape}
use Rattle.pssm_model.specs.WellFormed.{KeepsModelRules}
use Rattle.pssm_model.specs.RouteWords.{IsStepRoute}
use Rattle.pssm_model_laws.specs.inner.RouteWords.{IsAreaOf, IsDownLeg}
use Rattle.pssm_model.proofs.OwnerChains.{under_further}
use Rattle.pssm_model_laws.proofs.Branches.{of_rest, of_starts, along_ends, stand}
use Rattle.pssm_model_laws.proofs.EndsApart.{step_is_route}
use Rattle.pssm_model_laws.proofs.LegRoots.{leg_begins, leg_turned, legs_meet, begin_leg, along_leg, later_last, later_to}
use Rattle.pssm_model_laws.proofs.UpAndDown.{IsUp, IsBelow, up_along, up_no_down, up_leg, up_earlier, height, below_not_up, turn_stand, next_along, HasTurn, last_up, source_of}
use Rattle.pssm_model_laws.proofs.UpAndDown.IsUp.{begins, rises}
use Rattle.pssm_model_laws.proofs.RouteKinds.{kind_of_step, some_start}
use Rattle.pssm_model_laws.proofs.UpScopes.{scope_turned, scope_in_area, last_up_scope}
use Rattle.pssm_model_laws.proofs.Widening.{HasUpScope, known_in_scope, next_not_start, next_scope, later_wider}
use Rattle.pssm_model_laws.proofs.RouteTree.{one_before}
use Rattle.pssm_model_laws.proofs.RouteSpans.{some_span}

module _ {m : DraftMachine} (shape : HasShape m) (rules : KeepsModelRules m) (p : Route) (step : IsStepRoute m p) where
  -- a route has an area
  pub has_area : (area : Scope) × IsAreaOf m p area
  has_area =
      let t = some_start shape rules p step in
      let kind = kind_of_step shape rules p step t.0 (of_starts m p t.0 t.1) in
      by t.0 t.1 kind.0 kind.1
    where
      by : (t : TransId) → Contains p.starts t → (kind : TransKind) → Goes m t kind → (area : Scope) × IsAreaOf m p area
      by t h Internal way = (Nowhere, (t, h, way))
      by t h Local way = let s = source_of shape rules p step t (of_starts m p t h) in (Inside s.0, ((t, h, way), (t, h, s.1)))
      by t h External way = let span = some_span shape rules p step in (Within span.0, ((t, h, way), span.1))

  -- the leg that goes up last
  pub top_leg : HasTurn shape rules p step (some_start shape rules p step).0
  top_leg =
      let t = some_start shape rules p step in
      last_up shape rules p step t.0 (of_starts m p t.0 t.1) (begins t.1)

  pub top_on : On p top_leg.last
  top_on = along_ends m p top_leg.along

  pub top_scope : (area : Scope) → IsAreaOf m p area → LegScope m p top_leg.last area
  top_scope area is = last_up_scope shape rules p step top_leg.last top_leg.at area top_leg.up top_on top_leg.enters top_leg.turns is

  -- a leg with a scope is one of the route
  pub scope_on : {t : TransId} {scope : Scope} → LegScope m p t scope → On p t
  scope_on (internal i) = i.0
  scope_on (local h) = leg_begins m p h.1
  scope_on (point passes f all) = leg_begins m p passes.1.1
  scope_on (other is i j k span) = is

  module _ (Active : VertexId → Type 0) where
    would_turn : (t u : TransId) (x : VertexId) → SameLeg m p t u → WouldExit m Active p t x → WouldExit m Active p u x
    would_turn t u x leg would = (would.0, (would.1.0, scope_turned shape rules p step t u would.1.0 leg would.1.1, would.1.2))

    -- where the leg before does not, none before it would exit the State
    none_before : (k t u : TransId) (x : VertexId) (n : NextLeg m p k t) (h : HasUpScope m p k n.2) → IsUp m p t → IsUp m p k
        → (LiesInScope m x h.scope → ⊥) → LaterLeg m p u t → WouldExit m Active p u x → ⊥
    none_before k t u x n h up k_up out later would =
        let last = later_last m p later in
        let leg = one_before shape rules p step last.0 k t last.1 n in
        ⊎_elim
        (λ near. out (subst (LiesInScope m x)
        (h.only would.1.0 (scope_turned shape rules p step u k would.1.0 (legs_meet m p near leg) would.1.1)) would.1.2))
        (λ far. out (later_wider shape rules p step would.1.0 h.scope x (later_to m p far leg) k_up would.1.1 would.1.2 h.is))
        last.2

    -- the first leg that would exit the State does
    earliest : {t : TransId} (x : VertexId) → IsUp m p t → WouldExit m Active p t x → Exits m Active p x
    earliest {t = t} x (begins h) would = (
      t,
      of_starts m p t h,
      (
        would,
        λ u later w.
            let last = later_last m p later in
            next_not_start shape rules p step last.0 t t last.1 (itself_leg (of_starts m p t h)) h,
      ),
    )
    earliest {t = t} x (rises {t = k} {v = c} up e goes_up l h) would =
        let t_on = of_rest m p t h in
        let k_on = up_on up in
        let cut = λ (is : IsCut m c). (
        let n : NextLeg m p k t = (k, t, c, itself_leg k_on, itself_leg t_on, is, e, l) in
        let t_up : IsUp m p t = rises {v = c} up e goes_up l h in
        let scope = next_scope shape rules p step n t_up in
        let found : Exits m Active p x = ⊎_elim
        (λ lies. earliest x up (would.0, (scope.scope, scope.is, lies)))
        (λ out. (t, t_on, (would, λ u later w. none_before k t u x n scope t_up up out later w)))
        (known_in_scope shape rules p step x scope.scope) in found) in
        ⊎_elim
        (λ junction. earliest x up (would_turn t k x (joined t_on (inr (inl (c, junction, l, e))) (itself_leg k_on)) would))
        (⊎_elim (λ join. cut (inr (inl join))) (λ exit. cut (inr (inr (inr exit)))))
        goes_up
      where
        up_on : {k : TransId} → IsUp m p k → On p k
        up_on {k = k} (begins g) = of_starts m p k g
        up_on {k = k} (rises u f g j i) = of_rest m p k i

    -- the route exits the active States of its area
    pub route_exits : (area : Scope) (x : VertexId) → IsAreaOf m p area → Exits m Active p x ↔ (Active x × LiesInScope m x area)
    route_exits area x is = (
      λ h.
          let would = h.2.0 in
          (would.0, scope_in_area shape rules p step h.0 would.1.0 area x is would.1.1 would.1.2),
      λ h. earliest x top_leg.up (h.0, (area, top_scope area is, h.1)),
    )

    -- what comes down exits nothing
    pub below_exits_nothing : (t : TransId) (x : VertexId) → On p t → IsBelow m p t → LegExits m Active p t x → ⊥
    below_exits_nothing t x is below h =
        let area = has_area in
        let would = h.0 in
        let lies = scope_in_area shape rules p step t would.1.0 area.0 x area.1 would.1.1 would.1.2 in
        ⊎_elim
        (λ a. below_not_up shape rules p step below (up_along shape rules p step a top_leg.up))
        (λ n. ⊎_elim
        (λ leg. below_not_up shape rules p step below (up_leg shape rules p step leg top_on top_leg.up))
        (λ later. h.1 top_leg.last later (would.0, (area.0, top_scope area.0 area.1, lies)))
        (along_leg shape rules p step (next_along top_on n)))
        (turn_stand shape rules p step top_leg.at t top_leg.up top_on top_leg.enters top_leg.turns is)

    down_is_below : (t : TransId) → On p t → IsDownLeg m p t → IsBelow m p t
    down_is_below t is down =
        let u = down.0 in
        let v = down.1 in
        ⊎_elim
        (λ up. absurd (⊎_elim
        (λ leg. up_no_down shape rules p step v (up_leg shape rules p step leg is up) down.3 down.4)
        (λ later. up_no_down shape rules p step v (up_earlier shape rules p step later (later_begins later) up) down.3 down.4)
        down.2))
        (λ below. below)
        (height shape rules p step t is)
      where
        later_begins : {a b : TransId} → LaterLeg m p a b → On p a
        later_begins (next_leg n) = leg_begins m p n.3
        later_begins (after_leg n rest) = leg_begins m p n.3

    pub down_exits_nothing : (t : TransId) (x : VertexId) → IsDownLeg m p t → LegExits m Active p t x → ⊥
    down_exits_nothing t x down h =
        let is = scope_on h.0.1.1 in
        below_exits_nothing t x is (down_is_below t is down) h

    -- a leg that exits a State within one that another exits is the same or an earlier one
    pub nested_exits : (t u : TransId) (y z : VertexId) → LegExits m Active p t y → LegExits m Active p u z → LiesInState m z y
        → SameLeg m p t u ⊎ LaterLeg m p u t
    nested_exits t u y z first second inside =
        let t_on = scope_on first.0.1.1 in
        let u_on = scope_on second.0.1.1 in
        ⊎_elim
        (λ a. ⊎_elim
        (λ leg. inl leg)
        (λ later. absurd (second.1 t later (second.0.0, (first.0.1.0, first.0.1.1, inner_in first.0.1.0 first.0.1.2))))
        (along_leg shape rules p step a))
        (⊎_elim
        (λ a. ⊎_elim (λ leg. inl (leg_turned m p leg)) (λ later. inr later) (along_leg shape rules p step a))
        (⊎_elim
        (λ beside. inl (begin_leg shape rules p step t u t_on u_on (inr (inl beside))))
        (λ b. ⊎_elim
        (λ up. absurd (up_no_down shape rules p step b.at (up_along shape rules p step b.to_first up) b.leaves_first b.kind))
        (λ below. absurd (below_exits_nothing t y t_on below first))
        (height shape rules p step t t_on))))
        (stand shape p (step_is_route step) rules t u t_on u_on)
      where
        inner_in : (scope : Scope) → LiesInScope m y scope → LiesInScope m z scope
        inner_in Nowhere h = h
        inner_in (Inside s) h = (h.0, h.1, under_further inside.2 (further inside.1 h.2))
        inner_in (Within r) h = under_further inside.2 (further inside.1 h)
