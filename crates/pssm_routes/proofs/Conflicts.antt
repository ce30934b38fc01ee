-- From where a route starts and where it exits, and when two routes conflict.
use Rattle.std.proofs.Common.{◌≡◌, ◌≢◌, ◌⊎◌, ◌↔◌, refl, sym, ap, subst, ◌∙◌, inl, inr, ⊎_elim, Contains}
use Rattle.pssm_model.specs.declared.ids.VertexId.{VertexId}
use Rattle.pssm_model.specs.declared.ids.RegionId.{RegionId}
use Rattle.pssm_model.specs.declared.ids.TransId.{TransId}
use Rattle.pssm_model.specs.declared.elements.DraftMachine.{DraftMachine}
use Rattle.pssm_model.specs.declared.elements.TransKind.TheVariants.{External, Local, Internal}
use Rattle.pssm_model.specs.declared.elements.Owner.TheVariants.{State}
use Rattle.pssm_model.specs.declared.steps.Route.{Route}
use Rattle.pssm_model.specs.Shapes.{HasShape}
use Rattle.pssm_model.specs.Forest.{LiesInRegion, IsOrLiesIn, IsWithin, IsScope}
use Rattle.pssm_model.specs.Forest.LiesUnder.{further}
use Rattle.pssm_model.specs.Legs.{Goes, Enters, On, Scope}
use Rattle.pssm_model.specs.Legs.Scope.{Nowhere as nowhere, Inside as inside, Within as within}
use Rattle.pssm_model.specs.Routes.{IsSource, IsStateRoute, Conflict}
use Rattle.pssm_model.specs.RouteWords.{IsStepRoute}
use Rattle.pssm_model.specs.WellFormed.{KeepsModelRules}
use Rattle.pssm_model_laws.specs.inner.RouteWords.{IsEndOf, IsAreaOf}
use Rattle.pssm_model.proofs.ElementLaws.{leaves_one}
use Rattle.pssm_model.proofs.OwnerChains.{under_further}
use Rattle.pssm_model_laws.proofs.RegionChains.{on_one_chain}
use Rattle.pssm_model_laws.proofs.RouteOrder.{start_or_rest, before_rest}
use Rattle.pssm_model_laws.proofs.RouteKinds.{some_start, kinds_agree}
use Rattle.pssm_model_laws.proofs.RouteAreas.{has_area}
use Rattle.pssm_model_laws.proofs.OneLegScope.{one_area}
use Rattle.pssm_model_laws.proofs.SomeAnchor.{some_anchor}
use Rattle.pssm_model_laws.proofs.Anchors.{sources_within, anchor_around, conflict_is}
use Rattle.pssm_legs.specs.declared.areas.Area.{Area}
use Rattle.pssm_legs.specs.declared.areas.Area.TheVariants.{Nowhere, Inside, Within}
use Rattle.pssm_legs.specs.Areas.{scope_of}
use Rattle.pssm_routes.specs.declared.areas.Footprint.{Footprint}
use Rattle.pssm_routes.specs.inner.Footprints.{IsFootprintOf, Clash}
use Rattle.pssm_routes.proofs.AnchorLaws.{anchor_is, anchor_by}

-- the area of a scope
abbrev area_of : Scope → Area
area_of nowhere = Nowhere
area_of (inside s) = Inside s
area_of (within r) = Within r

named_area : (a : Area) → area_of (scope_of a) ≡ a
named_area Nowhere = refl
named_area (Inside s) = refl
named_area (Within r) = refl

same_area : (a c : Area) → scope_of a ≡ scope_of c → a ≡ c
same_area a c e = sym (named_area a) ∙ ap area_of e ∙ named_area c

scope_named : (scope : Scope) → scope_of (area_of scope) ≡ scope
scope_named nowhere = refl
scope_named (inside s) = refl
scope_named (within r) = refl

same_footprint : (a c : Footprint) → a.source ≡ c.source → a.area ≡ c.area → a ≡ c
same_footprint a c e f = λ i. record { source = e i; area = f i }

-- what is or lies in a State lies where that lies
pub lies_with : (m : DraftMachine) (x s : VertexId) (r : RegionId) → IsOrLiesIn m x s → LiesInRegion m s r → LiesInRegion m x r
lies_with m x s r h lies =
    ⊎_elim
    (λ same. subst (λ y. LiesInRegion m y r) (sym same) lies)
    (λ deep. under_further {m = m} deep.2 (further deep.1 lies))
    h

-- what an external route has as its area: a region in which its anchor and all its targets lie, and the innermost such
pub record IsSpan (m : DraftMachine) (p : Route) (s : VertexId) (r : RegionId) : Type 0 where
  pub lies : LiesInRegion m s r
  pub targets : (u : TransId) (v : VertexId) → On p u → Enters m u v → LiesInRegion m v r
  pub innermost : (q : RegionId) → LiesInRegion m s q → ((u : TransId) (v : VertexId) → On p u → Enters m u v → LiesInRegion m v q) → IsWithin m r q

module _ {m : DraftMachine} (shape : HasShape m) (rules : KeepsModelRules m) where
  -- each route of States has one footprint
  pub some_footprint : (p : Route) → IsStateRoute m p → (g : Footprint) × IsFootprintOf m p g
  some_footprint p route =
      let anchor = some_anchor shape rules p route in
      let area = has_area shape rules p (inl route) in (
        record { source = anchor.0; area = area_of area.0 },
        record { anchor = anchor.1; area = subst (IsAreaOf m p) (sym (scope_named area.0)) area.1 },
      )

  pub one_footprint : (p : Route) (a c : Footprint) → IsStateRoute m p → IsFootprintOf m p a → IsFootprintOf m p c → a ≡ c
  one_footprint p a c route first second =
      let start = some_start shape rules p (inl route) in
      same_footprint a c
      (anchor_is shape rules p route start.0 c.source a.source start.1 (anchor_by shape rules p route start.0 c.source start.1 second.anchor) first.anchor)
      (same_area a.area c.area (one_area shape rules p (inl route) (scope_of a.area) (scope_of c.area) first.area second.area))

  module _ (p : Route) (g : Footprint) (t : TransId) (route : IsStateRoute m p) (footprint : IsFootprintOf m p g) (start : Contains p.starts t) where
    step : IsStepRoute m p
    step = inl route

    -- the kind of a start says which area the route has
    pub area_of_internal : Goes m t Internal → g.area ≡ Nowhere
    area_of_internal goes = by g.area footprint.area
      where
        by : (a : Area) → IsAreaOf m p (scope_of a) → a ≡ Nowhere
        by Nowhere h = refl
        by (Inside s) h = let clash = kinds_agree shape rules p step t h.0.0 Internal Local start h.0.1 goes h.0.2 in absurd (cc)
        by (Within r) h = let clash = kinds_agree shape rules p step t h.0.0 Internal External start h.0.1 goes h.0.2 in absurd (cc)

    pub area_of_local : Goes m t Local → g.area ≡ Inside g.source
    area_of_local goes = by g.area footprint.area
      where
        by : (a : Area) → IsAreaOf m p (scope_of a) → a ≡ Inside g.source
        by Nowhere h = let clash = kinds_agree shape rules p step t h.0 Local Internal start h.1 goes h.2 in absurd (cc)
        by (Inside s) h = ap Inside (anchor_around shape rules p route g.source (inside s) footprint.anchor h)
        by (Within r) h = let clash = kinds_agree shape rules p step t h.0.0 Local External start h.0.1 goes h.0.2 in absurd (cc)

    -- all vertices of the route lie in each region in which its anchor and all its targets lie
    all_ends : (q : RegionId) → LiesInRegion m g.source q → ((u : TransId) (v : VertexId) → On p u → Enters m u v → LiesInRegion m v q)
        → (v : VertexId) → IsEndOf m p v → LiesInRegion m v q
    all_ends q lies targets v (u, is, at) =
        ⊎_elim
        (λ leaves. ⊎_elim
        (λ first. lies_with m v g.source q (sources_within shape rules p route g.source v footprint.anchor (u, first, leaves)) lies)
        (λ further.
        let before = before_rest shape rules p route.0 u further in
        let there = leaves_one m u before.1.at v before.1.leaves leaves in
        targets before.0 v before.1.first (subst (Enters m before.0) there before.1.enters))
        (start_or_rest m p u is))
        (λ enters. targets u v is enters)
        at

    span_of : (r : RegionId) → IsScope m (IsEndOf m p) r → LiesInRegion m g.source r → IsSpan m p g.source r
    span_of r scope lies = record {
      lies = lies;
      targets = λ u v is enters. scope.common v (u, is, inr enters);
      innermost = λ q also targets. ⊎_elim
          (λ h. ⊎_elim
          (λ same. inl (sym same))
          (λ under. absurd (scope.innermost q (all_ends q also targets) under))
          h)
          (λ h. h)
          (on_one_chain m (State g.source) q r also lies);
    }

    pub area_of_external : Goes m t External → (r : RegionId) × (g.area ≡ Within r) × IsSpan m p g.source r
    area_of_external goes = by g.area footprint.area
      where
        by : (a : Area) → IsAreaOf m p (scope_of a) → (r : RegionId) × (a ≡ Within r) × IsSpan m p g.source r
        by Nowhere h = let clash = kinds_agree shape rules p step t h.0 External Internal start h.1 goes h.2 in absurd (cc)
        by (Inside s) h = let clash = kinds_agree shape rules p step t h.0.0 External Local start h.0.1 goes h.0.2 in absurd (cc)
        by (Within r) h = (r, refl, span_of r h.1 (anchor_around shape rules p route g.source (within r) footprint.anchor h))

  -- two routes whose sources are active conflict exactly where their footprints clash
  pub conflict_clashes : (Active : VertexId → Type 0) (p q : Route) (a c : Footprint) → IsStateRoute m p → IsStateRoute m q → IsFootprintOf m p a
      → IsFootprintOf m q c → ((x : VertexId) → IsSource m p x ⊎ IsSource m q x → Active x) → p ≢ q → Conflict m Active p q ↔ Clash m a c
  conflict_clashes Active p q a c first second footprint other active apart =
      conflict_is shape rules p q first second Active (scope_of a.area) (scope_of c.area) a.source c.source footprint.anchor other.anchor footprint.area
      other.area active apart
