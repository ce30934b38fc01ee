-- A route leads out: its transitions follow one another over junctions and exit points until one ends on neither, and from each vertex on which one
-- ends a way leads on.
use Rattle.std.proofs.Common.{◌≢◌, ◌<◌, length, Option, None, subst, inl, inr, ⊎_elim}
use Rattle.pssm_model.specs.declared.ids.VertexId.{VertexId}
use Rattle.pssm_model.specs.declared.ids.RegionId.{RegionId}
use Rattle.pssm_model.specs.declared.ids.TransId.{TransId}
use Rattle.pssm_model.specs.declared.elements.DraftMachine.{DraftMachine}
use Rattle.pssm_model.specs.declared.elements.Element.TheVariants as elements
use Rattle.pssm_model.specs.declared.elements.FaultPlace.TheVariants as places
use Rattle.pssm_model.specs.declared.elements.VertexKind.{VertexKind}
use Rattle.pssm_model.specs.declared.elements.VertexKind.TheVariants as kinds
use Rattle.pssm_model.specs.declared.steps.Route.{Route}
use Rattle.pssm_model.specs.Forest.{HasKind}
use Rattle.pssm_model.specs.Shapes.{HasShape}
use Rattle.pssm_model.specs.Legs.{Leaves, Enters, On}
use Rattle.pssm_model.specs.Paths.{HasOut}
use Rattle.pssm_model.specs.Routes.{Truth, IsRoute, IsTrueAt, GoesOnAt}
use Rattle.pssm_model.specs.WellFormed.{KeepsModelRules}
use Rattle.pssm_model.specs.WellFormed.Breaks.{E05, E16}
use Rattle.pssm_enabled.specs.Fitting.{IsThrough}
use Rattle.pssm_model.proofs.ElementLaws.{kind_unique, enters_one}
use Rattle.pssm_model_laws.proofs.Known.{Known, known_either}
use Rattle.pssm_model_laws.proofs.KnownPlaces.{known_vertex_kind}
use Rattle.pssm_model_laws.proofs.Through.{kinds_clash, known_through, kind_of, target_there}
use Rattle.pssm_model_laws.proofs.RouteOrder.{target_of}
use Rattle.pssm_enabled.specs.Ways.{IsPassedOver, HasWay, IsAllowed, IsOpen, LeadsOut}
use Rattle.pssm_enabled.specs.Ways.HasWay.{ends as way_ends, over as way_over, all as way_all}
use Rattle.pssm_enabled.specs.Ways.LeadsOut.{ends as out_ends, on as out_on}
use Rattle.pssm_enabled.proofs.Leaving.{leaving_is_there}
use Rattle.pssm_enabled.proofs.Deciding.{some_transition, leaves_decided}
use Rattle.pssm_enabled.proofs.Descent.{by_descent}

module _ (m : DraftMachine) where
  -- junctions, exit points and entry points are vertices through which routes go on
  pub passed_through : (v : VertexId) → IsPassedOver m v → IsThrough m v
  passed_through v passed = ⊎_elim (λ junction. inl junction) (λ exit. inr (inr (inr (inr exit)))) passed

  pub entry_through : (v : VertexId) → HasKind m v kinds.EntryPoint → IsThrough m v
  entry_through v entry = inr (inr (inr (inl entry)))

  pub entry_not_passed : (v : VertexId) → HasKind m v kinds.EntryPoint → IsPassedOver m v → ⊥
  entry_not_passed v entry passed =
      ⊎_elim
      (λ junction. kinds_clash m v kinds.Junction kinds.EntryPoint (λ e. cc) junction entry)
      (λ exit. kinds_clash m v kinds.ExitPoint kinds.EntryPoint (λ e. cc) exit entry)
      passed

  pub known_passed : (v : VertexId) → Known (IsPassedOver m v)
  known_passed v = known_either (known_vertex_kind m v kinds.Junction) (known_vertex_kind m v kinds.ExitPoint)

  -- where no route goes on a way ends, and so it does at a vertex of another kind
  pub way_at_end : (truth : Truth) (v : VertexId) → (IsThrough m v → ⊥) → HasWay m truth v
  way_at_end truth v none = way_ends (λ passed. none (passed_through v passed)) (λ entry. none (entry_through v entry))

  pub way_by_kind : (truth : Truth) (v : VertexId) (k : VertexKind) → HasKind m v k → k ≢ kinds.Junction → k ≢ kinds.ExitPoint → k ≢ kinds.EntryPoint
      → HasWay m truth v
  way_by_kind truth v k is junction exit entry =
      way_ends
      (λ passed. ⊎_elim
      (λ j. junction (kind_unique m v k kinds.Junction is j))
      (λ x. exit (kind_unique m v k kinds.ExitPoint is x))
      passed)
      (λ e. entry (kind_unique m v k kinds.EntryPoint is e))

  module _ (truth : Truth) where
    -- a true transition is open where a way leads on from its end
    pub opens : (within : Option RegionId) (u : TransId) (v : VertexId) → Enters m u v → IsTrueAt m truth u → IsAllowed m within v
        → (HasKind m v kinds.EntryPoint → HasWay m truth v) → IsOpen m truth within u
    opens within u v e is allowed way = record {
      guard = is;
      target = λ w f. subst (IsAllowed m within) (enters_one m u v w e f) allowed;
      pass = λ w f entry.
          let same = enters_one m u v w e f in
          subst (HasWay m truth) same (way (subst (λ x. HasKind m x kinds.EntryPoint) (enters_one m u w v f e) entry));
    }

    -- where a way leads on from its end, a true transition leads out
    pub way_leads : {v : VertexId} → HasWay m truth v → (u : TransId) → Enters m u v → IsTrueAt m truth u → LeadsOut m truth None u
    way_leads (way_ends {v = v} none entry) u e is = out_ends (opens None u v e is tt (λ k. absurd (entry k))) e none
    way_leads (way_over {v = v} {w = w} {t = t} passed leaves holds enters way) u e is =
        out_on (opens None u v e is tt (λ k. absurd (entry_not_passed v k passed))) e passed leaves (way_leads way t enters holds)
    way_leads (way_all {v = v} k each) u e is =
        out_ends (opens None u v e is tt (λ entry. way_all k each)) e (λ passed. entry_not_passed v k passed)

module _ {m : DraftMachine} (rules : KeepsModelRules m) where
  -- the one way out of a join, and of an exit point
  some_out : (v : VertexId) → ((HasOut m v → ⊥) → ⊥) → HasOut m v
  some_out v sure =
      ⊎_elim
      (λ found. found)
      (λ none. absurd (sure (λ h. none h.0 h.1)))
      (some_transition m (λ t. Leaves m t v) (λ t. leaves_decided m t v) (λ t leaves. leaving_is_there m t v leaves))

  pub join_out : (v : VertexId) → HasKind m v kinds.Join → HasOut m v
  join_out v k = some_out v (λ none. rules (places.At (elements.Vertex v)) 5 (E05 (k, inr (inl none))))

  pub exit_out : (v : VertexId) → HasKind m v kinds.ExitPoint → HasOut m v
  exit_out v k = some_out v (λ none. rules (places.At (elements.Vertex v)) 16 (E16 (k, inl (inl none))))

module _ {m : DraftMachine} (shape : HasShape m) (rules : KeepsModelRules m) (truth : Truth) (p : Route) (route : IsRoute m p)
    (guards : (u : TransId) → On p u → IsTrueAt m truth u) where
  -- A way leads on from the vertex, if a transition of the route ends there.
  abbrev IsPassable : VertexId → Type 0
  IsPassable v = (u : TransId) → On p u → Enters m u v → HasWay m truth v

  -- the vertices that come next, if routes go on through them, are passable
  abbrev AreNextPassable : VertexId → Type 0
  AreNextPassable v = (u : TransId) (w : VertexId) → IsThrough m v → Leaves m u v → Enters m u w → IsThrough m w → IsPassable w

  next_way : (v : VertexId) → AreNextPassable v → (t : TransId) (w : VertexId) → IsThrough m v → On p t → Leaves m t v → Enters m t w → HasWay m truth w
  next_way v next t w through is leaves enters =
      ⊎_elim (λ second. next t w through leaves enters second t is enters) (λ none. way_at_end m truth w none) (known_through m w)

  over_one : (v : VertexId) → AreNextPassable v → IsPassedOver m v → (t : TransId) → On p t → Leaves m t v → HasWay m truth v
  over_one v next passed t is leaves =
      let w = target_of shape rules p route t is in
      way_over passed leaves (guards t is) w.1 (next_way v next t w.0 (passed_through m v passed) is leaves w.1)

  way_at : (v : VertexId) (k : VertexKind) → HasKind m v k → AreNextPassable v → GoesOnAt m p v k → HasWay m truth v
  way_at v kinds.Junction k next on = over_one v next (inl k) on.0 on.1 on.2
  way_at v kinds.ExitPoint k next on = let out = exit_out rules v k in over_one v next (inr k) out.0 (on out.0 out.1) out.1
  way_at v kinds.EntryPoint k next on =
      way_all k (λ t w leaves enters. next_way v next t w (entry_through m v k) (on t leaves) leaves enters)
  way_at v kinds.Fork k next on = way_by_kind m truth v kinds.Fork k (λ e. cc) (λ e. cc) (λ e. cc)
  way_at v kinds.Join k next on = way_by_kind m truth v kinds.Join k (λ e. cc) (λ e. cc) (λ e. cc)
  way_at v kinds.State k next on = way_by_kind m truth v kinds.State k (λ e. cc) (λ e. cc) (λ e. cc)
  way_at v kinds.Final k next on = way_by_kind m truth v kinds.Final k (λ e. cc) (λ e. cc) (λ e. cc)
  way_at v kinds.Initial k next on = way_by_kind m truth v kinds.Initial k (λ e. cc) (λ e. cc) (λ e. cc)
  way_at v kinds.DeepHistory k next on = way_by_kind m truth v kinds.DeepHistory k (λ e. cc) (λ e. cc) (λ e. cc)
  way_at v kinds.ShallowHistory k next on = way_by_kind m truth v kinds.ShallowHistory k (λ e. cc) (λ e. cc) (λ e. cc)
  way_at v kinds.Choice k next on = way_by_kind m truth v kinds.Choice k (λ e. cc) (λ e. cc) (λ e. cc)
  way_at v kinds.Terminate k next on = way_by_kind m truth v kinds.Terminate k (λ e. cc) (λ e. cc) (λ e. cc)

  passable_more : (v : VertexId) → v.0 < length m.vertices → AreNextPassable v → IsPassable v
  passable_more v there next u is e =
      let kind = kind_of shape v there in way_at v kind.0 kind.1 next (route.goes_on u v kind.0 is e kind.1)

  -- a way leads on from each vertex on which a transition of the route ends
  pub route_way : (u : TransId) (v : VertexId) → On p u → Enters m u v → HasWay m truth v
  route_way u v is e = by_descent shape rules IsPassable passable_more v (target_there shape u v e) u is e

  module _ (within : Option RegionId) (allowed : (u : TransId) (v : VertexId) → On p u → Enters m u v → IsAllowed m within v) where
    open_on : (u : TransId) (v : VertexId) → On p u → Enters m u v → IsOpen m truth within u
    open_on u v is e = opens m truth within u v e (guards u is) (allowed u v is e) (λ entry. route_way u v is e)

    -- A transition of the route that ends there leads out.
    abbrev GoesOut : VertexId → Type 0
    GoesOut v = (u : TransId) → On p u → Enters m u v → LeadsOut m truth within u

    abbrev AreNextOut : VertexId → Type 0
    AreNextOut v = (u : TransId) (w : VertexId) → IsThrough m v → Leaves m u v → Enters m u w → IsThrough m w → GoesOut w

    out_over : (v : VertexId) → AreNextOut v → IsPassedOver m v → (u : TransId) → On p u → Enters m u v → (t : TransId) → On p t → Leaves m t v
        → LeadsOut m truth within u
    out_over v next passed u is e t further leaves =
        let w = target_of shape rules p route t further in
        out_on (open_on u v is e) e passed leaves
        (⊎_elim
        (λ second. next t w.0 (passed_through m v passed) leaves w.1 second t further w.1)
        (λ none. out_ends (open_on t w.0 further w.1) w.1 (λ over. none (passed_through m w.0 over)))
        (known_through m w.0))

    out_more : (v : VertexId) → v.0 < length m.vertices → AreNextOut v → GoesOut v
    out_more v there next u is e =
        ⊎_elim
        (λ passed. ⊎_elim
        (λ junction.
        let one = route.goes_on u v kinds.Junction is e junction in
        out_over v next passed u is e one.0 one.1 one.2)
        (λ exit.
        let out = exit_out rules v exit in
        out_over v next passed u is e out.0 (route.goes_on u v kinds.ExitPoint is e exit out.0 out.1) out.1)
        passed)
        (λ none. out_ends (open_on u v is e) e none)
        (known_passed m v)

    -- each transition of the route leads out
    pub route_leads : (u : TransId) → On p u → LeadsOut m truth within u
    route_leads u is =
        let v = target_of shape rules p route u is in
        by_descent shape rules GoesOut out_more v.0 (target_there shape u v.0 v.1) u is v.1
