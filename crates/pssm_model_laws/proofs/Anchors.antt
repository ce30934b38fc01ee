-- Two routes conflict exactly where the area of one covers the anchor of the other, or one anchor is or lies in the other.
use Rattle.std.proofs.Common.{◌≡◌, ◌≢◌, ◌⊎◌, ◌↔◌, Contains, refl, sym, subst, ◌∙◌, inl, inr, ⊎_elim}
use Rattle.pssm_model.specs.declared.ids.VertexId.{VertexId}
use Rattle.pssm_model.specs.declared.elements.DraftMachine.{DraftMachine}
use Rattle.pssm_model.specs.declared.elements.VertexKind.TheVariants as kinds
use Rattle.pssm_model.specs.declared.elements.TransKind.TheVariants.{External, Local, Internal}
use Rattle.pssm_model.specs.declared.elements.Owner.TheVariants.{State}
use Rattle.pssm_model.specs.declared.steps.Route.{Route}
use Rattle.pssm_model.specs.Forest.{LiesInState, IsOrLiesIn}
use Rattle.pssm_model.specs.Forest.LiesUnder.{owned, further}
use Rattle.pssm_model.specs.Legs.{Leaves, Scope, LiesInScope, Exits}
use Rattle.pssm_model.specs.Legs.Scope.{Nowhere, Inside, Within}
use Rattle.pssm_model.specs.Routes.{IsSource, IsStateRoute, Conflict}
use Rattle.pssm_model.specs.Shapes.{HasShape}
use Rattle.pssm_model.specs.WellFormed.{KeepsModelRules}
use Rattle.pssm_model.specs.RouteWords.{IsStepRoute}
use Rattle.pssm_model_laws.specs.inner.RouteWords.{IsAreaOf, IsAnchorOf}
use Rattle.pssm_model.proofs.ElementLaws.{kind_unique, leaves_one}
use Rattle.pssm_model.proofs.RouteLaws.{in_one, is_one}
use Rattle.pssm_model.proofs.OwnerChains.{under_further}
use Rattle.pssm_model.proofs.Nesting.{region_cases, lies_within}
use Rattle.pssm_model_laws.proofs.LegScopes.{IsAround, Touch, shared_touch}
use Rattle.pssm_model_laws.proofs.InnerPaths.{home_owner, target_there}
use Rattle.pssm_model_laws.proofs.Branches.{of_starts}
use Rattle.pssm_model_laws.proofs.UpAndDown.{source_of}
use Rattle.pssm_model_laws.proofs.RouteKinds.{join_external, kinds_agree}
use Rattle.pssm_model_laws.proofs.RouteAreas.{route_exits}

module _ (m : DraftMachine) where
  -- a State in one that is or lies in another
  inner_of : (x y z : VertexId) → IsOrLiesIn m x y → IsOrLiesIn m y z → IsOrLiesIn m x z
  inner_of x y z h g =
      ⊎_elim
      (λ e. subst (λ k. IsOrLiesIn m k z) (sym e) g)
      (λ deep. inr (⊎_elim
      (λ e. subst (LiesInState m x) e deep)
      (λ more. (more.0, more.1, under_further deep.2 (further deep.1 more.2)))
      g))
      h

  -- what is or lies in a State lies in each scope in which that lies
  scope_down : (scope : Scope) (x y : VertexId) → LiesInScope m y scope → IsOrLiesIn m x y → LiesInScope m x scope
  scope_down scope x y lies h = ⊎_elim (λ e. subst (λ k. LiesInScope m k scope) (sym e) lies) (λ deep. by scope lies deep) h
    where
      by : (at : Scope) → LiesInScope m y at → LiesInState m x y → LiesInScope m x at
      by Nowhere h deep = h
      by (Inside s) h deep = (h.0, h.1, under_further deep.2 (further deep.1 h.2))
      by (Within r) h deep = under_further deep.2 (further deep.1 h)

  -- the States, and two scopes of which each covers the other's, or what is or lies in it
  abbrev pub Meet : VertexId → Scope → VertexId → Scope → Type 0
  Meet s a r b = LiesInScope m r a ⊎ LiesInScope m s b ⊎ IsOrLiesIn m s r ⊎ IsOrLiesIn m r s

  inside_first : (s r : VertexId) (b : Scope) (a : Scope) → Touch m s (Inside s) r b → Meet s a r b
  inside_first s r b a h = ⊎_elim (λ lies. inr (inr (inr (inr lies)))) (λ more. inr more) h

  inside_second : (s r : VertexId) (a b : Scope) → Touch m s a r (Inside r) → Meet s a r b
  inside_second s r a b h =
      ⊎_elim (λ lies. inl lies) (⊎_elim (λ lies. inr (inr (inl (inr lies)))) (λ more. inr (inr more))) h

  -- a vertex in both, or in what is in them
  meet_at : (x s r : VertexId) (a b : Scope) → IsAround m s a → IsAround m r b → LiesInScope m x a → IsOrLiesIn m x r → Meet s a r b
  meet_at x s r a b first second lies h =
      ⊎_elim
      (λ e. inl (subst (λ k. LiesInScope m k a) e lies))
      (λ deep. inside_second s r a b (shared_touch m x s r a (Inside r) first refl lies deep))
      h

  meet_back : (x s r : VertexId) (a b : Scope) → IsAround m s a → IsAround m r b → LiesInScope m x b → IsOrLiesIn m x s → Meet s a r b
  meet_back x s r a b first second lies h =
      ⊎_elim
      (λ e. inr (inl (subst (λ k. LiesInScope m k b) e lies)))
      (λ deep. inside_first s r b a (shared_touch m x s r (Inside s) b refl second deep lies))
      h

  meet_within : (x s r : VertexId) (a b : Scope) → IsOrLiesIn m x s → IsOrLiesIn m x r → Meet s a r b
  meet_within x s r a b h g =
      ⊎_elim
      (λ e. inr (inr (inl (subst (λ k. IsOrLiesIn m k r) e g))))
      (λ deep. ⊎_elim
      (λ e. inr (inr (inr (inr (subst (λ k. LiesInState m k s) e deep)))))
      (λ more. ⊎_elim
      (λ lies. inr (inr (inr (inr lies))))
      (⊎_elim (λ lies. inr (inr (inl (inr lies)))) (λ rest. inr (inr rest)))
      (shared_touch m x s r (Inside s) (Inside r) refl refl deep more))
      g)
      h

module _ {m : DraftMachine} (shape : HasShape m) (rules : KeepsModelRules m) (p : Route) (states : IsStateRoute m p) where
  step : IsStepRoute m p
  step = inl states

  -- the sources are or lie in the anchor
  pub sources_within : (s y : VertexId) → IsAnchorOf m p s → IsSource m p y → IsOrLiesIn m y s
  sources_within s y anchor source =
      ⊎_elim
      (λ single.
      let here = is_one single.0 source.0 (subst (λ ts. Contains ts source.0) single.1.starts source.1) in
      inl (leaves_one m single.0 y s (subst (λ x. Leaves m x y) here source.2) single.1.leaves))
      (λ join. inr (join.7 y source))
      anchor

  pub anchor_source : (s : VertexId) → IsAnchorOf m p s → (y : VertexId) × IsSource m p y
  anchor_source s anchor =
      ⊎_elim
      (λ single. (s, (single.0, subst (λ ts. Contains ts single.0) (sym single.1.starts) (in_one single.0), single.1.leaves)))
      (λ join.
      let y = source_of shape rules p step join.1 (of_starts m p join.1 join.2) in
      (y.0, (join.1, join.2, y.1)))
      anchor

  -- the area lies around the anchor
  pub anchor_around : (s : VertexId) (a : Scope) → IsAnchorOf m p s → IsAreaOf m p a → IsAround m s a
  anchor_around s Nowhere anchor area = tt
  anchor_around s (Inside q) anchor area =
      ⊎_elim
      (λ single.
      let here = is_one single.0 area.1.0 (subst (λ ts. Contains ts area.1.0) single.1.starts area.1.1) in
      leaves_one m single.0 q s (subst (λ x. Leaves m x q) here area.1.2) single.1.leaves)
      (λ join.
      let goes = join_external shape rules p step join.1 join.0 (of_starts m p join.1 join.2) join.3 join.4 in
      let clash = kinds_agree shape rules p step area.0.0 join.1 Local External area.0.1 join.2 area.0.2 goes in
      absurd (cc))
      anchor
  anchor_around s (Within r) anchor area =
      ⊎_elim
      (λ single.
      let start = subst (λ ts. Contains ts single.0) (sym single.1.starts) (in_one single.0) in
      area.1.common s (single.0, of_starts m p single.0 start, inl single.1.leaves))
      (λ join.
      let home = home_owner shape join.0 (target_there shape join.1 join.0 join.3) (λ at_point. ⊎_elim
      (λ k. let clash = kind_unique m join.0 kinds.Join kinds.EntryPoint join.4 k in cc)
      (λ k. let clash = kind_unique m join.0 kinds.Join kinds.ExitPoint join.4 k in cc)
      at_point) in
      let j_in = area.1.common join.0 (join.1, of_starts m p join.1 join.2, inr join.3) in
      lies_within m s home.0 r (owned (join.6 ∙ home.1)) (region_cases m (State join.0) home.0 r home.1 j_in))
      anchor

  -- a State that is or lies in the anchor is in the area, or the anchor is a source
  pub in_area_or_source : (s x : VertexId) (a : Scope) → IsAnchorOf m p s → IsAreaOf m p a → IsOrLiesIn m x s → LiesInScope m x a ⊎ IsSource m p s
  in_area_or_source s x Nowhere anchor area h =
      ⊎_elim
      (λ single. inr (single.0, subst (λ ts. Contains ts single.0) (sym single.1.starts) (in_one single.0), single.1.leaves))
      (λ join.
      let goes = join_external shape rules p step join.1 join.0 (of_starts m p join.1 join.2) join.3 join.4 in
      let clash = kinds_agree shape rules p step area.0 join.1 Internal External area.1 join.2 area.2 goes in
      absurd (cc))
      anchor
  in_area_or_source s x (Inside q) anchor area h =
      inr (area_source (anchor_around s (Inside q) anchor area))
    where
      area_source : q ≡ s → IsSource m p s
      area_source e = subst (IsSource m p) e area.1
  in_area_or_source s x (Within r) anchor area h = inl (scope_down m (Within r) x s (anchor_around s (Within r) anchor area) h)

module _ {m : DraftMachine} (shape : HasShape m) (rules : KeepsModelRules m) (p q : Route) (first : IsStateRoute m p) (second : IsStateRoute m q)
    (Active : VertexId → Type 0) (a b : Scope) (s r : VertexId) (p_anchor : IsAnchorOf m p s) (q_anchor : IsAnchorOf m q r) (p_area : IsAreaOf m p a)
    (q_area : IsAreaOf m q b) (active : (x : VertexId) → IsSource m p x ⊎ IsSource m q x → Active x) (apart : p ≢ q) where
  p_around : IsAround m s a
  p_around = anchor_around shape rules p first s a p_anchor p_area

  q_around : IsAround m r b
  q_around = anchor_around shape rules q second r b q_anchor q_area

  p_exits : (x : VertexId) → Exits m Active p x ↔ (Active x × LiesInScope m x a)
  p_exits x = route_exits shape rules p (inl first) Active a x p_area

  q_exits : (x : VertexId) → Exits m Active q x ↔ (Active x × LiesInScope m x b)
  q_exits x = route_exits shape rules q (inl second) Active b x q_area

  conflict_meets : Conflict m Active p q → Meet m s a r b
  conflict_meets h =
      ⊎_elim
      (λ both. shared_touch m both.0 s r a b p_around q_around ((p_exits both.0).0 both.1).1 ((q_exits both.0).0 both.2).1)
      (⊎_elim
      (λ one. meet_at m one.0 s r a b p_around q_around ((p_exits one.0).0 one.1).1 (sources_within shape rules q second r one.0 q_anchor one.2))
      (⊎_elim
      (λ one. meet_back m one.0 s r a b p_around q_around ((q_exits one.0).0 one.1).1 (sources_within shape rules p first s one.0 p_anchor one.2))
      (λ two.
      let x_in = sources_within shape rules p first s two.0 p_anchor two.2 in
      let y_in = sources_within shape rules q second r two.1 q_anchor two.3 in
      ⊎_elim
      (λ inner. meet_within m two.0 s r a b x_in (inner_of m two.0 two.1 r inner y_in))
      (λ outer. meet_within m two.1 s r a b (inner_of m two.1 two.0 s outer x_in) y_in)
      two.4)))
      h.1

  -- where the area of the first covers the anchor of the second, it exits a source of that
  covers_second : LiesInScope m r a → Conflict m Active p q
  covers_second lies =
      let y = anchor_source shape rules q second r q_anchor in
      let y_in = scope_down m a y.0 r lies (sources_within shape rules q second r y.0 q_anchor y.1) in
      (apart, inr (inl (y.0, (p_exits y.0).1 (active y.0 (inr y.1), y_in), y.1)))

  covers_first : LiesInScope m s b → Conflict m Active p q
  covers_first lies =
      let x = anchor_source shape rules p first s p_anchor in
      let x_in = scope_down m b x.0 s lies (sources_within shape rules p first s x.0 p_anchor x.1) in
      (apart, inr (inr (inl (x.0, (q_exits x.0).1 (active x.0 (inl x.1), x_in), x.1))))

  first_in_second : IsOrLiesIn m s r → Conflict m Active p q
  first_in_second h =
      ⊎_elim
      (λ lies. covers_first lies)
      (λ source.
      let x = anchor_source shape rules p first s p_anchor in
      let x_in = inner_of m x.0 s r (sources_within shape rules p first s x.0 p_anchor x.1) h in
      (apart, inr (inr (inr (x.0, r, x.1, source, inl x_in)))))
      (in_area_or_source shape rules q second r s b q_anchor q_area h)

  second_in_first : IsOrLiesIn m r s → Conflict m Active p q
  second_in_first h =
      ⊎_elim
      (λ lies. covers_second lies)
      (λ source.
      let y = anchor_source shape rules q second r q_anchor in
      let y_in = inner_of m y.0 r s (sources_within shape rules q second r y.0 q_anchor y.1) h in
      (apart, inr (inr (inr (s, y.0, source, y.1, inr y_in)))))
      (in_area_or_source shape rules p first s r a p_anchor p_area h)

  conflicting : Meet m s a r b → Conflict m Active p q
  conflicting h = ⊎_elim covers_second (⊎_elim covers_first (⊎_elim first_in_second second_in_first)) h

-- conflict by anchors
pub conflict_is : {m : DraftMachine} (shape : HasShape m) (rules : KeepsModelRules m) (p q : Route) → IsStateRoute m p → IsStateRoute m q
    → (Active : VertexId → Type 0) (a b : Scope) (s r : VertexId) → IsAnchorOf m p s → IsAnchorOf m q r → IsAreaOf m p a → IsAreaOf m q b
    → ((x : VertexId) → IsSource m p x ⊎ IsSource m q x → Active x) → p ≢ q
    → Conflict m Active p q ↔ (LiesInScope m r a ⊎ LiesInScope m s b ⊎ IsOrLiesIn m s r ⊎ IsOrLiesIn m r s)
conflict_is shape rules p q first second Active a b s r p_anchor q_anchor p_area q_area active apart = (
  conflict_meets shape rules p q first second Active a b s r p_anchor q_anchor p_area q_area active apart,
  conflicting shape rules p q first second Active a b s r p_anchor q_anchor p_area q_area active apart,
)
