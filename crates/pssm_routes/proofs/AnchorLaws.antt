-- The State from which a route starts: there is one, and each of its starts tells it.
use Rattle.std.proofs.Common.{◌≡◌, Some, Contains, refl, sym, subst, ◌∙◌, inl, inr, ⊎_elim}
use Rattle.pssm_model.specs.declared.ids.VertexId.{VertexId}
use Rattle.pssm_model.specs.declared.ids.RegionId.{RegionId}
use Rattle.pssm_model.specs.declared.ids.TransId.{TransId}
use Rattle.pssm_model.specs.declared.elements.DraftMachine.{DraftMachine}
use Rattle.pssm_model.specs.declared.elements.VertexKind.TheVariants as kinds
use Rattle.pssm_model.specs.declared.elements.Owner.{Owner}
use Rattle.pssm_model.specs.declared.elements.Owner.TheVariants.{Region, State}
use Rattle.pssm_model.specs.declared.steps.Route.{Route}
use Rattle.pssm_model.specs.Forest.{owner_of, HasKind, LiesUnder, LiesInState}
use Rattle.pssm_model.specs.Forest.LiesUnder.{owned, further}
use Rattle.pssm_model.specs.Legs.{Leaves, Enters}
use Rattle.pssm_model.specs.Routes.{IsStateRoute}
use Rattle.pssm_model.specs.RouteWords.{IsStepRoute}
use Rattle.pssm_model.specs.Shapes.{HasShape}
use Rattle.pssm_model.specs.WellFormed.{KeepsModelRules}
use Rattle.pssm_model_laws.specs.inner.RouteWords.{IsAnchorOf}
use Rattle.pssm_model.proofs.ElementLaws.{leaves_one, enters_one}
use Rattle.pssm_model.proofs.RouteLaws.{is_one}
use Rattle.pssm_model.proofs.OwnerChains.{under_further}
use Rattle.pssm_model_laws.proofs.RegionChains.{on_one_chain, under_state}
use Rattle.pssm_model_laws.proofs.InnerPaths.{no_circle}
use Rattle.pssm_model_laws.proofs.RouteOrder.{of_start, same_or_join}
use Rattle.pssm_model_laws.proofs.UpAndDown.{source_of}
use Rattle.pssm_model_laws.proofs.SomeAnchor.{some_anchor}
use Rattle.pssm_routes.specs.inner.Footprints.{IsAnchorBy}

module _ (m : DraftMachine) where
  -- what has the same owner lies under the same places
  pub same_under : {p q x : Owner} → owner_of m p ≡ owner_of m q → LiesUnder m p x → LiesUnder m q x
  same_under e (owned f) = owned (sym e ∙ f)
  same_under e (further f rest) = further (sym e ∙ f) rest

  one_state : (r q : RegionId) (s x : VertexId) → r ≡ q → owner_of m (Region r) ≡ Some (State s) → owner_of m (Region q) ≡ Some (State x) → s ≡ x
  one_state r q s x same e f =
      let g : owner_of m (Region r) ≡ Some (State x) = subst (λ k. owner_of m (Region k) ≡ Some (State x)) (sym same) f in cc (e, g)

module _ {m : DraftMachine} (shape : HasShape m) where
  -- of two States of one owner neither lies in a region of the other
  not_beneath : (s r : VertexId) (q k : RegionId) → owner_of m (State s) ≡ owner_of m (State r) → owner_of m (Region q) ≡ Some (State s)
      → owner_of m (Region k) ≡ Some (State r) → LiesUnder m (Region q) (Region k) → ⊥
  not_beneath s r q k same e f under =
      let above : LiesUnder m (State s) (Region k) = under_state m (Region q) s k e under in
      no_circle shape (State r) (under_further {m = m} (same_under m same above) (owned f))

  -- around a vertex there is one State of an owner
  pub one_beside : (y s r : VertexId) → owner_of m (State s) ≡ owner_of m (State r) → LiesInState m y s → LiesInState m y r → s ≡ r
  one_beside y s r same first second =
      ⊎_elim
      (λ h. ⊎_elim
      (λ e. one_state m first.0 second.0 s r e first.1 second.1)
      (λ under. absurd (not_beneath s r first.0 second.0 same first.1 second.1 under))
      h)
      (λ h. ⊎_elim
      (λ e. one_state m first.0 second.0 s r (sym e) first.1 second.1)
      (λ under. absurd (not_beneath r s second.0 first.0 (sym same) second.1 first.1 under))
      h)
      (on_one_chain m (State y) first.0 second.0 first.2 second.2)

module _ {m : DraftMachine} (shape : HasShape m) (rules : KeepsModelRules m) (p : Route) (states : IsStateRoute m p) where
  step : IsStepRoute m p
  step = inl states

  -- Two starts enter one join, if one of them enters one.
  joined : (t u : TransId) (j : VertexId) → Contains p.starts t → Contains p.starts u → Enters m t j → HasKind m j kinds.Join → Enters m u j
  joined t u j first second e k =
      ⊎_elim
      (λ same. subst (λ x. Enters m x j) same e)
      (λ join. subst (Enters m u) (enters_one m t join.0 j join.2 e) join.3)
      (same_or_join shape rules p states.0 t u first second)

  -- each start tells the anchor
  pub anchor_is : (t : TransId) (s r : VertexId) → Contains p.starts t → IsAnchorBy m t s → IsAnchorOf m p r → r ≡ s
  anchor_is t s r start by anchor =
      ⊎_elim
      (λ single.
      let same : t ≡ single.0 = is_one single.0 t (subst (λ ts. Contains ts t) single.1.starts start) in
      ⊎_elim
      (λ lone. leaves_one m t r s (subst (λ x. Leaves m x r) (sym same) single.1.leaves) lone.0)
      (λ join. absurd (single.2 join.0 (subst (λ x. Enters m x join.0) same join.1) join.2))
      by)
      (λ group.
      let into = joined group.1 t group.0 group.2 start group.3 group.4 in
      ⊎_elim
      (λ lone. absurd (lone.1 group.0 into group.4))
      (λ join.
      let here : group.0 ≡ join.0 = enters_one m t group.0 join.0 into join.1 in
      let y = source_of shape rules p step t (of_start m p t start) in
      let owners : owner_of m (State r) ≡ owner_of m (State s) =
      group.6 ∙ subst (λ x. owner_of m (State group.0) ≡ owner_of m (State x)) here refl ∙ sym join.4 in
      one_beside shape y.0 r s owners (group.7 y.0 (t, start, y.1)) (join.5 y.0 y.1))
      by)
      anchor

  pub anchor_made : (t : TransId) (s : VertexId) → Contains p.starts t → IsAnchorBy m t s → IsAnchorOf m p s
  anchor_made t s start by =
      let some = some_anchor shape rules p states in subst (IsAnchorOf m p) (anchor_is t s some.0 start by some.1) some.1

  -- an anchor of the route is told by each start
  pub anchor_by : (t : TransId) (s : VertexId) → Contains p.starts t → IsAnchorOf m p s → IsAnchorBy m t s
  anchor_by t s start anchor =
      ⊎_elim
      (λ single.
      let same : t ≡ single.0 = is_one single.0 t (subst (λ ts. Contains ts t) single.1.starts start) in
      inl (subst (λ x. Leaves m x s) (sym same) single.1.leaves, λ v e k. single.2 v (subst (λ x. Enters m x v) same e) k))
      (λ group. inr (
        group.0,
        joined group.1 t group.0 group.2 start group.3 group.4,
        group.4,
        group.5,
        group.6,
        λ q leaves. group.7 q (t, start, leaves),
      ))
      anchor
