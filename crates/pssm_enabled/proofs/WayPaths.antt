-- What a way over junctions and exit points passes: where its transitions begin and end, and that it passes no vertex twice.
use Rattle.std.proofs.Common.{◌≡◌, ◌⊎◌, List, [], ◌∷◌, ◌++◌, Option, Some, Contains, sym, subst, ◌∙◌, inl, inr, ⊎_elim}
use Rattle.std.proofs.lemmas.List.Elements.{Contains-push, Contains-push_cases, Contains-append_left, Contains-append_right}
use Rattle.pssm_model.specs.declared.ids.VertexId.{VertexId}
use Rattle.pssm_model.specs.declared.ids.RegionId.{RegionId}
use Rattle.pssm_model.specs.declared.ids.TransId.{TransId}
use Rattle.pssm_model.specs.declared.elements.DraftMachine.{DraftMachine}
use Rattle.pssm_model.specs.declared.elements.Transition.{Transition}
use Rattle.pssm_model.specs.declared.elements.Guard.{Guard}
use Rattle.pssm_model.specs.declared.elements.Guard.TheVariants.{Always, Otherwise, When}
use Rattle.pssm_model.specs.Forest.{transition_at}
use Rattle.pssm_model.specs.Legs.{Leaves, Enters}
use Rattle.pssm_model.specs.Paths.{LeadsOn}
use Rattle.pssm_model.specs.Paths.LeadsOn.{after}
use Rattle.pssm_model.specs.Routes.{Truth, IsTrueAt, guard_of}
use Rattle.pssm_enabled.specs.Fitting.{IsThrough}
use Rattle.pssm_model.proofs.ElementLaws.{mapped_some, leaves_one, enters_one, nothing_in_nil}
use Rattle.pssm_model.proofs.RouteLaws.{in_one, is_one}
use Rattle.pssm_model_laws.proofs.Through.{step_leads}
use Rattle.pssm_enabled.specs.Ways.{IsPassedOver, IsOpen, IsWay}
use Rattle.pssm_enabled.specs.Ways.IsWay.{begins, goes_on}
use Rattle.pssm_enabled.proofs.Members.{front_or_rest}
use Rattle.pssm_enabled.proofs.LeadingOn.{passed_through}

-- a transition that is true is there
true_has_guard : (m : DraftMachine) (truth : Truth) (t : TransId) → IsTrueAt m truth t → (g : Guard) × (guard_of m t ≡ Some g)
true_has_guard m truth t h =
    ⊎_elim (λ value. ⊎_elim (λ always. (Always, always)) (λ asked. (When asked.0, asked.1)) value) (λ other. (Otherwise, other.0)) h

pub true_is_there : (m : DraftMachine) (truth : Truth) (t : TransId) → IsTrueAt m truth t → (x : Transition) × (transition_at m t ≡ Some x)
true_is_there m truth t h =
    let guard = true_has_guard m truth t h in
    let at = mapped_some (λ (x : Transition). x.guard) (transition_at m t) guard.0 guard.1 in
    (at.0, at.1)

-- Where a way goes on from the end of a transition: over a vertex that it passes.
pub record GoesOver (m : DraftMachine) (passed : List VertexId) (path : List TransId) (v : VertexId) : Type 0 where
  pub next : TransId
  pub among : Contains path next
  pub leaves : Leaves m next v
  pub inside : Contains passed v
  pub over : IsPassedOver m v

over_later : {m : DraftMachine} {v : VertexId} (q : VertexId) (u : TransId) {passed : List VertexId} {path : List TransId} → GoesOver m passed path v
    → GoesOver m (q ∷ passed) (path ++ u ∷ []) v
over_later {v = v} q u {passed = passed} {path = path} h = record {
  next = h.next;
  among = Contains-append_left path (u ∷ []) h.next h.among;
  leaves = h.leaves;
  inside = Contains-append_right (q ∷ []) passed v h.inside;
  over = h.over;
}

module _ {m : DraftMachine} {truth : Truth} {within : Option RegionId} {start : TransId} where
  -- where a way begins and ends, and that it is open
  pub way_has_start : {t : TransId} {passed : List VertexId} {path : List TransId} → IsWay m truth within start t passed path → Contains path start
  way_has_start (begins opened) = in_one start
  way_has_start (goes_on {u = u} {path = path} before enters kind new leaves opened) = Contains-append_left path (u ∷ []) start (way_has_start before)

  pub way_has_last : {t : TransId} {passed : List VertexId} {path : List TransId} → IsWay m truth within start t passed path → Contains path t
  way_has_last (begins opened) = in_one start
  way_has_last (goes_on {u = u} {path = path} before enters kind new leaves opened) = Contains-push path u

  pub way_is_open : {t : TransId} {passed : List VertexId} {path : List TransId} → IsWay m truth within start t passed path
      → (w : TransId) → Contains path w → IsOpen m truth within w
  way_is_open (begins opened) w inside = subst (IsOpen m truth within) (sym (is_one start w inside)) opened
  way_is_open (goes_on {u = u} {path = path} before enters kind new leaves opened) w inside =
      ⊎_elim (way_is_open before w) (λ same. subst (IsOpen m truth within) same opened) (Contains-push_cases path u w inside)

  -- each transition but the start leaves a vertex that the way has passed
  pub way_leaves : {t : TransId} {passed : List VertexId} {path : List TransId} → IsWay m truth within start t passed path
      → (w : TransId) → Contains path w → (w ≡ start) ⊎ ((v : VertexId) × Contains passed v × IsPassedOver m v × Leaves m w v)
  way_leaves (begins opened) w inside = inl (is_one start w inside)
  way_leaves (goes_on {u = u} {v = v} {passed = passed} {path = path} before enters kind new leaves opened) w inside =
      ⊎_elim
      (λ earlier. ⊎_elim
      (λ is. inl is)
      (λ left. inr (left.0, Contains-append_right (v ∷ []) passed left.0 left.1, left.2, left.3))
      (way_leaves before w earlier))
      (λ same. inr (v, Contains-append_left (v ∷ []) passed v (in_one v), kind, subst (λ x. Leaves m x v) same leaves))
      (Contains-push_cases path u w inside)

  -- from the end of each transition but the last the way goes on
  pub way_goes_on : {t : TransId} {passed : List VertexId} {path : List TransId} → IsWay m truth within start t passed path
      → (w : TransId) (v : VertexId) → Contains path w → Enters m w v → (w ≡ t) ⊎ GoesOver m passed path v
  way_goes_on (begins opened) w v inside enters = inl (is_one start w inside)
  way_goes_on (goes_on {t = t} {u = u} {v = q} {passed = passed} {path = path} before end kind new leaves opened) w v inside enters =
      ⊎_elim
      (λ earlier. ⊎_elim
      (λ is. (
      let same : q ≡ v = enters_one m t q v end (subst (λ x. Enters m x v) is enters) in
      inr (record {
        next = u;
        among = Contains-push path u;
        leaves = subst (Leaves m u) same leaves;
        inside = subst (Contains (q ∷ passed)) same (Contains-append_left (q ∷ []) passed q (in_one q));
        over = subst (IsPassedOver m) same kind;
      })
      ))
      (λ left. inr (over_later q u left))
      (way_goes_on before w v earlier enters))
      (λ same. inl (sym same))
      (Contains-push_cases path u w inside)

  -- each vertex that the way has passed is one on which a transition of it ends
  pub way_entered : {t : TransId} {passed : List VertexId} {path : List TransId} → IsWay m truth within start t passed path
      → (v : VertexId) → Contains passed v → (y : TransId) × Contains path y × Enters m y v
  way_entered (begins opened) v inside = absurd (nothing_in_nil v inside)
  way_entered (goes_on {t = t} {u = u} {v = q} {passed = passed} {path = path} before enters kind new leaves opened) v inside =
      ⊎_elim
      (λ same. (t, Contains-append_left path (u ∷ []) t (way_has_last before), subst (Enters m t) same enters))
      (λ earlier.
      let by = way_entered before v earlier in
      (by.0, Contains-append_left path (u ∷ []) by.0 by.1, by.2))
      (front_or_rest q v passed inside)

  -- and leads on to its end
  pub way_led : {t : TransId} {passed : List VertexId} {path : List TransId} → IsWay m truth within start t passed path
      → (v x : VertexId) → Contains passed v → Enters m t x → IsThrough m x → LeadsOn m v x
  way_led (begins opened) v x inside e through = absurd (nothing_in_nil v inside)
  way_led (goes_on {t = t} {u = u} {v = q} {passed = passed} before enters kind new leaves opened) v x inside e through =
      let step : LeadsOn m q x = step_leads m q x u (passed_through m q kind) through leaves e in
      ⊎_elim
      (λ same. subst (λ y. LeadsOn m y x) same step)
      (λ earlier. after (way_led before v q earlier enters (passed_through m q kind)) step)
      (front_or_rest q v passed inside)

  -- where the start leaves no vertex over which ways pass, no two of the transitions leave the same one
  module _ (no : (v : VertexId) → Leaves m start v → IsPassedOver m v → ⊥) where
    way_differs : {t : TransId} {passed : List VertexId} {path : List TransId} → IsWay m truth within start t passed path
        → (w : TransId) (v : VertexId) → Contains path w → Leaves m w v → IsPassedOver m v → Contains passed v
    way_differs {passed = passed} way w v inside leaves kind =
        ⊎_elim
        (λ is. absurd (no v (subst (λ x. Leaves m x v) is leaves) kind))
        (λ left. subst (Contains passed) (leaves_one m w left.0 v left.3 leaves) left.1)
        (way_leaves way w inside)

    pub way_leaves_once : {t : TransId} {passed : List VertexId} {path : List TransId} → IsWay m truth within start t passed path
        → (w x : TransId) (v : VertexId) → Contains path w → Contains path x → Leaves m w v → Leaves m x v → IsPassedOver m v → w ≡ x
    way_leaves_once (begins opened) w x v first second left right kind = is_one start w first ∙ sym (is_one start x second)
    way_leaves_once (goes_on {u = u} {v = q} {passed = passed} {path = path} before enters at new leaves opened) w x v first second left right kind =
        let clash = λ (y : TransId) (earlier : Contains path y) (out : Leaves m y v) (last : Leaves m u v).
        new (subst (Contains passed) (leaves_one m u v q last leaves) (way_differs before y v earlier out kind)) in
        ⊎_elim
        (λ a. ⊎_elim
        (λ c. way_leaves_once before w x v a c left right kind)
        (λ same. absurd (clash w a left (subst (λ y. Leaves m y v) (sym same) right)))
        (Contains-push_cases path u x second))
        (λ same. ⊎_elim
        (λ c. absurd (clash x c right (subst (λ y. Leaves m y v) (sym same) left)))
        (λ again. sym same ∙ again)
        (Contains-push_cases path u x second))
        (Contains-push_cases path u w first)
