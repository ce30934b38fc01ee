-- What can be decided of the transitions of a machine, and so found among them.
use Rattle.std.proofs.Common.{◌≡◌, ◌≢◌, ◌⊎◌, ◌↔◌, ◌+◌, ◌<◌, ◌≤◌, ℕ, zero, suc, List, [], ◌∷◌, length, true, Option, Some, None, Contains, refl, sym, ap, subst, ◌∙◌, inl, inr, ⊎_elim, option_map, arith}
use Rattle.std.proofs.lemmas.Bool.{cases_Bool, cases_lt, cases_eq, true≢false}
use Rattle.pssm_model.specs.declared.ids.VertexId.{VertexId}
use Rattle.pssm_model.specs.declared.ids.TransId.{TransId}
use Rattle.pssm_model.specs.declared.ids.GuardId.{GuardId}
use Rattle.pssm_model.specs.declared.elements.DraftMachine.{DraftMachine}
use Rattle.pssm_model.specs.declared.elements.Transition.{Transition}
use Rattle.pssm_model.specs.declared.elements.Guard.{Guard}
use Rattle.pssm_model.specs.declared.elements.Guard.TheVariants.{Always, Otherwise, When}
use Rattle.pssm_model.specs.Forest.{transition_at}
use Rattle.pssm_model.specs.Legs.{Leaves}
use Rattle.pssm_model.specs.Routes.{Truth, HasTrueValue, IsTrueAt, guard_of}
use Rattle.pssm_model.proofs.ElementLaws.{same_vertex, same_transition, leaves_one, nothing_in_nil}
use Rattle.pssm_enabled.proofs.Members.{in_front, in_rest, front_or_rest, transitions_told}
use Rattle.pssm_enabled.proofs.Ascents.{AscendsFrom}
use Rattle.pssm_enabled.proofs.Leaving.{leaving_is_there}

-- It holds or it does not.
abbrev pub IsDecided : Type 0 → Type 0
IsDecided P = P ⊎ (P → ⊥)

pub both_decided : {P Q : Type 0} → IsDecided P → IsDecided Q → IsDecided (P × Q)
both_decided p q =
    ⊎_elim (λ is. ⊎_elim (λ also. inl (is, also)) (λ none. inr (λ h. none h.1)) q) (λ none. inr (λ h. none h.0)) p

pub either_decided : {P Q : Type 0} → IsDecided P → IsDecided Q → IsDecided (P ⊎ Q)
either_decided p q =
    ⊎_elim (λ is. inl (inl is)) (λ none. ⊎_elim (λ is. inl (inr is)) (λ neither. inr (λ h. ⊎_elim none neither h)) q) p

pub not_decided : {P : Type 0} → IsDecided P → IsDecided (P → ⊥)
not_decided p = ⊎_elim (λ is. inr (λ none. none is)) (λ none. inl none) p

-- of the numbers below one
pub some_below : (n : ℕ) (P : ℕ → Type 0) → ((k : ℕ) → IsDecided (P k)) → ((k : ℕ) × (k < n) × P k) ⊎ ((k : ℕ) → k < n → P k → ⊥)
some_below zero P told = inr (λ k lt. absurd (omega (arith, lt)))
some_below (suc n) P told =
    ⊎_elim
    (λ found. inl (found.0, (let lt = found.1 in omega (arith, lt)), found.2))
    (λ none. ⊎_elim
    (λ is. inl (n, omega arith, is))
    (λ not. inr (λ k lt holds. ⊎_elim
    (λ before. none k before holds)
    (λ after. (let same : k ≡ n = omega (arith, lt, after) in not (subst P same holds)))
    (cases_lt k n)))
    (told n))
    (some_below n P told)

module _ (m : DraftMachine) where
  -- of the transitions
  pub some_transition : (P : TransId → Type 0) → ((t : TransId) → IsDecided (P t)) → ((t : TransId) → P t → t.0 < length m.transitions)
      → ((t : TransId) × P t) ⊎ ((t : TransId) → P t → ⊥)
  some_transition P told there =
      ⊎_elim
      (λ found. inl (record { 0 = found.0 }, found.2))
      (λ none. inr (λ t holds. none t.0 (there t holds) holds))
      (some_below (length m.transitions) (λ k. P (record { 0 = k })) (λ k. told (record { 0 = k })))

  -- what a transition leaves
  leaves_told : (o : Option Transition) (v : VertexId) → IsDecided (option_map (λ (x : Transition). x.source) o ≡ Some v)
  leaves_told None v = inr (λ e. cc)
  leaves_told (Some x) v =
      ⊎_elim
      (λ e. inl (ap Some (same_vertex x.source v e)))
      (λ other. inr (λ e. other (let same : x.source ≡ v = cc in ap (λ (w : VertexId). w.0) same)))
      (cases_eq x.source.0 v.0)

  pub leaves_decided : (t : TransId) (v : VertexId) → IsDecided (Leaves m t v)
  leaves_decided t v = leaves_told (transition_at m t) v

  -- what its guard is
  always_told : (o : Option Guard) → IsDecided (o ≡ Some Always)
  always_told None = inr (λ e. cc)
  always_told (Some Always) = inl refl
  always_told (Some Otherwise) = inr (λ e. cc)
  always_told (Some (When g)) = inr (λ e. cc)

  else_told : (o : Option Guard) → IsDecided (o ≡ Some Otherwise)
  else_told None = inr (λ e. cc)
  else_told (Some Always) = inr (λ e. cc)
  else_told (Some Otherwise) = inl refl
  else_told (Some (When g)) = inr (λ e. cc)

  pub always_decided : (t : TransId) → IsDecided (guard_of m t ≡ Some Always)
  always_decided t = always_told (guard_of m t)

  pub else_decided : (t : TransId) → IsDecided (guard_of m t ≡ Some Otherwise)
  else_decided t = else_told (guard_of m t)

  module _ (truth : Truth) where
    when_told : (o : Option Guard) → IsDecided ((g : GuardId) × (o ≡ Some (When g)) × (truth g ≡ true))
    when_told None = inr (λ h. let e = h.1 in cc)
    when_told (Some Always) = inr (λ h. let e = h.1 in cc)
    when_told (Some Otherwise) = inr (λ h. let e = h.1 in cc)
    when_told (Some (When g)) =
        ⊎_elim
        (λ is. inl (g, refl, is))
        (λ not. inr (λ h. let e = h.1 in let same : g ≡ h.0 = cc in true≢false (sym h.2 ∙ ap truth (sym same) ∙ not)))
        (cases_Bool (truth g))

    pub value_decided : (t : TransId) → IsDecided (HasTrueValue m truth t)
    value_decided t = either_decided (always_decided t) (when_told (guard_of m t))

    -- Some transition out of the vertex has a true guard.
    abbrev HasTrueOut : VertexId → Type 0
    HasTrueOut v = (u : TransId) × Leaves m u v × HasTrueValue m truth u

    pub true_out_decided : (v : VertexId) → IsDecided (HasTrueOut v)
    true_out_decided v =
        ⊎_elim
        (λ found. inl (found.0, found.1.0, found.1.1))
        (λ none. inr (λ h. none h.0 (h.1, h.2)))
        (some_transition (λ u. Leaves m u v × HasTrueValue m truth u) (λ u. both_decided (leaves_decided u v) (value_decided u))
        (λ u h. leaving_is_there m u v h.0))

    -- whether a transition out of the vertex is true
    pub true_decided : (t : TransId) (v : VertexId) → Leaves m t v → IsDecided (IsTrueAt m truth t)
    true_decided t v leaves =
        either_decided
        (value_decided t)
        (both_decided
        (else_decided t)
        (⊎_elim
        (λ found. inr (λ none. none found.0 v found.1.0 leaves found.1.1.0 found.1.1.1))
        (λ none. inl (λ u w differs here there value. none u (differs, (subst (Leaves m u) (leaves_one m t w v here leaves) there, value))))
        (some_transition (λ u. (u ≢ t) × (Leaves m u v × HasTrueValue m truth u))
        (λ u. both_decided (not_decided (transitions_told u t)) (both_decided (leaves_decided u v) (value_decided u)))
        (λ u h. leaving_is_there m u v h.1.0))))

    pub true_from_decided : (v : VertexId) (t : TransId) → IsDecided (Leaves m t v × IsTrueAt m truth t)
    true_from_decided v t =
        ⊎_elim
        (λ leaves. ⊎_elim (λ is. inl (leaves, is)) (λ not. inr (λ h. not h.1)) (true_decided t v leaves))
        (λ other. inr (λ h. other h.0))
        (leaves_decided t v)

above : (x u : TransId) → x.0 ≤ u.0 → x ≢ u → x.0 + 1 ≤ u.0
above x u low other = let apart : x.0 ≢ u.0 = λ e. other (same_transition x u e) in omega (arith, low, apart)

-- those below the count of which something holds, in ascending number
module _ (P : TransId → Type 0) (told : (t : TransId) → IsDecided (P t)) (count : ℕ) where
  -- Exactly those from the least number on are in the list, which ascends.
  pub record AreThose (least : ℕ) (ts : List TransId) : Type 0 where
    pub ascends : AscendsFrom count least ts
    pub members : (u : TransId) → Contains ts u ↔ ((least ≤ u.0) × (u.0 < count) × P u)

  no_more : (least : ℕ) → count ≤ least → AreThose least []
  no_more least over = record {
    ascends = tt;
    members = λ u. (λ h. absurd (nothing_in_nil u h), λ h. absurd (let low = h.0 in let high = h.1 in omega (arith, over, low, high)));
  }

  with_one : (t : TransId) (ts : List TransId) → t.0 < count → P t → AreThose (t.0 + 1) ts → AreThose t.0 (t ∷ ts)
  with_one t ts below is more = record {
    ascends = (omega arith, below, more.ascends);
    members = λ u. (
      λ h. ⊎_elim
          (λ (same : t ≡ u). subst (λ (w : TransId). (t.0 ≤ w.0) × (w.0 < count) × P w) same (omega arith, below, is))
          (λ there. (let at = (more.members u).0 there in ((let low = at.0 in omega (arith, low)), at.1, at.2)))
          (front_or_rest t u ts h),
      λ h. ⊎_elim
          (λ same. subst (Contains (t ∷ ts)) same (in_front t ts))
          (λ other. in_rest t u ts ((more.members u).1 (above t u h.0 other, h.1, h.2)))
          (transitions_told t u),
    );
  }

  ascends_lower : (least : ℕ) (ts : List TransId) → AscendsFrom count (least + 1) ts → AscendsFrom count least ts
  ascends_lower least [] h = tt
  ascends_lower least (t ∷ ts) h = ((let low = h.0 in omega (arith, low)), h.1, h.2)

  without_one : (t : TransId) (ts : List TransId) → (P t → ⊥) → AreThose (t.0 + 1) ts → AreThose t.0 ts
  without_one t ts not more = record {
    ascends = ascends_lower t.0 ts more.ascends;
    members = λ u. (
      λ h. (let at = (more.members u).0 h in ((let low = at.0 in omega (arith, low)), at.1, at.2)),
      λ h. ⊎_elim
          (λ (same : t ≡ u). absurd (not (subst P (sym same) h.2)))
          (λ other. (more.members u).1 (above t u h.0 other, h.1, h.2))
          (transitions_told t u),
    );
  }

  those_from : (fuel least : ℕ) → count ≤ fuel + least → (ts : List TransId) × AreThose least ts
  those_from zero least fits = ([], no_more least (omega (arith, fits)))
  those_from (suc fuel) least fits =
      ⊎_elim
      (λ below. (
      let t : TransId = record { 0 = least } in
      let more = those_from fuel (least + 1) (omega (arith, fits)) in
      ⊎_elim (λ is. (t ∷ more.0, with_one t more.0 below is more.1)) (λ not. (more.0, without_one t more.0 not more.1)) (told t)
      ))
      (λ over. ([], no_more least over))
      (cases_lt least count)

  pub those : (ts : List TransId) × AreThose 0 ts
  those = those_from count 0 (omega arith)

-- no more of them than the count
pub ascends_length : (count least : ℕ) (ts : List TransId) → AscendsFrom count least ts → least ≤ count → length ts + least ≤ count
ascends_length count least [] h low = omega (arith, low)
ascends_length count least (t ∷ ts) h low =
    let first = h.0 in
    let more = ascends_length count (t.0 + 1) ts h.2 (let below = h.1 in omega (arith, below)) in omega (arith, first, more)
