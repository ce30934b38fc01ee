-- The innermost region in which the source of a route and all its targets lie, one target after another.
use Rattle.std.proofs.Common.{◌≡◌, ◌⊎◌, ◌<◌, ◌≤◌, ◌+◌, ℕ, zero, suc, List, [], ◌∷◌, length, get_or, Contains, refl, sym, subst, ◌∙◌, inl, inr, ⊎_elim, arith}
use Rattle.std.proofs.lemmas.Bool.{cases_lt}
use Rattle.std.proofs.lemmas.List.{get_or_default}
use Rattle.pssm_model.specs.declared.ids.VertexId.{VertexId}
use Rattle.pssm_model.specs.declared.ids.RegionId.{RegionId}
use Rattle.pssm_model.specs.declared.ids.TransId.{TransId}
use Rattle.pssm_model.specs.declared.elements.DraftMachine.{DraftMachine}
use Rattle.pssm_model.specs.declared.elements.Owner.TheVariants.{State}
use Rattle.pssm_model.specs.Forest.{LiesInRegion, IsWithin, IsScope}
use Rattle.pssm_model.specs.Legs.{Leaves, Enters}
use Rattle.pssm_model.proofs.ElementLaws.{leaves_one, enters_one}
use Rattle.pssm_model.proofs.Nesting.{lies_within}
use Rattle.pssm_model_laws.proofs.RegionChains.{on_one_chain}

-- the innermost region of the same vertices is the same
pub scope_same : (m : DraftMachine) (P Q : VertexId → Type 0) (r : RegionId) → ((v : VertexId) → Q v → P v) → ((v : VertexId) → P v → Q v)
    → IsScope m P r → IsScope m Q r
scope_same m P Q r back there h = record {
  common = λ v is. h.common v (back v is);
  innermost = λ q all. h.innermost q (λ v is. all v (there v is));
}

-- one of two vertices
abbrev pub IsOneOf : VertexId → VertexId → VertexId → Type 0
IsOneOf s w v = (v ≡ s) ⊎ (v ≡ w)

-- what is in a list of two
pub one_of_two : (s w v : VertexId) → Contains (s ∷ w ∷ []) v → IsOneOf s w v
one_of_two s w v h = at h.0 h.1 h.2
  where
    at : (k : ℕ) → k < length (s ∷ w ∷ []) → get_or (s ∷ w ∷ []) k v ≡ v → IsOneOf s w v
    at zero lt e = inl (sym e)
    at (suc zero) lt e = inr (sym e)
    at (suc (suc k)) lt e = absurd (omega (arith, lt))

-- the second are the first and one more
pub record HasOneMore (P Q : VertexId → Type 0) (w : VertexId) : Type 0 where
  pub kept : (v : VertexId) → P v → Q v
  pub more : Q w
  pub only : (v : VertexId) → Q v → P v ⊎ (v ≡ w)

module _ (m : DraftMachine) (P Q : VertexId → Type 0) (s w : VertexId) (more : HasOneMore P Q w) where
  -- where one more lies in the region, it stays the innermost
  pub scope_stays : (c : RegionId) → IsScope m P c → LiesInRegion m w c → IsScope m Q c
  scope_stays c h lies = record {
    common = λ v is. ⊎_elim (λ was. h.common v was) (λ same. subst (λ x. LiesInRegion m x c) (sym same) lies) (more.only v is);
    innermost = λ q all. h.innermost q (λ v is. all v (more.kept v is));
  }

  within_of_pair : (c r : RegionId) → P s → IsScope m P c → (LiesInRegion m w c → ⊥) → IsScope m (IsOneOf s w) r → IsWithin m c r
  within_of_pair c r is h out both =
      ⊎_elim
      (λ within. within)
      (λ within. absurd (out (lies_within m w r c (both.common w (inr refl)) within)))
      (on_one_chain m (State s) c r (h.common s is) (both.common s (inl refl)))

  -- and else it is that of one of them and the further one
  pub scope_grows : (c r : RegionId) → P s → IsScope m P c → (LiesInRegion m w c → ⊥) → IsScope m (IsOneOf s w) r → IsScope m Q r
  scope_grows c r is h out both = record {
    common = λ v there. ⊎_elim
        (λ was. lies_within m v c r (h.common v was) (within_of_pair c r is h out both))
        (λ same. subst (λ x. LiesInRegion m x r) (sym same) (both.common w (inr refl)))
        (more.only v there);
    innermost = λ q all. both.innermost q (λ v one. ⊎_elim
        (λ same. subst (λ x. LiesInRegion m x q) (sym same) (all s (more.kept s is)))
        (λ same. subst (λ x. LiesInRegion m x q) (sym same) (all w more.more))
        one);
  }

-- the ends of the start, and the targets of the first few transitions of the rest
abbrev pub IsMet : DraftMachine → TransId → List TransId → ℕ → VertexId → Type 0
IsMet m t rest count v =
    (Leaves m t v ⊎ Enters m t v) ⊎ ((i : ℕ) × (u : TransId) × (i < count) × (u ≡ get_or rest i u) × Enters m u v)

module _ (m : DraftMachine) (t : TransId) (rest : List TransId) where
  pub none_met : (s w : VertexId) → Leaves m t s → Enters m t w → (r : RegionId) → IsScope m (IsOneOf s w) r → IsScope m (IsMet m t rest 0) r
  none_met s w l e r h =
      scope_same m (IsOneOf s w) (IsMet m t rest 0) r
      (λ v met. ⊎_elim
      (λ ends. ⊎_elim (λ leaves. inl (leaves_one m t v s leaves l)) (λ enters. inr (enters_one m t v w enters e)) ends)
      (λ few. absurd (omega (arith, few.2)))
      met)
      (λ v one. ⊎_elim
      (λ same. inl (inl (subst (Leaves m t) (sym same) l)))
      (λ same. inl (inr (subst (Enters m t) (sym same) e)))
      one)
      h

  only_met : (count : ℕ) (u : TransId) (w v : VertexId) (i : ℕ) (x : TransId) → count < length rest → u ≡ get_or rest count u → Enters m u w
      → i < count + 1 → x ≡ get_or rest i x → Enters m x v → (i < count) ⊎ (count ≤ i) → IsMet m t rest count v ⊎ (v ≡ w)
  only_met count u w v i x inside here e lt is enters (inl below) = inl (inr (i, x, below, is, enters))
  only_met count u w v i x inside here e lt is enters (inr past) =
      let last : i ≡ count = omega (arith, lt, past) in
      let at : x ≡ get_or rest count x = subst (λ k. x ≡ get_or rest k x) last is in
      let same : x ≡ u = at ∙ get_or_default rest count x u inside ∙ sym here in
      inr (enters_one m u v w (subst (λ y. Enters m y v) same enters) e)

  pub one_more_met : (count : ℕ) (u : TransId) (w : VertexId) → count < length rest → u ≡ get_or rest count u → Enters m u w
      → HasOneMore (IsMet m t rest count) (IsMet m t rest (count + 1)) w
  one_more_met count u w inside here e = record {
    kept = λ v met. ⊎_elim (λ ends. inl ends) (λ few. inr (few.0, few.1, omega (arith, few.2), few.3, few.4)) met;
    more = inr (count, u, omega arith, here, e);
    only = λ v met. ⊎_elim
        (λ ends. inl (inl ends))
        (λ few. only_met count u w v few.0 few.1 inside here e few.2 few.3 few.4 (cases_lt few.0 count))
        met;
  }
