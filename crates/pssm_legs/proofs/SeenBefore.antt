-- Whether a transition has been seen in a list so far, and no other after it.
use Rattle.std.proofs.Common.{◌≡◌, ◌⊎◌, ◌<◌, ◌≤◌, ◌+◌, ◌↔◌, ℕ, Bool, false, IsTrue, List, length, slice_get, Some, subst, inl, inr, ⊎_elim, arith}
use Rattle.std.proofs.lemmas.Bool.{cases_lt}
use Rattle.std.proofs.lemmas.Option.{slice_get_within}
use Rattle.pssm_model.specs.declared.ids.TransId.{TransId}
use Rattle.pssm_legs.specs.LegsOf.{StandsBefore}

module _ (path : List TransId) (t u : TransId) where
  -- among the first few
  pub record HasSeen (seen : Bool) (count : ℕ) : Type 0 where
    pub seen_is : IsTrue seen → (i : ℕ) × (i < count) × (slice_get path i ≡ Some t)
    pub seen_of : (i : ℕ) → i < count → slice_get path i ≡ Some t → IsTrue seen
    pub none_after : (i j : ℕ) → i < j → j < count → slice_get path i ≡ Some t → slice_get path j ≡ Some u → ⊥

  pub none_seen : HasSeen false 0
  none_seen = record {
    seen_is = λ h. absurd (cc);
    seen_of = λ i lt e. absurd (omega (arith, lt));
    none_after = λ i j before lt e f. omega (arith, lt);
  }

  pub second_found : (seen : Bool) (count : ℕ) (w : TransId) → HasSeen seen count → slice_get path count ≡ Some w → IsTrue seen × (w ≡ u)
      → StandsBefore path t u
  second_found seen count w h at is =
      let first = h.seen_is is.0 in
      (first.0, count, first.1, first.2, subst (λ x. slice_get path count ≡ Some x) is.1 at)

  element_is : (count : ℕ) (w x : TransId) → slice_get path count ≡ Some w → slice_get path count ≡ Some x → w ≡ x
  element_is count w x e f = cc

  module _ (seen now_seen : Bool) (count : ℕ) (w : TransId) (h : HasSeen seen count) (at : slice_get path count ≡ Some w)
      (kept : IsTrue now_seen ↔ (IsTrue seen ⊎ (w ≡ t))) where
    more_is : IsTrue now_seen → (i : ℕ) × (i < count + 1) × (slice_get path i ≡ Some t)
    more_is is =
        ⊎_elim
        (λ was. let first = h.seen_is was in (first.0, omega (arith, first.1), first.2))
        (λ same. (count, omega arith, subst (λ x. slice_get path count ≡ Some x) same at))
        (kept.0 is)

    more_of : (i : ℕ) → i < count + 1 → slice_get path i ≡ Some t → IsTrue now_seen
    more_of i lt e =
        ⊎_elim
        (λ below. kept.1 (inl (h.seen_of i below e)))
        (λ past.
        let last : i ≡ count = omega (arith, lt, past) in
        kept.1 (inr (element_is count w t at (subst (λ k. slice_get path k ≡ Some t) last e))))
        (cases_lt i count)

    more_none : (IsTrue seen × (w ≡ u) → ⊥) → (i j : ℕ) → i < j → j < count + 1 → slice_get path i ≡ Some t → slice_get path j ≡ Some u → ⊥
    more_none fails i j before lt e f =
        ⊎_elim
        (λ below. h.none_after i j before below e f)
        (λ past.
        let last : j ≡ count = omega (arith, lt, past) in
        let inside : i < count = omega (arith, before, last) in
        fails (h.seen_of i inside e, element_is count w u at (subst (λ k. slice_get path k ≡ Some u) last f)))
        (cases_lt j count)

    pub one_more_seen : (IsTrue seen × (w ≡ u) → ⊥) → HasSeen now_seen (count + 1)
    one_more_seen fails = record { seen_is = more_is; seen_of = more_of; none_after = more_none fails }

  pub none_stands : (seen : Bool) (count : ℕ) → length path ≤ count → HasSeen seen count → StandsBefore path t u → ⊥
  none_stands seen count all h found =
      let inside = slice_get_within path found.1 u found.4 in
      h.none_after found.0 found.1 found.2 (omega (arith, inside, all)) found.3 found.4
