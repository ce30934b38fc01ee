-- Calls that forget what they have seen of the others.
use Rattle.std.proofs.Common.{◌≡◌, ◌≢◌, ◌+◌, ◌<◌, ◌≤◌, ℕ, List, false, length, get_or, set, arith, refl, sym, subst, ⊎_elim, ◌∙◌}
use Rattle.std.proofs.lemmas.Bool.{false≢true}
use Rattle.std.proofs.lemmas.List.{get_or-set_same, get_or-set_other, length-set, get_or_default}
use Rattle.pssm_plan.specs.declared.roster.Call.{Call}
use Rattle.pssm_plan.specs.inner.Marks.{IsForgotten, AreForgotten}
use Rattle.pssm_plan.proofs.Growing.{lower_or_same}

-- the call at the place, which has not looked at the others yet
abbrev pub forgotten_call : Call → ℕ → Call
forgotten_call call place = record { item = call.item; ran = call.ran; blocked = false; seen = place }

pub forgotten : (call : Call) (place : ℕ) → IsForgotten place call (forgotten_call call place)
forgotten call place = record { item_is = refl; ran = refl; fresh = (refl, λ t. false≢true t) }

-- the calls below a number have forgotten, and the others are as they were
pub record AreForgottenUpTo (old now : List Call) (i : ℕ) : Type 0 where
  pub same_length : length now ≡ length old
  pub done : (k : ℕ) (d : Call) → k < i → IsForgotten k (get_or old k d) (get_or now k d)
  pub rest : (k : ℕ) (d : Call) → i ≤ k → get_or now k d ≡ get_or old k d

pub forgotten_none : (old : List Call) → AreForgottenUpTo old old 0
forgotten_none old = record { same_length = refl; done = λ k d lt. absurd (omega (arith, lt)); rest = λ k d le. refl }

-- one call more has forgotten
module _ (old now : List Call) (i : ℕ) (e : Call) (h : AreForgottenUpTo old now i) (lt : i < length now) where
  here : (k : ℕ) (d : Call) → k ≡ i → IsForgotten k (get_or old k d) (get_or (set now i (forgotten_call (get_or now i e) i)) k d)
  here k d same =
      let c = forgotten_call (get_or now i e) i in
      let first : get_or now i e ≡ get_or old i d = get_or_default now i e d lt ∙ h.rest i d (omega arith) in
      let second : get_or (set now i c) i d ≡ c = get_or-set_same now i c d lt in
      subst (λ (n : ℕ). IsForgotten n (get_or old n d) (get_or (set now i c) n d)) (sym same)
      (subst (λ (b : Call). IsForgotten i (get_or old i d) b) (sym second) (subst (λ (a : Call). IsForgotten i a c) first (forgotten (get_or now i e) i)))

  pub forgotten_more : AreForgottenUpTo old (set now i (forgotten_call (get_or now i e) i)) (i + 1)
  forgotten_more = record {
    same_length = length-set now i (forgotten_call (get_or now i e) i) ∙ h.same_length;
    done = λ k d less. ⊎_elim
        (λ below. let other : k ≢ i = omega (arith, below) in
        subst (λ (b : Call). IsForgotten k (get_or old k d) b) (sym (get_or-set_other now i k (forgotten_call (get_or now i e) i) d other)) (h.done k d below))
        (λ same. here k d same)
        (lower_or_same k i less);
    rest = λ k d le. let other : k ≢ i = omega (arith, le) in
        get_or-set_other now i k (forgotten_call (get_or now i e) i) d other ∙ h.rest k d (omega (arith, le));
  }

pub forgotten_all : (old now : List Call) (i : ℕ) → AreForgottenUpTo old now i → length old ≤ i → AreForgotten old now
forgotten_all old now i h le = (h.same_length, λ k d lt. h.done k d (omega (arith, le, lt)))
