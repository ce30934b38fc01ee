-- Looking a number up in an ascending list: where it can stand.
use Rattle.std.proofs.Common.{◌≡◌, ◌≢◌, ◌<◌, ◌≤◌, ◌+◌, ℕ, List, length, get_or, slice_get, Some, Contains, AllPairs, subst, ⊎_elim, arith}
use Rattle.std.proofs.lemmas.Bool.{cases_lt}
use Rattle.std.proofs.lemmas.Option.{slice_get_within, get_or_from_slice_get}
use Rattle.pssm_model.specs.declared.ids.TransId.{TransId}
use Rattle.pssm_legs.proofs.Places.{contains_at, same_at}

module _ (ts : List TransId) (t : TransId) where
  -- where it stands, it stands from the one place up to before the other
  pub record IsSought (from to : ℕ) : Type 0 where
    pub within : to ≤ length ts
    pub kept : (i : ℕ) → slice_get ts i ≡ Some t → (from ≤ i) × (i < to)

  pub sought_all : (n : ℕ) → n ≡ length ts → IsSought 0 n
  sought_all n e = record {
    within = omega (arith, e);
    kept = λ i at. (omega arith, let lt = slice_get_within ts i t at in omega (arith, lt, e));
  }

  pub ordered : AllPairs (λ (x y : TransId). x.0 < y.0) ts → (i j : ℕ) (x y : TransId) → i < j → slice_get ts i ≡ Some x → slice_get ts j ≡ Some y → x.0 < y.0
  ordered ascending i j x y lt e f =
      subst (λ (a : TransId). a.0 < y.0) (get_or_from_slice_get ts i x x e)
      (subst (λ (b : TransId). (get_or ts i x).0 < b.0) (get_or_from_slice_get ts j y x f) (ascending i j x lt (slice_get_within ts j y f)))

  module _ (ascending : AllPairs (λ (x y : TransId). x.0 < y.0) ts) (from to middle : ℕ) (here : TransId) (h : IsSought from to)
      (at : slice_get ts middle ≡ Some here) (apart : here ≢ t) where
    pub sought_above : here.0 < t.0 → IsSought (middle + 1) to
    sought_above less = record {
      within = h.within;
      kept = λ i e. (
        ⊎_elim
            (λ below. absurd (let more = ordered ascending i middle t here below e at in let wrong : ⊥ = omega (arith, less, more) in wrong))
            (λ upto. ⊎_elim
            (λ above. omega (arith, above))
            (λ least.
            let place : i ≡ middle = omega (arith, upto, least) in
            absurd (apart (same_at ts middle here t at (subst (λ k. slice_get ts k ≡ Some t) place e))))
            (cases_lt middle i))
            (cases_lt i middle),
        (h.kept i e).1,
      );
    }

    pub sought_below : t.0 ≤ here.0 → IsSought from middle
    sought_below upto_here = record {
      within = let inside = slice_get_within ts middle here at in omega (arith, inside);
      kept = λ i e. (
        (h.kept i e).0,
        ⊎_elim
            (λ below. below)
            (λ upto. ⊎_elim
            (λ above. absurd (let more = ordered ascending middle i here t above at e in let wrong : ⊥ = omega (arith, upto_here, more) in wrong))
            (λ least.
            let place : i ≡ middle = omega (arith, upto, least) in
            absurd (apart (same_at ts middle here t at (subst (λ k. slice_get ts k ≡ Some t) place e))))
            (cases_lt middle i))
            (cases_lt i middle),
      );
    }

  pub sought_nowhere : (from to : ℕ) → IsSought from to → to ≤ from → Contains ts t → ⊥
  sought_nowhere from to h upto inside =
      let at = contains_at ts t inside in
      let k = h.kept at.0 at.1 in
      omega (arith, upto, k)
