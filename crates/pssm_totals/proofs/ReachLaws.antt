-- Reaching machines along those that they extend.
use Rattle.std.proofs.Common.{◌≡◌, ◌⊎◌, ◌<◌, ℕ, List, length, Option, Some, None, IfSome, refl, sym, ap, subst, ◌∙◌, inl, inr, ⊎_elim, slice_get, option_and_then, get_or}
use Rattle.std.proofs.lemmas.Option.{slice_get_within, slice_get-get_or}
use Rattle.pssm_totals.specs.Totals.{extended, ExtendWithin, Reaches}
use Rattle.pssm_totals.specs.Totals.Reaches.{itself, further}

-- a machine that extends another is one that there is
pub extends_below : (extends : List (Option ℕ)) (m base : ℕ) → extended extends m ≡ Some base → m < length extends
extends_below extends m base e = split (slice_get extends m) refl e
  where
    split : (o : Option (Option ℕ)) → slice_get extends m ≡ o → option_and_then (λ (b : Option ℕ). b) o ≡ Some base → m < length extends
    split None is f = absurd (cc)
    split (Some b) is f = slice_get_within extends m b is

-- and so is the one that it extends
pub base_below : (extends : List (Option ℕ)) (m base : ℕ) → ExtendWithin extends → extended extends m ≡ Some base → base < length extends
base_below extends m base within e =
    let lt = extends_below extends m base e in
    let here : extended extends m ≡ get_or extends m None = ap (λ o. option_and_then (λ (b : Option ℕ). b) o) (slice_get-get_or extends m None lt) in
    subst (λ o. IfSome o (λ k. k < length extends)) (sym here ∙ e) (within m None lt)

module _ {extends : List (Option ℕ)} where
  pub reach_reach : {m n k : ℕ} → Reaches extends m n → Reaches extends n k → Reaches extends m k
  reach_reach h itself = h
  reach_reach h (further o more e) = further o (reach_reach h more) e

  pub one_step : {m n : ℕ} → extended extends m ≡ Some n → Reaches extends m n
  one_step {m = m} e = further m itself e

  -- the first step, if there is one
  pub head : {m n : ℕ} → Reaches extends m n → (n ≡ m) ⊎ ((y : ℕ) × (extended extends m ≡ Some y) × Reaches extends y n)
  head itself = inl refl
  head {m = m} {n = n} (further o more e) =
      ⊎_elim
      (λ same. inr (n, subst (λ k. extended extends k ≡ Some n) same e, itself))
      (λ h. inr (h.0, h.1, further o h.2 e))
      (head more)

  -- what is reached from a machine that there is, is there
  pub reached_below : {m n : ℕ} → ExtendWithin extends → m < length extends → Reaches extends m n → n < length extends
  reached_below within lt itself = lt
  reached_below {n = n} within lt (further o more e) = base_below extends o n within e
