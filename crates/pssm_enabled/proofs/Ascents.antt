-- Transitions in ascending number, one after another.
use Rattle.std.proofs.Common.{◌<◌, ◌≤◌, ◌+◌, ◌↔◌, ℕ, zero, suc, List, [], ◌∷◌, length, get_or, drop, All, sym, subst, arith}
use Rattle.std.proofs.lemmas.List.{drop_more, drop_all}
use Rattle.pssm_model.specs.declared.ids.TransId.{TransId}
use Rattle.pssm_model.specs.Routes.{IsAscending}

-- They ascend from the least number on, and all are below the count.
abbrev pub AscendsFrom : ℕ → ℕ → List TransId → Type 0
AscendsFrom count least [] = Unit {0}
AscendsFrom count least (t ∷ ts) = (least ≤ t.0) × (t.0 < count) × AscendsFrom count (t.0 + 1) ts

module _ (count : ℕ) where
  pub ascends_least : (least : ℕ) (ts : List TransId) → AscendsFrom count least ts → (k : ℕ) (d : TransId) → k < length ts → least ≤ (get_or ts k d).0
  ascends_least least [] h k d lt = absurd (omega arith)
  ascends_least least (t ∷ ts) h zero d lt = h.0
  ascends_least least (t ∷ ts) h (suc k) d lt =
      let further = ascends_least (t.0 + 1) ts h.2 k d (omega arith) in
      let first = h.0 in omega (arith, further, first)

  pub ascends_range : (least : ℕ) (ts : List TransId) → AscendsFrom count least ts → All (λ t. t.0 < count) ts
  ascends_range least [] h k d lt = absurd (omega arith)
  ascends_range least (t ∷ ts) h zero d lt = h.1
  ascends_range least (t ∷ ts) h (suc k) d lt = ascends_range (t.0 + 1) ts h.2 k d (omega arith)

  pub ascends_pairs : (least : ℕ) (ts : List TransId) → AscendsFrom count least ts → IsAscending ts
  ascends_pairs least [] h i j d lt inside = absurd (omega arith)
  ascends_pairs least (t ∷ ts) h zero zero d lt inside = absurd (omega arith)
  ascends_pairs least (t ∷ ts) h zero (suc j) d lt inside =
      let more = ascends_least (t.0 + 1) ts h.2 j d (omega arith) in omega (arith, more)
  ascends_pairs least (t ∷ ts) h (suc i) zero d lt inside = absurd (omega arith)
  ascends_pairs least (t ∷ ts) h (suc i) (suc j) d lt inside = ascends_pairs (t.0 + 1) ts h.2 i j d (omega arith) (omega arith)

  pub ascends_from : (least : ℕ) (ts : List TransId) → IsAscending ts → All (λ t. t.0 < count) ts
      → ((k : ℕ) (d : TransId) → k < length ts → least ≤ (get_or ts k d).0) → AscendsFrom count least ts
  ascends_from least [] pairs range more = tt
  ascends_from least (t ∷ ts) pairs range more = (
    more 0 t (omega arith),
    range 0 t (omega arith),
    ascends_from (t.0 + 1) ts
        (λ i j d lt inside. pairs (suc i) (suc j) d (omega arith) (omega arith))
        (λ k d lt. range (suc k) d (omega arith))
        (λ k d lt. (let above = pairs 0 (suc k) d (omega arith) (omega arith) in omega (arith, above))),
  )

  pub ascends_is : (ts : List TransId) → AscendsFrom count 0 ts ↔ (IsAscending ts × All (λ t. t.0 < count) ts)
  ascends_is ts = (
    λ h. (ascends_pairs 0 ts h, ascends_range 0 ts h),
    λ h. ascends_from 0 ts h.0 h.1 (λ k d lt. omega arith),
  )

  -- what is left of the list, one at a time
  pub ascends_next : (least n : ℕ) (ts : List TransId) (d : TransId) → n < length ts → AscendsFrom count least (drop n ts)
      → (least ≤ (get_or ts n d).0) × ((get_or ts n d).0 < count) × AscendsFrom count ((get_or ts n d).0 + 1) (drop (n + 1) ts)
  ascends_next least n ts d lt h = subst (AscendsFrom count least) (drop_more ts n d lt) h

  pub ascends_one_less : (least n : ℕ) (ts : List TransId) (d : TransId) → n < length ts
      → (AscendsFrom count 0 ts ↔ AscendsFrom count least (drop n ts)) → (least ≤ (get_or ts n d).0) × ((get_or ts n d).0 < count)
      → AscendsFrom count 0 ts ↔ AscendsFrom count ((get_or ts n d).0 + 1) (drop (n + 1) ts)
  ascends_one_less least n ts d lt before here = (
    λ h. (ascends_next least n ts d lt (before.0 h)).2,
    λ h. before.1 (subst (AscendsFrom count least) (sym (drop_more ts n d lt)) (here.0, here.1, h)),
  )

  pub ascends_fails : (least n : ℕ) (ts : List TransId) (d : TransId) → n < length ts
      → (AscendsFrom count 0 ts ↔ AscendsFrom count least (drop n ts)) → ((least ≤ (get_or ts n d).0) × ((get_or ts n d).0 < count) → ⊥)
      → IsAscending ts × All (λ t. t.0 < count) ts → ⊥
  ascends_fails least n ts d lt before fails h =
      let next = ascends_next least n ts d lt (before.0 ((ascends_is ts).1 h)) in fails (next.0, next.1)

  pub ascends_end : (least n : ℕ) (ts : List TransId) → length ts ≤ n
      → (AscendsFrom count 0 ts ↔ AscendsFrom count least (drop n ts)) → IsAscending ts × All (λ t. t.0 < count) ts
  ascends_end least n ts le before = (ascends_is ts).0 (before.1 (subst (AscendsFrom count least) (sym (drop_all n ts le)) tt))
