-- The first flaw is one.
use Rattle.std.proofs.Common.{◌≡◌, ◌<◌, ℕ, List, sym, subst, inl, inr, arith}
use Rattle.std.proofs.lemmas.Bool.{cases_lt}
use Rattle.pssm_xml.specs.Documents.{Element}
use Rattle.pssm_profile.specs.declared.flaw.Flaw.{Flaw}
use Rattle.pssm_profile.specs.Flaws.{HasFlaw}
use Rattle.pssm_profile.specs.Faults.{IsFirstFlaw, place_of}

one_number : (m n : ℕ) → (m < n → ⊥) → (n < m → ⊥) → m ≡ n
one_number m n above below = elim (cases_lt m n) [
  | inl less ↦ absurd (above less)
  | inr most ↦ elim (cases_lt n m) [ inl less ↦ absurd (below less) | inr least ↦ omega arith ]
]

pub one_comes : (doc : List Element) (n m : ℕ) (one other : Flaw) → IsFirstFlaw doc n one → IsFirstFlaw doc m other → (n ≡ m) × (place_of one ≡ place_of other)
one_comes doc n m one other p q =
    let same : n ≡ m = one_number n m (λ less. q.first n one p.has less) (λ less. p.first m other q.has less) in (
      same,
      one_number (place_of one) (place_of other) (λ less. q.least one (subst (λ (k : ℕ). HasFlaw doc k one) same p.has) less)
          (λ less. p.least other (subst (λ (k : ℕ). HasFlaw doc k other) (sym same) q.has) less),
    )
