-- Where transitions stand in a list.
use Rattle.std.specs.Prelude.{◌≡◌, ◌⊎◌, ◌<◌, ◌≤◌, ◌+◌, ℕ, suc, List, [], Some, length, slice_get, slice_index_or}
use Rattle.pssm_model.specs.declared.ids.TransId.{TransId}
use Rattle.pssm_legs.specs.declared.further.Span.{Span}

-- nowhere
abbrev pub nowhere : Span
nowhere = record { first = 0; last = 0 }

-- The transition stands among the first few of the list from the one place on and up to the other, at both of them; the places count from 1.
pub record IsSpan (ts : List TransId) (count : ℕ) (t : TransId) (span : Span) : Type 0 where
  pub first_is : (i : ℕ) → span.first ≡ suc i → (i < count) × (slice_get ts i ≡ Some t)
  pub last_is : (i : ℕ) → span.last ≡ suc i → (i < count) × (slice_get ts i ≡ Some t)
  pub around : (i : ℕ) → i < count → slice_get ts i ≡ Some t → (0 < span.first) × (span.first ≤ i + 1) × (i < span.last)

-- The table tells where each transition stands among the first few.
abbrev pub AreSpans : List TransId → ℕ → List Span → Type 0
AreSpans ts count spans = (t : TransId) → IsSpan ts count t (slice_index_or spans t.0 nowhere)

-- There is no table, or it tells where each transition stands in the list.
abbrev pub HasSpans : List TransId → List Span → Type 0
HasSpans ts spans = (spans ≡ []) ⊎ AreSpans ts (length ts) spans
