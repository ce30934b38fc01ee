-- Machines that extend others, as two lists: which machine each extends, and how many elements it has of its own.
use Rattle.std.specs.Prelude.{◌≡◌, ◌≢◌, ◌↔◌, ◌≤◌, ◌<◌, ℕ, ◌+◌, min, List, length, map, sum_by, All, AllPairs, Contains, Option, Some, IfSome, option_and_then, slice_get, slice_index_or}
use Rattle.std.specs.List.{AllByRecursion}
use Rattle.pssm_model.specs.declared.draft_setting.Draft.{Draft}
use Rattle.pssm_model.specs.declared.draft_setting.DraftParts.{DraftParts}
use Rattle.pssm_model.specs.DraftSettings.{most_elements}

-- the one that a machine extends
abbrev pub extended : List (Option ℕ) → ℕ → Option ℕ
extended extends m = option_and_then (λ base. base) (slice_get extends m)

-- Each machine extends none, or one that there is.
abbrev pub ExtendWithin : List (Option ℕ) → Type 0
ExtendWithin extends = All (λ base. IfSome base (λ m. m < length extends)) extends

-- The machine is the other one, or extends it, directly or through others (UML 2.5.1 14.3.3, extended State machines).
pub data Reaches (extends : List (Option ℕ)) (m : ℕ) : ℕ → Type 0 where
  itself : Reaches extends m m
  further : (other : ℕ) {base : ℕ} → Reaches extends m other → extended extends other ≡ Some base → Reaches extends m base

-- how many a machine has of its own
abbrev pub count_at : List ℕ → ℕ → ℕ
count_at own m = slice_index_or own m 0

-- The machine keeps the limit together with all that it extends, each counted once (this profile's choice).
abbrev pub AreFew : List (Option ℕ) → List ℕ → ℕ → Type 0
AreFew extends own m =
    (machines : List ℕ) → AllPairs (λ a b. a ≢ b) machines → AllByRecursion (Reaches extends m) machines → sum_by (count_at own) machines ≤ most_elements

-- what the machine has together with all that it extends, each counted once, cut off at one above the limit
pub record IsTotal (extends : List (Option ℕ)) (own : List ℕ) (m total : ℕ) : Type 0 where
  pub machines : List ℕ
  pub different : AllPairs (λ a b. a ≢ b) machines
  pub all : (x : ℕ) → Contains machines x ↔ Reaches extends m x
  pub sum : total ≡ min (most_elements + 1) (sum_by (count_at own) machines)

-- one total for each machine
pub record AreTotals (extends : List (Option ℕ)) (own totals : List ℕ) : Type 0 where
  pub width : length totals ≡ length extends
  pub each : (m : ℕ) → m < length totals → IsTotal extends own m (slice_index_or totals m 0)

-- ---- the machines of a draft

-- which machine each machine of a draft extends
abbrev pub extends_of : Draft → List (Option ℕ)
extends_of draft = map (λ (p : DraftParts). p.extends) draft.machines

-- how many each machine of a draft has of its own, cut off at one above the limit
abbrev pub counts_of : (DraftParts → ℕ) → Draft → List ℕ
counts_of count draft = map (λ p. min (most_elements + 1) (count p)) draft.machines
