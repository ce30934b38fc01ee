-- What a closure may be asked of waiting signals, and the first for which it may answer false.
use Rattle.std.specs.Prelude.{◌≡◌, ◌≢◌, ◌<◌, ℕ, List, Bool, true, false, Some, slice_get, Contains}
use Rattle.std.specs.List.{AllByRecursion}
use denote.Ref.{Bor}
use Rattle.pssm_pool.specs.declared.pools.Waiting.{Waiting}

-- Each of the signals may be asked for (this profile's choice).
abbrev pub CanBeAsked : List Waiting → (Bor Waiting → Type 0) → Type 0
CanBeAsked waiting MayAsk = (shown : Bor Waiting) → Contains waiting shown.now → MayAsk shown

-- The signal at the place is the first for which the answer is false: it may be false for it, and true for each before it
-- (this profile's choice).
pub record IsFirstNot (Answers : Waiting → Bool → Type 0) (waiting : List Waiting) (k : ℕ) : Type 0 where
  pub before : (j : ℕ) (w : Waiting) → j < k → slice_get waiting j ≡ Some w → Answers w true
  pub here : (w : Waiting) × (slice_get waiting k ≡ Some w) × Answers w false

-- Two signals that wait are alike: the same signal with the same arguments (this profile's choice).
abbrev pub AreAlike : Waiting → Waiting → Type 0
AreAlike v w = (v.signal ≡ w.signal) × (v.args ≡ w.args)

-- The answer may be the one for a signal that is alike (this profile's choice).
abbrev pub AnswersAlike : (Waiting → Bool → Type 0) → Waiting → Bool → Type 0
AnswersAlike Answers w answer = (v : Waiting) × AreAlike v w × Answers v answer

-- The signal at the place has this number (this profile's choice).
abbrev pub HasNumberAt : List Waiting → ℕ → ℕ → Type 0
HasNumberAt waiting k number = (w : Waiting) × (slice_get waiting k ≡ Some w) × (w.number ≡ number)

-- None of the signals has this number (this profile's choice).
abbrev pub HasNoNumber : List Waiting → ℕ → Type 0
HasNoNumber waiting number = AllByRecursion (λ w. w.number ≢ number) waiting
