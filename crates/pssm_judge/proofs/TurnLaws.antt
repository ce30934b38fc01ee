-- What is known behind a line that was read.
use Rattle.std.proofs.Common.{ℕ, ◌<◌, ◌≤◌, ◌⊎◌, Result, Ok, Err, Option, Some, None, List, length, inl, arith}
use Rattle.std.specs.Prelude.{IfOk, MatchOption}
use Rattle.pssm_semantics.specs.declared.setting.Setting.{Setting}
use Rattle.pssm_lines.specs.Faults.{IsOpen}
use Rattle.pssm_judge.specs.declared.run.Stop.{Stop}
use Rattle.pssm_judge.specs.declared.place.Behind.{Behind}
use Rattle.pssm_judge.specs.inner.Judging.{IsLessLeft}

-- What is said from one place on is said from an earlier one.
pub onward : {E : Type 0} (r : Result Behind E) (Earlier Later : Setting → List ℕ → Type 0) (from : (s : Setting) (t : List ℕ) → Earlier s t → Later s t) (P : Setting → List ℕ → Behind → Type 0)
    → IfOk r (λ behind. (s : Setting) (t : List ℕ) → Later s t → P s t behind) → IfOk r (λ behind. (s : Setting) (t : List ℕ) → Earlier s t → P s t behind)
onward (Ok behind) Earlier Later from P h = λ s t e. h s t (from s t e)
onward (Err fault) Earlier Later from P h = tt

-- Less is left behind brief lines too.
pub less_left : {E : Type 0} (r : Result Behind E) (after bytes : List ℕ) → length after < length bytes → IfOk r (λ behind. length behind.rest.now ≤ length after) → IfOk r (IsLessLeft bytes)
less_left (Ok behind) after bytes less within = by_stop behind.place.stop where
  by_stop : (o : Option Stop) → MatchOption o ((length behind.rest.now < length bytes) ⊎ IsOpen behind.place.begun behind.rest.now) (λ stop. Unit {0})
  by_stop None = inl (omega (arith, less, within))
  by_stop (Some stop) = tt
less_left (Err fault) after bytes less within = tt
