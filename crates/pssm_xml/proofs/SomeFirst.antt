-- Where something has a property, something has it that comes first.
use Rattle.std.proofs.Common.{◌≡◌, ◌<◌, ◌⊎◌, inl, inr, ℕ, zero, suc, arith}

-- Nothing that has the property comes before this: by one number, and by another where that one is the same.
abbrev pub IsLeast : (X : Type 0) (P : X → Type 0) (f g : X → ℕ) → X → Type 0
IsLeast X P f g x = (y : X) → P y → (f y < f x) ⊎ ((f y ≡ f x) × (g y < g x)) → ⊥

module _ (X : Type 0) (P : X → Type 0) (f g : X → ℕ) (none : (x : X) → P x → IsLeast X P f g x → ⊥) where
  -- One that comes before another with these bounds keeps to less.
  lower : (a b : ℕ) → ((x : X) → P x → f x < a → ⊥) → ((x : X) → P x → f x < suc a → g x < b → ⊥)
      → (x : X) → f x < suc a → g x < suc b → IsLeast X P f g x
  lower a b below before x less low y also (inl l) = below y also (omega (arith, less, l))
  lower a b below before x less low y also (inr l) =
      let same = l.0 in let under = l.1 in before y also (omega (arith, less, same)) (omega (arith, low, under))

  within : (a b : ℕ) → ((x : X) → P x → f x < a → ⊥) → (x : X) → P x → f x < suc a → g x < b → ⊥
  within a zero below x has less low = absurd (omega (arith, low))
  within a (suc b) below x has less low = none x has (lower a b below (within a b below) x less low)

  upto : (a : ℕ) (x : X) → P x → f x < a → ⊥
  upto zero x has less = absurd (omega (arith, less))
  upto (suc a) x has less = within a (suc (g x)) (upto a) x has less (omega arith)

  -- Where none comes first, nothing has the property.
  pub some_first : (x : X) → P x → ⊥
  some_first x has = upto (suc (f x)) x has (omega arith)
