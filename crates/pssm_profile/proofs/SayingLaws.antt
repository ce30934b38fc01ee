-- Values that say something.
use Rattle.std.proofs.Common.{◌≡◌, ◌↔◌, ℕ, ℤ, List, Option, Some, refl, subst}
use Rattle.pssm_values.specs.Integers.{SaysInteger}

pub some_said : (own told : Option (List ℕ)) (n : ℤ) → told ≡ own → ((i : ℤ) → (Some n ≡ Some i) ↔ SaysInteger told i) → ((i : ℤ) → SaysInteger own i → ⊥) → ⊥
some_said own told n same tells none = none n (subst (λ (value : Option (List ℕ)). SaysInteger value n) same ((tells n).0 refl))
