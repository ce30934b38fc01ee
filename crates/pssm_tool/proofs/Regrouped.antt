-- Texts that are made of the same pieces, grouped otherwise.
use Rattle.std.proofs.Common.{◌≡◌, IfOk, List, ℕ, Result, Ok, Err, String, string_bytes, ◌∙◌}
use Rattle.std.specs.declared.alloc.Global.{Global}

pub regrouped : {E : Type 0} (r : Result (String Global) E) (x y : List ℕ) → IfOk r (λ s. string_bytes s ≡ x) → x ≡ y → IfOk r (λ s. string_bytes s ≡ y)
regrouped (Ok s) x y h e = h ∙ e
regrouped (Err d) x y h e = tt
