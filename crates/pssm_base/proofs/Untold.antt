-- Where nothing is told of what stands in a file, nothing is claimed of it.
use Rattle.std.specs.Prelude.{ℕ, ⊤, IfOk, Result, Ok, Err}

pub untold_read : {E : Type 0} (result : Result ℕ E) → IfOk result (λ n. ⊤)
untold_read (Ok n) = tt
untold_read (Err e) = tt
