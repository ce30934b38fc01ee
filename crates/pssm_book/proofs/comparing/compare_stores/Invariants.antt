-- the values so far are the same
use Rattle.std.specs.Prelude.{◌≡◌, ◌<◌, ℕ, slice_get}
use Rattle.pssm_book.proofs.comparing.compare_stores.Given as goal

abbrev pub invariant-loop-i : goal.invariant-loop-i
invariant-loop-i l = (k : ℕ) → k < l.i → slice_get l.kept k ≡ slice_get l.carried k
