-- the stimuli so far are the same
use Rattle.std.specs.Prelude.{◌≡◌, ◌<◌, ℕ, slice_get}
use Rattle.pssm_workers.proofs.copies.are_same.Given as goal

abbrev pub invariant-loop-i : goal.invariant-loop-i
invariant-loop-i l = (k : ℕ) → k < l.i → slice_get l.one k ≡ slice_get l.other k
