use Rattle.std.proofs.Common.{◌≡◌, ◌≤◌, ℕ, Bool, length}
use Rattle.pssm_acts.specs.Tokens.{cut}
use Rattle.pssm_acts.proofs.tokens.behind_blanks.Given as goal

abbrev pub invariant-loop-rest : goal.invariant-loop-rest
invariant-loop-rest l = ((end : ℕ) (a : Bool) → cut end a 0 l.rest ≡ cut end a 0 l.bytes) × (length l.rest ≤ length l.bytes)

abbrev pub decreases-loop-rest : goal.decreases-loop-rest
decreases-loop-rest l = length l.rest
