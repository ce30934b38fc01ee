-- no end that was tried makes a line
use Rattle.std.proofs.Common.{ℕ, ◌<◌, ◌++◌, drop}
use Rattle.pssm_lines.specs.inner.Lines.{IsWholeLine}
use Rattle.pssm_lines.proofs.closing.is_ended_by.Given as goal

abbrev pub invariant-loop-cut : goal.invariant-loop-cut
invariant-loop-cut l = (n : ℕ) → n < l.cut → IsWholeLine (l.front ++ drop n l.sample) → ⊥
