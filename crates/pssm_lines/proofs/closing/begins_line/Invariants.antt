-- no sample that was tried ends the bytes
use Rattle.std.proofs.Common.{◌≡◌, ℕ, ◌<◌, true, [], get_or}
use Rattle.pssm_lines.specs.inner.Lines.{IsEndedBy, are_alike, samples}
use Rattle.pssm_lines.proofs.closing.begins_line.Given as goal

abbrev pub invariant-loop-number : goal.invariant-loop-number
invariant-loop-number l = (k : ℕ) → k < l.number → are_alike l.bytes (get_or samples k []) ≡ true → IsEndedBy l.bytes (get_or samples k []) → ⊥
