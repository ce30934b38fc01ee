-- the bytes before this one are digits, and the value is what they spell
use Rattle.std.proofs.Common.{◌≡◌}
use Rattle.pssm_spelling.proofs.DigitRuns.{HasReadDigits}
use Rattle.pssm_spelling.proofs.front.digits_at.Given as goal

abbrev pub invariant-loop-c : goal.invariant-loop-c
invariant-loop-c l = record { at : l.len ≡ l.c-index; read : HasReadDigits l.bytes l.c-index l.value }
