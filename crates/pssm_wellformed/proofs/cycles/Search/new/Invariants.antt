use Rattle.std.proofs.Common.{◌↔◌, ◌<◌, ℕ, Contains}
use Rattle.pssm_wellformed.proofs.cycles.Search.new.Given as goal

abbrev pub invariant-loop-number : goal.invariant-loop-number
invariant-loop-number l = (a : ℕ) → Contains l.ahead.items a ↔ (a < l.number)
