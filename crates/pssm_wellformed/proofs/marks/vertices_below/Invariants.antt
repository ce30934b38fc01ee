use Rattle.std.proofs.Common.{◌↔◌, ◌<◌, ℕ, get_or, Contains}
use Rattle.pssm_wellformed.proofs.marks.vertices_below.Given as goal

abbrev pub invariant-loop-number : goal.invariant-loop-number
invariant-loop-number l = (a : ℕ) → Contains l.list.items a ↔ ((a < l.number) × (get_or l.lowest a 0 < l.level))
