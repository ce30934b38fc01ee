use Rattle.std.proofs.Common.{◌↔◌, ℕ, Contains}
use Rattle.pssm_wellformed.specs.inner.Walks.{IsLateTargetBelow}
use Rattle.pssm_wellformed.proofs.walks.late_targets.Given as goal

abbrev pub invariant-loop-number : goal.invariant-loop-number
invariant-loop-number l = (b : ℕ) → Contains l.list.items b ↔ IsLateTargetBelow l.machine l.number b
