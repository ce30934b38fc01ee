use Rattle.std.proofs.Common.{take}
use Rattle.pssm_plan.specs.inner.Sequence.{IsSomeLong}
use Rattle.pssm_plan.proofs.ways.some_is_long.Given as goal

-- none of the ways so far is long
abbrev pub invariant-loop-way : goal.invariant-loop-way
invariant-loop-way l = IsSomeLong (take l.way-index l.ways) → ⊥
