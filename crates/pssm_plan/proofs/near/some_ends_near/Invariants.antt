use Rattle.std.proofs.Common.{take}
use Rattle.pssm_plan.specs.inner.Near.{IsNearSome}
use Rattle.pssm_plan.proofs.near.some_ends_near.Given as goal

-- none of the legs so far ends near the State
abbrev pub invariant-loop-leg : goal.invariant-loop-leg
invariant-loop-leg l = IsNearSome l.machine (take l.leg-index l.legs) l.s → ⊥
