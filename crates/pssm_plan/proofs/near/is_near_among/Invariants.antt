use Rattle.std.proofs.Common.{take, Contains}
use Rattle.pssm_model.specs.declared.ids.TransId.{TransId}
use Rattle.pssm_plan.specs.inner.Near.{LeadsNear}
use Rattle.pssm_plan.proofs.near.is_near_among.Given as goal

-- none so far ends near the State
abbrev pub invariant-loop-t : goal.invariant-loop-t
invariant-loop-t l = (t : TransId) → Contains (take l.t-index l.transitions) t → LeadsNear l.machine t l.s → ⊥
