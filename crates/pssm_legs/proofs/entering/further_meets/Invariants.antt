use Rattle.std.proofs.Common.{take, Contains}
use Rattle.pssm_model.specs.declared.ids.TransId.{TransId}
use Rattle.pssm_legs.specs.inner.Told.{EndsWhere, Meets}
use Rattle.pssm_legs.proofs.entering.further_meets.Given as goal

-- none so far ends on such a vertex
abbrev pub invariant-loop-t : goal.invariant-loop-t
invariant-loop-t l =
    (t : TransId) → Contains (take l.t-index l.fn.leg.further.items) t → EndsWhere l.fn.machine (Meets l.fn.machine l.fn.leg l.fn.aim) t → ⊥
