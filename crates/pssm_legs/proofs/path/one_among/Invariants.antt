use Rattle.std.proofs.Common.{take, Contains}
use Rattle.pssm_model.specs.declared.ids.TransId.{TransId}
use Rattle.pssm_legs.proofs.path.one_among.Given as goal

-- none so far is among the others
abbrev pub invariant-loop-t : goal.invariant-loop-t
invariant-loop-t l = (t : TransId) → Contains (take l.t-index l.some) t → Contains l.transitions t → ⊥
