use Rattle.std.proofs.Common.{take, Contains}
use Rattle.pssm_model.specs.declared.ids.TransId.{TransId}
use Rattle.pssm_model.specs.Legs.{Leaves}
use Rattle.pssm_legs.proofs.path.one_out.Given as goal

-- none so far leaves the vertex
abbrev pub invariant-loop-t : goal.invariant-loop-t
invariant-loop-t l = (t : TransId) → Contains (take l.t-index l.transitions) t → Leaves l.machine t l.v → ⊥
