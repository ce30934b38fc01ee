use Rattle.std.proofs.Common.{take, Contains}
use Rattle.pssm_model.specs.declared.ids.TransId.{TransId}
use Rattle.pssm_wellformed.specs.inner.Strays.{StraysFrom}
use Rattle.pssm_wellformed.proofs.outside.some_stray_from.Given as goal

abbrev pub invariant-loop-transition : goal.invariant-loop-transition
invariant-loop-transition l = (t : TransId) → Contains (take l.transition-index l.transitions) t → StraysFrom l.marked l.owner t → ⊥
