use Rattle.std.proofs.Common.{take, Contains}
use Rattle.pssm_model.specs.declared.ids.TransId.{TransId}
use Rattle.pssm_wellformed.specs.inner.Strays.{ComesFromAfar}
use Rattle.pssm_wellformed.proofs.exits.some_come_from_afar.Given as goal

abbrev pub invariant-loop-transition : goal.invariant-loop-transition
invariant-loop-transition l = (t : TransId) → Contains (take l.transition-index l.transitions) t → ComesFromAfar l.marked l.vertex l.state t → ⊥
