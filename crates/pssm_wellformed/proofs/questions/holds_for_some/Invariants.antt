use Rattle.std.proofs.Common.{take, Contains}
use Rattle.pssm_wellformed.specs.inner.Questions.{Holds}
use Rattle.pssm_model.specs.declared.ids.TransId.{TransId}
use Rattle.pssm_wellformed.proofs.questions.holds_for_some.Given as goal

abbrev pub invariant-loop-transition : goal.invariant-loop-transition
invariant-loop-transition l = (t : TransId) → Contains (take l.transition-index l.transitions) t → Holds l.machine l.question t → ⊥
