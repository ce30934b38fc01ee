-- each of the transitions so far has triggers
use Rattle.std.proofs.Common.{take, Contains}
use Rattle.pssm_model.specs.declared.ids.TransId.{TransId}
use Rattle.pssm_model.specs.Routes.{HasNoTrigger}
use Rattle.pssm_object.proofs.queue.has_completion_transition.Given as goal

abbrev pub invariant-loop-t : goal.invariant-loop-t
invariant-loop-t l = (t : TransId) → Contains (take l.t-index l.t-items) t → HasNoTrigger l.machine t → ⊥
