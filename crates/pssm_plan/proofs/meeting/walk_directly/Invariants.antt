use Rattle.std.proofs.Common.{take}
use Rattle.pssm_model.specs.declared.steps.Item.{Item}
use Rattle.pssm_plan.specs.inner.ByWays.{calls_by}
use Rattle.pssm_plan.specs.inner.Marks.{IsListed}
use Rattle.pssm_plan.proofs.meeting.walk_directly.Given as goal

-- none of the calls so far is of an item that the way calls
abbrev pub invariant-loop-call : goal.invariant-loop-call
invariant-loop-call l = (x : Item) → IsListed (take l.call-index l.calls) x → calls_by l.machine l.way x → ⊥
