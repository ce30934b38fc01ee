use Rattle.pssm_plan.specs.inner.Sequence.{IsSequence}
use Rattle.pssm_plan.specs.inner.Passes.{AreFreeFrom}
use Rattle.pssm_plan.proofs.waiting.look_ahead.Given as goal

-- none of the calls so far holds up the item
abbrev pub invariant-loop-k : goal.invariant-loop-k
invariant-loop-k l = AreFreeFrom (IsSequence l.machine l.ways) l.calls l.call.item l.fn.from l.k
