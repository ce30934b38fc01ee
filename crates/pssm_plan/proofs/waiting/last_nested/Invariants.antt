use Rattle.pssm_plan.specs.inner.Sequence.{IsNestedPair}
use Rattle.pssm_plan.specs.inner.Passes.{AreFreeFrom}
use Rattle.pssm_plan.proofs.waiting.last_nested.Given as goal

-- none of the calls so far holds it up so
abbrev pub invariant-loop-k : goal.invariant-loop-k
invariant-loop-k l = AreFreeFrom (IsNestedPair l.machine) l.calls l.call.item l.k l.fn.end
