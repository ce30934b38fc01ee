use Rattle.std.proofs.Common.{take}
use Rattle.pssm_plan.specs.inner.Marks.{IsListed}
use Rattle.pssm_plan.proofs.calls.first_place.Given as goal

-- none of the calls so far is one of the item
abbrev pub invariant-loop-k : goal.invariant-loop-k
invariant-loop-k l = IsListed (take l.k l.calls) l.item → ⊥
