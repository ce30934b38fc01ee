use Rattle.std.proofs.Common.{take}
use Rattle.pssm_plan.specs.inner.Sequence.{IsOrderedBySome}
use Rattle.pssm_plan.proofs.ways.each_way_orders.Given as goal

-- none of the ways so far orders the items
abbrev pub invariant-loop-way : goal.invariant-loop-way
invariant-loop-way l = IsOrderedBySome l.machine (take l.way-index l.ways) l.first l.second → ⊥
