use Rattle.std.proofs.Common.{take}
use Rattle.pssm_plan.specs.inner.Sequence.{IsOpenedBySome}
use Rattle.pssm_plan.proofs.ways.some_way_opens.Given as goal

-- none of the ways so far opens the region
abbrev pub invariant-loop-way : goal.invariant-loop-way
invariant-loop-way l = IsOpenedBySome l.machine (take l.way-index l.ways) l.s l.r → ⊥
