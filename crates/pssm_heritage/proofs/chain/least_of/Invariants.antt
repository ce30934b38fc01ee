use Rattle.std.proofs.Common.{take}
use Rattle.pssm_heritage.specs.inner.Walks.{IsLeast}
use Rattle.pssm_heritage.proofs.chain.least_of.Given as goal

abbrev pub invariant-loop-other : goal.invariant-loop-other
invariant-loop-other l = IsLeast l.fn.first (take l.other-index l.others) l.least
