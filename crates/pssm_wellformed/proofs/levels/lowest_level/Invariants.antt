use Rattle.std.proofs.Common.{take}
use Rattle.pssm_wellformed.specs.inner.Levels.{IsLowestLevel}
use Rattle.pssm_wellformed.proofs.levels.lowest_level.Given as goal

abbrev pub invariant-loop-number : goal.invariant-loop-number
invariant-loop-number l = IsLowestLevel l.machine l.vertex (take l.number-index l.others) l.lowest
