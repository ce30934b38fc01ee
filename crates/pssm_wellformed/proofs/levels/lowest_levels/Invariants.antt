use Rattle.pssm_wellformed.specs.inner.Levels.{AreLowestLevels}
use Rattle.pssm_wellformed.proofs.levels.lowest_levels.Given as goal

abbrev pub invariant-loop-number : goal.invariant-loop-number
invariant-loop-number l = AreLowestLevels l.machine l.onward.items l.number l.lowest.items
