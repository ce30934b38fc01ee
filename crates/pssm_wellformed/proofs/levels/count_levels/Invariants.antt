use Rattle.pssm_wellformed.specs.inner.Levels.{AreLevelsBelow}
use Rattle.pssm_wellformed.proofs.levels.count_levels.Given as goal

abbrev pub invariant-loop-number : goal.invariant-loop-number
invariant-loop-number l = AreLevelsBelow l.machine l.number l.count
