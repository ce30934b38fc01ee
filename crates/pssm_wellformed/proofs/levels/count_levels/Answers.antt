-- each turn takes one vertex more
use Rattle.std.proofs.Common.{◌+◌, sym, subst}
use Rattle.pssm_wellformed.specs.inner.Levels.{AreLevelsBelow}
use Rattle.pssm_wellformed.proofs.Lowest.{count_higher, count_same}
use Rattle.pssm_wellformed.proofs.levels.count_levels.Goals as goal
use Rattle.pssm_wellformed.proofs.levels.count_levels.Goals.{then-count-own, else-count-own}

pub loop-number-preserved : goal.loop-number-preserved
loop-number-preserved c =
    let m = c.args.machine.now in
    let n = c.loop-number.number in
    let own = c.common_level-own.result in
    elim c.if-count-own.branch [
      | then-count-own w ↦ subst (AreLevelsBelow m (n + 1)) (sym w.count-is)
          (count_higher m n c.loop-number.count own c.common_level-own.ensures.level w.if-count-own.true c.loop-number.invariant)
      | else-count-own w ↦ subst (AreLevelsBelow m (n + 1)) (sym w.count-is)
          (count_same m n c.loop-number.count own c.common_level-own.ensures.level w.if-count-own.false c.loop-number.invariant)
    ]
