-- each turn takes one vertex more
use Rattle.std.proofs.Common.{◌+◌, get_or, take, refl, sym, subst}
use Rattle.std.proofs.lemmas.List.{take_all}
use Rattle.std.proofs.lemmas.List.Elements.{Contains-get_or}
use Rattle.pssm_wellformed.specs.inner.Levels.{IsLowestLevel}
use Rattle.pssm_wellformed.proofs.Lowest.{lowest_alone, lowest_lower, lowest_same}
use Rattle.pssm_wellformed.proofs.levels.lowest_level.Goals as goal
use Rattle.pssm_wellformed.proofs.levels.lowest_level.Goals.{then-common-lowest, else-common-lowest}

pub loop-number-init : goal.loop-number-init
loop-number-init c = lowest_alone c.args.machine.now c.args.vertex c.common_level-lowest.result c.common_level-lowest.ensures.level

pub common_level-common-requires-clause-other : goal.common_level-common-requires-clause-other
common_level-common-requires-clause-other c =
    let xs = c.args.others.now in
    c.requires.others (get_or xs c.loop-number.number-index 0) (Contains-get_or xs c.loop-number.number-index 0 c.loop-number-test.true)

pub loop-number-preserved : goal.loop-number-preserved
loop-number-preserved c =
    let m = c.args.machine.now in
    let v = c.args.vertex in
    let xs = c.args.others.now in
    let i = c.loop-number.number-index in
    let common = c.common_level-common.result in
    elim c.if-common-lowest.branch [
      | then-common-lowest w ↦ subst (IsLowestLevel m v (take (i + 1) xs)) (sym w.lowest-is)
          (lowest_lower m v xs i (get_or xs i 0) c.loop-number.lowest common c.loop-number-test.true refl w.if-common-lowest.true
          c.common_level-common.ensures.level c.loop-number.invariant)
      | else-common-lowest w ↦ subst (IsLowestLevel m v (take (i + 1) xs)) (sym w.lowest-is)
          (lowest_same m v xs i (get_or xs i 0) c.loop-number.lowest common c.loop-number-test.true refl w.if-common-lowest.false
          c.common_level-common.ensures.level c.loop-number.invariant)
    ]

pub returns : goal.returns
returns c =
    let xs = c.args.others.now in
    subst (λ ys. IsLowestLevel c.args.machine.now c.args.vertex ys c.loop-number.lowest) (take_all c.loop-number.number-index xs c.loop-number-test.false)
    c.loop-number.invariant
