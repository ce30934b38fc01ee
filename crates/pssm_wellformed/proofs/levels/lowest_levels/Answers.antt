-- the level of one vertex after the other is put behind
use Rattle.std.proofs.Common.{◌<◌, ◌+◌, Contains, sym, subst}
use Rattle.pssm_wellformed.specs.inner.Ends.{vertex_number}
use Rattle.pssm_wellformed.specs.inner.Levels.{IsLowestLevel, AreLowestLevels}
use Rattle.pssm_wellformed.proofs.Lowest.{levels_pushed}
use Rattle.pssm_wellformed.proofs.levels.lowest_levels.Goals as goal

pub lowest_level-requires-clause-others : goal.lowest_level-requires-clause-others
lowest_level-requires-clause-others c b h =
    subst (λ n. b < n) c.requires.width (c.requires.within c.loop-number.number b (subst (λ xs. Contains xs b) c.list_of.ensures h))

pub loop-number-preserved : goal.loop-number-preserved
loop-number-preserved c =
    let m = c.args.machine.now in
    let n = c.loop-number.number in
    let x = c.lowest_level.result in
    subst (λ xs. AreLowestLevels m c.args.onward.now.items (n + 1) xs) (sym c.in_ok-push.ensures.items)
    (levels_pushed m c.args.onward.now.items n x c.loop-number.lowest.items
    (subst (λ xs. IsLowestLevel m (vertex_number n) xs x) c.list_of.ensures c.lowest_level.ensures) c.loop-number.invariant)
