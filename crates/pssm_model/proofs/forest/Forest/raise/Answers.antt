-- One region further out has fewer regions above it.
use Rattle.pssm_model.proofs.Nesting.{raising_goes_on, raising_ends, level_falls}
use Rattle.pssm_model.proofs.forest.Forest.raise.Goals as goal

pub loop-at-smaller : goal.loop-at-smaller
loop-at-smaller c =
    level_falls _ c.requires.tables _ _ c.loop-at.invariant.inside c.outer-at.ensures.inside c.outer-at.ensures.outer.nested

pub loop-at-preserved : goal.loop-at-preserved
loop-at-preserved c =
    raising_goes_on _ _ _ _ _ _ c.loop-at.invariant c.level.ensures.depth.1 c.loop-at-test.true c.outer-at.ensures.outer c.outer-at.ensures.inside

pub returns-clause-raised : goal.returns-clause-raised
returns-clause-raised c = raising_ends _ _ _ _ _ c.loop-at.invariant c.level.ensures.depth.1 c.loop-at-test.false
