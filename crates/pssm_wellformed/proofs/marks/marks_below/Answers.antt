-- each turn makes the marks of one level more
use Rattle.std.proofs.Common.{◌+◌, sym, subst}
use Rattle.pssm_wellformed.specs.inner.Marks.{AreMarksBelow}
use Rattle.pssm_wellformed.proofs.Marking.{marks_pushed}
use Rattle.pssm_wellformed.proofs.marks.marks_below.Goals as goal

pub loop-level-preserved : goal.loop-level-preserved
loop-level-preserved c =
    subst (λ xs. AreMarksBelow c.args.back.now c.args.lowest.now (c.loop-level.level + 1) xs) (sym c.in_ok-push.ensures.items)
    (marks_pushed c.args.back.now c.args.lowest.now c.loop-level.level c.loop-level.levels.items c.in_ok-marks_of.field-0 c.in_ok-marks_of.ensures c.loop-level.invariant)
