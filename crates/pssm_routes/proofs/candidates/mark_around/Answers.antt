-- Each turn marks the next State around.
use Rattle.pssm_routes.proofs.Around.{marking_more, marking_end, marking_top}
use Rattle.pssm_routes.proofs.candidates.mark_around.Goals as goal

pub returns-in_default-clause-marks : goal.returns-in_default-clause-marks
returns-in_default-clause-marks c =
    marking_end c.args.machine.now c.args.v c.args.marks.now.items c.loop-left.at c.loop-left.left c.loop-left.marks.items c.loop-left.invariant
    c.in_default.ensures.none

pub loop-left-preserved : goal.loop-left-preserved
loop-left-preserved c =
    marking_more c.args.machine.now c.args.v c.args.marks.now.items c.loop-left.at c.in-Some.s c.loop-left.left c.loop-left.marks.items
    c.loop-left.invariant c.in-Some.ensures.there c.in-Some.ensures.around c.in-Some.ensures.innermost

pub returns-clause-marks : goal.returns-clause-marks
returns-clause-marks c =
    marking_end c.args.machine.now c.args.v c.args.marks.now.items c.loop-left.at c.loop-left.left c.loop-left.marks.items c.loop-left.invariant
    (marking_top c.args.machine.now c.args.v c.args.marks.now.items c.loop-left.at c.loop-left.left c.loop-left.marks.items c.loop-left.invariant
    c.loop-left-test.false)
