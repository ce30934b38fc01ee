use Rattle.pssm_wellformed.specs.inner.Marks.{AreMarksBelow}
use Rattle.pssm_wellformed.proofs.marks.marks_below.Given as goal

abbrev pub invariant-loop-level : goal.invariant-loop-level
invariant-loop-level l = AreMarksBelow l.back l.lowest l.level l.levels.items
