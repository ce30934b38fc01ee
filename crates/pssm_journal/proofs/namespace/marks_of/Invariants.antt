use Rattle.std.proofs.Common.{take}
use Rattle.pssm_journal.specs.inner.Places.{HoldsMarks}
use Rattle.pssm_journal.proofs.namespace.marks_of.Given as goal

-- the marks of the first classes
abbrev pub invariant-loop-class : goal.invariant-loop-class
invariant-loop-class l = HoldsMarks (take l.class-index l.classes) l.marks.items
