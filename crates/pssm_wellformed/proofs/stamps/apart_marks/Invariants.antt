use Rattle.pssm_wellformed.specs.inner.Apart.{AreApartMarks, AreStamps}
use Rattle.pssm_wellformed.proofs.stamps.apart_marks.Given as goal

abbrev pub invariant-loop-number : goal.invariant-loop-number
invariant-loop-number l = AreApartMarks l.machine l.near l.far l.number l.marks.items × AreStamps l.machine l.number l.stamps.items
