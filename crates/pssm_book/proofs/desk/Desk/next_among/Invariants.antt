-- none of the objects so far has anything
use Rattle.pssm_book.specs.inner.Nexts.{HaveNothing}
use Rattle.pssm_book.proofs.desk.Desk.next_among.Given as goal

abbrev pub invariant-loop-k : goal.invariant-loop-k
invariant-loop-k l = HaveNothing l.self l.initial.k l.k
