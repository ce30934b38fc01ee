use Rattle.pssm_bodies.proofs.CountLaws.{IsReadTo}
use Rattle.pssm_bodies.proofs.first.read_all.Given as goal

abbrev pub invariant-loop-number : goal.invariant-loop-number
invariant-loop-number l = IsReadTo l.names l.flat l.number l.count l.marks
