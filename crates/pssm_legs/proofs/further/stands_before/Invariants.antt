use Rattle.pssm_legs.proofs.SeenBefore.{HasSeen}
use Rattle.pssm_legs.proofs.further.stands_before.Given as goal

-- whether the first has been seen, and not the second after it
abbrev pub invariant-loop-w : goal.invariant-loop-w
invariant-loop-w l = HasSeen l.path l.t l.u l.seen l.w-index
