-- so many of the transitions out of the vertex are tried
use Rattle.pssm_enabled.specs.Telling.{Tells}
use Rattle.pssm_enabled.specs.inner.Seeking.{GoesOn}
use Rattle.pssm_enabled.proofs.seeking.Search.go_on.Given as goal

abbrev pub invariant-loop-t : goal.invariant-loop-t
invariant-loop-t g l = GoesOn l.machine (Tells l.machine (goal.T-post g l.truth)) l.within l.place l.t-items l.initial.self l.self l.t-index
