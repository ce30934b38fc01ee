-- none of the objects so far has one
use Rattle.pssm_system.specs.inner.Choosing.{NoneMayCome}
use Rattle.pssm_system.proofs.situation.Situation.choose_among.Given as goal

abbrev pub invariant-loop-k : goal.invariant-loop-k
invariant-loop-k l = NoneMayCome l.setting l.self l.wanted l.initial.k l.k
