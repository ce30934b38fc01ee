-- none of the objects so far has an entry that may come next
use Rattle.pssm_system.specs.declared.choosing.Wanted.TheVariants.{AnyEntry}
use Rattle.pssm_system.specs.inner.Choosing.{NoneMayCome}
use Rattle.pssm_system.proofs.situation.Situation.is_quiet.Given as goal

abbrev pub invariant-loop-k : goal.invariant-loop-k
invariant-loop-k l = NoneMayCome l.setting l.self AnyEntry 0 l.k
